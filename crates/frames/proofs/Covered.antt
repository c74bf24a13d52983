-- The fields of every layout lie back to back.
use Rattle.std.proofs.Common.{◌≡◌, ℕ, ◌+◌, ◌*◌, List, [], ◌∷◌, ◌++◌, length, refl, arith}
use Rattle.frames.specs.Changes.{pairs, machines_in, counts_in}
use Rattle.frames.specs.Clocks.{machine_fields, count_fields}
use Rattle.frames.specs.Fields.{BackToBack, byte}
use Rattle.frames.specs.Frames.{ChangeCovered, VotesCovered}
use Rattle.std.proofs.lemmas.Bool.Decides.{nat_tests}
use Rattle.std.proofs.lemmas.Grind.{common_steps}
use Rattle.values.specs.Kinds.{Kind}

counts_cover : (from at end : ℕ) (cs : List ℕ) → at ≡ from → end ≡ at + length cs → BackToBack from (count_fields at cs) end
counts_cover from at end [] a e = omega arith
counts_cover from at end (c ∷ cs) a e = (a, counts_cover (at + 1) (at + 1) end cs refl (omega arith))

pairs_cover :
    (n author at previous first end : ℕ) (ms cs : List ℕ)
    → first ≡ at + length ms
    → end ≡ first + length cs
    → BackToBack at (machine_fields n author at previous ms ++ count_fields first cs) end
pairs_cover n author at previous first end [] cs f e = counts_cover at first end cs (omega arith) e
pairs_cover n author at previous first end (m ∷ ms) cs f e = (refl, pairs_cover n author (at + 1) m first end ms cs (omega arith) e)

pub change_covered : ChangeCovered
change_covered n b whole =
    let long : length b ≡ 8 + 2 * pairs b = grind (arith, nat_tests) in (
      refl,
      (
        refl,
        (
          refl,
          (
            refl,
            pairs_cover n (byte b 2) 8 0 (8 + pairs b) (length b) (machines_in b) (counts_in b)
                (grind (arith, common_steps)) (grind (arith, common_steps)),
          ),
        ),
      ),
    )

pub votes_covered : {V : Type 0} (K : Kind V) → VotesCovered K
votes_covered K n b = (λ whole. grind (arith, nat_tests), λ whole. grind (arith, nat_tests))
