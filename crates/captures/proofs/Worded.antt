-- The words of pairs, one pair at a time.
use Rattle.std.proofs.Common.{◌≡◌, ℕ, ◌<◌, ◌≤◌, List, [], ◌∷◌, ◌++◌, codes, length, map, refl, ap, take, arith}
use Rattle.std.proofs.lemmas.List.{take_all}
use Rattle.std.proofs.lemmas.Grind.{common_steps}
use Rattle.std.specs.List.{flat_map}
use Rattle.captures.specs.Words.{after_words, dotted, pair_words}
use Rattle.frames.specs.declared.pairs.Pair.{Pair}

-- a pair behind a space
abbrev pub pair_text : Pair → List ℕ
pair_text p = codes " " ++ dotted p.machine p.count

pub by_pair : (ps : List Pair) → pair_words (map (λ (p : Pair). p.machine) ps) (map (λ (p : Pair). p.count) ps) ≡ flat_map pair_text ps
by_pair [] = refl
by_pair (p ∷ ps) = ap (λ (t : List ℕ). pair_text p ++ t) (by_pair ps)

-- all pairs, if there are any
pub all_after :
    (ps : List Pair) (n : ℕ) (machines counts : List ℕ)
    → map (λ (p : Pair). p.machine) ps ≡ machines
    → map (λ (p : Pair). p.count) ps ≡ counts
    → 0 < length ps
    → length ps ≤ n
    → codes " after" ++ flat_map pair_text (take n ps) ≡ after_words machines counts
all_after ps n machines counts m c some all =
    rw (take_all n ps all, ← m, ← c) (grind (arith, common_steps, by_pair ps))
