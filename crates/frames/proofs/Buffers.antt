-- Writing parts one behind the other into a buffer.
use Rattle.std.proofs.Common.{◌≡◌, ℕ, ◌+◌, ◌≤◌, true, leb, List, ◌++◌, length, take, drop, sym, refl, ◌∙◌, zero-add, arith}
use Rattle.std.proofs.lemmas.List.{append_assoc, length-append, take_at}
use Rattle.std.proofs.lemmas.Slice.{drop-append-drop}
use Rattle.std.proofs.lemmas.Bool.{le-leb}

-- a part behind what is written already
part_behind :
    (done part buffer : List ℕ) (at : ℕ)
    → length done ≡ at
    → take at (done ++ drop at buffer) ++ (part ++ drop (at + length part) (done ++ drop at buffer))
    ≡ (done ++ part) ++ drop (at + length part) buffer
part_behind done part buffer at e =
    let t = take_at done (drop at buffer) at e in
    let d = drop-append-drop at buffer done (at + length part) (omega arith) e in
    rw (t, d) (sym (append_assoc done part (drop (at + length part) buffer)))

module _ (h ms cs : List ℕ) where
  length_parts : length (h ++ (ms ++ cs)) ≡ length h + length ms + length cs
  length_parts = simp length-append (omega arith)

  pub three_parts :
      (b b1 b2 b3 : List ℕ)
      → b1 ≡ take 0 b ++ (h ++ drop (0 + length h) b)
      → b2 ≡ take (length h) b1 ++ (ms ++ drop (length h + length ms) b1)
      → b3 ≡ take (length h + length ms) b2 ++ (cs ++ drop (length h + length ms + length cs) b2)
      → b3 ≡ (h ++ (ms ++ cs)) ++ drop (length (h ++ (ms ++ cs))) b
  three_parts b b1 b2 b3 e1 e2 e3 =
      let f1 : b1 ≡ h ++ drop (length h) b = simp zero-add at e1 in
      let f2 : b2 ≡ (h ++ ms) ++ drop (length h + length ms) b = (rw f1 at e2) ∙ part_behind h ms b (length h) refl in
      let f3 : b3 ≡ ((h ++ ms) ++ cs) ++ drop (length h + length ms + length cs) b =
      (rw f2 at e3) ∙ part_behind (h ++ ms) cs b (length h + length ms) (length-append h ms)
      in
      f3 ∙ rw (length_parts, append_assoc h ms cs)

  pub room :
      (b : List ℕ)
      → length h + length ms + length cs ≤ length b
      → leb (length (h ++ (ms ++ cs))) (length b) ≡ true
  room b l = rw length_parts (le-leb _ _ l)
