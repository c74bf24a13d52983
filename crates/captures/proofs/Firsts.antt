-- The one character of a line, by what the search for it found.
use Rattle.std.proofs.Common.{◌≡◌, ℕ, ◌≤◌, ◌⊎◌, inl, inr, Bool, not, List, [], ◌∷◌, length, filter, count_by, Result, Ok, Err, None, IfOk, IfErr, sym, refl, arith}
use Rattle.captures.specs.First.{only, unblanked}
use Rattle.captures.specs.Hex.{blank}
use Rattle.std.specs.Result.{result_ok}
use Rattle.std.proofs.lemmas.Grind.{common_steps}
use Rattle.std.proofs.lemmas.List.Sums.{length-filter}

-- a character is kept if it is no blank
abbrev pub kept : ℕ → Bool
kept c = not (blank c)

unblanked_filter : (line : List ℕ) → unblanked line ≡ filter kept line
unblanked_filter [] = refl
unblanked_filter (c ∷ line) = grind (arith, common_steps, unblanked_filter line)

only_two : (text : List ℕ) → 2 ≤ length text → only text ≡ None
only_two [] two = absurd (omega arith)
only_two (c ∷ []) two = absurd (omega arith)
only_two (c ∷ d ∷ rest) two = refl

pub only_found :
    {E : Type 0} (r : Result ℕ E) (line : List ℕ)
    → IfOk r (λ c. filter kept line ≡ c ∷ [])
    → IfErr r (λ _. (filter kept line ≡ []) ⊎ (2 ≤ count_by kept line))
    → result_ok r ≡ only (unblanked line)
only_found (Ok c) line one none = rw (unblanked_filter line, one) refl
only_found (Err e) line one (inl empty) = rw (unblanked_filter line, empty) refl
only_found (Err e) line one (inr two) =
    rw (unblanked_filter line) (sym (only_two (filter kept line) (rw (length-filter kept line) two)))
