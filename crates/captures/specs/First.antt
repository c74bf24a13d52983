-- The first line of a capture.
use Rattle.std.specs.Prelude.{◌≡◌, ℕ, ◌+◌, ◌≤◌, cond, List, [], ◌∷◌, Some, None, Option, ◌≢◌}
use Rattle.captures.specs.Hex.{blank}
use Rattle.values.specs.declared.fleet_size.FleetSize.{FleetSize}

-- a line without its blanks
abbrev pub unblanked : List ℕ → List ℕ
unblanked [] = []
unblanked (c ∷ line) = cond (blank c) (unblanked line) (c ∷ unblanked line)

-- the element of a list that has just one
abbrev pub only : List ℕ → Option ℕ
only [] = None
only (c ∷ []) = Some c
only (c ∷ d ∷ rest) = None

-- a text says a size if it is the one digit of it (48 is the digit 0); there is none only where it says no size of 1 to 9
abbrev pub SaysSize : List ℕ → Option FleetSize → Type 0
SaysSize text (Some size) = text ≡ (48 + size.machines) ∷ []
SaysSize text None = (n : ℕ) → 1 ≤ n → n ≤ 9 → text ≢ (48 + n) ∷ []
