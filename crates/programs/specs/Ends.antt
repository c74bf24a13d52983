-- How a program ends.
use Rattle.std.specs.Prelude.{ℕ, Ok, Err, Result}

-- the exit status: 0 after success, 1 after an error
abbrev pub status_of : {A E : Type 0} → Result A E → ℕ
status_of (Ok a) = 0
status_of (Err e) = 1
