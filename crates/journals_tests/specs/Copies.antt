-- A journal of equal rows, of which no further one is free.
use Rattle.std.specs.Prelude.{ℕ, List, replicate}
use Rattle.journals.specs.Journals.{Meaning, row_bytes}

abbrev pub sevens : List ℕ
sevens = replicate row_bytes 7

abbrev pub copies : ℕ → Meaning
copies n = record { rows = replicate n sevens; free = 0 }
