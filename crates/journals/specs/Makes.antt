-- What a drum and a chain mean.
use Rattle.std.specs.Prelude.{ℕ, ◌+◌, ◌-◌, Bool, cond, not, ◌&&◌, List, [], ◌++◌, length, take, ◌==◌, nat_le, slice_set}
use Rattle.journals.specs.Journals.{Meaning, most_rows}
use Rattle.journals.specs.declared.table.Table.{Table}

-- a journal without rows that has so many free ones
abbrev pub empty : ℕ → Meaning
empty free = record { rows = []; free = free }

abbrev pub drum_rows : ℕ
drum_rows = 48

-- a drum: a table of 48 rows, of which the first are used
abbrev pub drum_meaning : Table → Meaning
drum_meaning table = record { rows = take table.used table.rows; free = drum_rows - table.used }

-- the table with a row in the next place
abbrev pub pushed : Table → List ℕ → Table
pushed table row = record { rows = slice_set table.rows table.used row; used = table.used + 1 }

-- rows and free rows of two journals together
abbrev pub both : Meaning → Meaning → ℕ
both first second = length first.rows + first.free + (length second.rows + second.free)

-- the two as one: both lists joined; the free rows of the first count as long as the second is empty
abbrev pub joined : Meaning → Meaning → Meaning
joined first second = record {
  rows = first.rows ++ second.rows;
  free = cond (length second.rows == 0) (first.free + second.free) second.free;
}

-- a chain; one of more rows and free rows than a journal can have is empty and has no free row
abbrev pub chained : Meaning → Meaning → Meaning
chained first second = cond (nat_le (both first second) most_rows) (joined first second) (empty 0)

-- a row that is appended to a chain goes to the first journal while the second is empty and the first has a free row, else to the second
abbrev pub goes_first : Meaning → Meaning → Bool
goes_first first second = length second.rows == 0 && not (first.free == 0)
