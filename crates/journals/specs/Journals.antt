-- What a journal means, what holds of it in every state, and what its calls answer and leave behind. This is all that is known of a journal.
use Rattle.std.specs.Prelude.{◌≡◌, ℕ, ◌+◌, ◌-◌, ◌<◌, ◌≤◌, Bool, true, cond, not, ◌&&◌, List, [], ◌∷◌, ◌++◌, length, Ok, Err, Result, ◌==◌, nat_le, slice_index, slice_index_or}
use Rattle.journals.specs.declared.fault.JournalFault.{JournalFault}
use Rattle.journals.specs.declared.fault.JournalFault.TheVariants.{NotARow, NoSuchRow, NoFreeRow}

-- a journal is a list of rows, and a count of rows that are free
pub record Meaning : Type 0 where
  pub rows : List (List ℕ)
  pub free : ℕ

abbrev pub row_bytes : ℕ
row_bytes = 32

-- rows and free rows are at most so many
abbrev pub most_rows : ℕ
most_rows = 1000000

-- a row has 32 bytes, the first not 0
abbrev pub is_row : List ℕ → Bool
is_row row = length row == row_bytes && not (slice_index row 0 == 0)

abbrev pub Row : List ℕ → Type 0
Row row = (is_row row ≡ true) × ((i : ℕ) → slice_index row i < 256)

-- what holds of every journal in every state
pub record Sound (m : Meaning) : Type 0 where
  pub bounded : length m.rows + m.free ≤ most_rows
  pub shaped : (i : ℕ) → i < length m.rows → Row (slice_index_or m.rows i [])

-- the refusals of append, the first that fits, by the count of free rows
abbrev pub append_check : ℕ → List ℕ → Result Unit JournalFault
append_check free row = cond (is_row row) (cond (free == 0) (Err NoFreeRow) (Ok tt)) (Err NotARow)

-- the refusals of read, the first that fits, by the length; rows are counted from 1
abbrev pub read_check : ℕ → ℕ → List ℕ → Result Unit JournalFault
read_check len k target =
    cond (length target == row_bytes) (cond (nat_le 1 k && nat_le k len) (Ok tt) (Err NoSuchRow)) (Err NotARow)

-- a refusal is answered as it is, and changes nothing
abbrev pub answered : {A : Type 0} → Result Unit JournalFault → A → Result A JournalFault
answered (Ok passed) answer = Ok answer
answered (Err fault) answer = Err fault

abbrev pub changed : {A : Type 0} → Result Unit JournalFault → A → A → A
changed (Ok passed) before after = after
changed (Err fault) before after = before

-- the journal with one row more at its end, and one free row less
abbrev pub with_row : Meaning → List ℕ → Meaning
with_row m row = record { rows = m.rows ++ (row ∷ []); free = m.free - 1 }

abbrev pub append_answer : Meaning → List ℕ → Result ℕ JournalFault
append_answer m row = answered (append_check m.free row) (length m.rows + 1)

abbrev pub append_after : Meaning → List ℕ → Meaning
append_after m row = changed (append_check m.free row) m (with_row m row)

abbrev pub read_answer : Meaning → ℕ → List ℕ → Result Unit JournalFault
read_answer m k target = read_check (length m.rows) k target

-- the target after a read: row k
abbrev pub read_after : Meaning → ℕ → List ℕ → List ℕ
read_after m k target = changed (read_answer m k target) target (slice_index_or m.rows (k - 1) [])
