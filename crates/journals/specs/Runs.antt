-- What a journal keeps over a run of appends.
use Rattle.std.specs.Prelude.{◌≡◌, ℕ, ◌+◌, ◌-◌, cond, List, [], ◌∷◌, ◌++◌, length, take, Ok}
use Rattle.journals.specs.Journals.{Meaning, append_after, append_answer, is_row, read_after, read_answer, row_bytes}

-- the journal after these were handed to append, one after the other
abbrev pub after_all : Meaning → List (List ℕ) → Meaning
after_all m [] = m
after_all m (row ∷ rest) = after_all (append_after m row) rest

-- those among them that are rows
abbrev pub rows_among : List (List ℕ) → List (List ℕ)
rows_among [] = []
rows_among (row ∷ rest) = cond (is_row row) (row ∷ rows_among rest) (rows_among rest)

-- nothing is lost, reordered or invented: behind the rows that were there stand those handed in, in their order, as many as were free
abbrev pub NothingLost : Type 0
NothingLost = (m : Meaning) (handed : List (List ℕ)) → (after_all m handed).rows ≡ m.rows ++ take m.free (rows_among handed)

-- each takes one free row, as long as there is one
abbrev pub FreeRowsFall : Type 0
FreeRowsFall = (m : Meaning) (handed : List (List ℕ)) → (after_all m handed).free ≡ m.free - length (rows_among handed)

-- so rows and free rows together stay as many
abbrev pub SizeStays : Type 0
SizeStays =
    (m : Meaning) (handed : List (List ℕ))
    → length (after_all m handed).rows + (after_all m handed).free ≡ length m.rows + m.free

-- a row that was accepted is read under the number that was answered, whatever was handed in later
abbrev pub ReadBack : Type 0
ReadBack =
    (m : Meaning) (row target : List ℕ) (later : List (List ℕ)) (k : ℕ)
    → append_answer m row ≡ Ok k
    → length target ≡ row_bytes
    → (read_answer (after_all (append_after m row) later) k target ≡ Ok tt)
    × (read_after (after_all (append_after m row) later) k target ≡ row)
