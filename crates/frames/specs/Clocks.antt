-- The forerunners of a change: as a clock, one count for each of nine machines, and as the pairs of a frame.
use Rattle.std.specs.Prelude.{ℕ, zero, suc, ◌+◌, Bool, cond, not, ◌&&◌, List, [], ◌∷◌, ◌==◌, nat_le, nat_lt}
use Rattle.frames.specs.Fields.{Field, field, within}

-- the machine numbers of a clock's pairs, rising; the clock begins at machine j
abbrev pub machines_of : ℕ → List ℕ → List ℕ
machines_of j [] = []
machines_of j (c ∷ clock) = cond (c == 0) (machines_of (j + 1) clock) (j ∷ machines_of (j + 1) clock)

-- the counts of a clock's pairs, in the same order
abbrev pub counts_of : List ℕ → List ℕ
counts_of [] = []
counts_of (c ∷ clock) = cond (c == 0) (counts_of clock) (c ∷ counts_of clock)

-- the clock of `size` machines from j on that has these pairs: a machine that is not named counts 0
abbrev pub clock_of : ℕ → ℕ → List ℕ → List ℕ → List ℕ
clock_of zero j machines counts = []
clock_of (suc size) j [] counts = 0 ∷ clock_of size (j + 1) [] counts
clock_of (suc size) j (m ∷ machines) [] = 0 ∷ clock_of size (j + 1) (m ∷ machines) []
clock_of (suc size) j (m ∷ machines) (c ∷ counts) =
    cond (m == j) (c ∷ clock_of size (j + 1) machines counts) (0 ∷ clock_of size (j + 1) (m ∷ machines) (c ∷ counts))

-- a machine number is above the one before it (the first is above 0), at most n, and not the author
abbrev pub machine_fits : ℕ → ℕ → ℕ → ℕ → Bool
machine_fits n author previous m = nat_lt previous m && (nat_le m n && not (m == author))

-- machine numbers from an offset on
abbrev pub machine_fields : ℕ → ℕ → ℕ → ℕ → List ℕ → List Field
machine_fields n author at previous [] = []
machine_fields n author at previous (m ∷ machines) =
    field at 1 (machine_fits n author previous m) ∷ machine_fields n author (at + 1) m machines

-- counts from an offset on: each is 1 to 40
abbrev pub count_fields : ℕ → List ℕ → List Field
count_fields at [] = []
count_fields at (c ∷ counts) = field at 1 (within 1 40 c) ∷ count_fields (at + 1) counts
