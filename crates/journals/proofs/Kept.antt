-- A run of appends keeps what was there, and adds what it is handed.
use Rattle.std.proofs.Common.{◌≡◌, ℕ, zero, suc, List, [], ◌∷◌, ◌++◌, take, refl, arith}
use Rattle.std.proofs.lemmas.Bool.Decides.{nat_tests}
use Rattle.std.proofs.lemmas.Grind.{common_steps}
use Rattle.journals.specs.Journals.{append_after}
use Rattle.journals.specs.Runs.{FreeRowsFall, NothingLost, ReadBack, SizeStays, after_all, rows_among}

-- by the count of free rows, since take goes down it
rows_after : (rows : List (List ℕ)) (free : ℕ) (handed : List (List ℕ))
    → (after_all (record { rows = rows; free = free }) handed).rows ≡ rows ++ take free (rows_among handed)
rows_after rows free [] = grind (arith, common_steps)
rows_after rows zero (row ∷ rest) = grind (arith, common_steps, nat_tests, rows_after rows zero rest)
rows_after rows (suc free) (row ∷ rest) =
    grind (arith, common_steps, nat_tests, rows_after rows (suc free) rest, rows_after (rows ++ (row ∷ [])) free rest)

pub nothing_lost : NothingLost
nothing_lost m handed = rows_after m.rows m.free handed

pub free_rows_fall : FreeRowsFall
free_rows_fall m [] = grind (arith, common_steps)
free_rows_fall m (row ∷ rest) = grind (arith, common_steps, nat_tests, free_rows_fall (append_after m row) rest)

pub size_stays : SizeStays
size_stays m [] = refl
size_stays m (row ∷ rest) = grind (arith, common_steps, nat_tests, size_stays (append_after m row) rest)

pub read_back : ReadBack
read_back m row target later k ok long = grind (arith, common_steps, nat_tests, nothing_lost (append_after m row) later)
