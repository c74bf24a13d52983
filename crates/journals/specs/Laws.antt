-- That a drum and a chain are sound journals. These are lemmas, and nothing that a reader has to believe: they stand here because
-- the proof of a law, which an impl gives, can cite no other place.
use Rattle.std.specs.Prelude.{◌≡◌, ℕ, ◌+◌, ◌<◌, ◌≤◌, ◌++◌, Bool, true, false, [], length, take, nat_le, slice_index_or}
use Rattle.std.proofs.Common.{arith, rules}
use Rattle.std.proofs.lemmas.Bool.{cond_both, cond-true, cond-false, leb-true}
use Rattle.std.proofs.lemmas.Grind.{common_steps}
use Rattle.std.proofs.lemmas.List.{length-take-le}
use Rattle.journals.specs.Journals.{Meaning, Row, Sound, most_rows}
use Rattle.journals.specs.Makes.{both, chained, drum_meaning, drum_rows, empty, joined}
use Rattle.journals.specs.declared.table.Table.{Table}

-- the shape of the rows that are used
abbrev pub Shaped : Table → Type 0
Shaped t = (i : ℕ) → i < t.used → Row (slice_index_or t.rows i [])

module _ (t : Table) (sized : length t.rows ≡ drum_rows) where
  pub drum_length : t.used ≤ drum_rows → length (take t.used t.rows) ≡ t.used
  drum_length few = length-take-le t.used t.rows (omega (arith, sized, few))

  pub drum_sound : t.used ≤ drum_rows → Shaped t → Sound (drum_meaning t)
  drum_sound few shaped = record {
    bounded = omega (arith, drum_length few);
    shaped = λ i lt. grind (arith, common_steps, shaped);
  }

-- whether two journals can be one
abbrev pub Fit : Meaning → Meaning → Bool
Fit a b = nat_le (both a b) most_rows

module _ (a b : Meaning) where
  pub chain_fits : Fit a b ≡ true → chained a b ≡ joined a b
  chain_fits fits = cond-true _ _ _ fits

  pub chain_empty : Fit a b ≡ false → chained a b ≡ empty 0
  chain_empty over = cond-false _ _ _ over

  joined_bounded : both a b ≤ most_rows → length (a.rows ++ b.rows) + (joined a b).free ≤ most_rows
  joined_bounded few = grind (arith, common_steps)

  joined_shaped : Sound a → Sound b → (i : ℕ) → i < length (a.rows ++ b.rows) → Row (slice_index_or (a.rows ++ b.rows) i [])
  joined_shaped sa sb i lt = grind (arith, common_steps, sa.shaped, sb.shaped)

  pub chain_sound : Sound a → Sound b → Sound (chained a b)
  chain_sound sa sb = cond_both (Fit a b) (joined a b) (empty 0) Sound
      (λ fits. record { bounded = joined_bounded (leb-true (both a b) most_rows fits); shaped = joined_shaped sa sb })
      (λ over. search (rules, common_steps))
