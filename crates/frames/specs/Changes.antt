-- The change frame, kind 1.
use Rattle.std.specs.Prelude.{◌≡◌, ℕ, ◌+◌, ◌-◌, ◌*◌, ◌≤◌, Bool, true, ◌&&◌, List, [], ◌∷◌, ◌++◌, length, take, drop, FitsSigned, ◌==◌, nat_le, slice_index, slice_index_or}
use Rattle.std.specs.Int.{w16}
use Rattle.frames.specs.Clocks.{machines_of, counts_of, clock_of, machine_fields, count_fields}
use Rattle.frames.specs.Fields.{Field, Layout, field, byte, word, high, low, within}
use Rattle.frames.specs.declared.frame.Change.{Change}
use Rattle.values.specs.Levels.{signed_high, signed_low, signed_of}

-- m, the number of pairs, stands at offset 1; behind the eight bytes before them come m machine numbers, then m counts
abbrev pub pairs : List ℕ → ℕ
pairs bytes = byte bytes 1

abbrev pub machines_in : List ℕ → List ℕ
machines_in bytes = take (pairs bytes) (drop 8 bytes)

abbrev pub counts_in : List ℕ → List ℕ
counts_in bytes = drop (pairs bytes) (drop 8 bytes)

abbrev pub fixed_fields : ℕ → List ℕ → List Field
fixed_fields n bytes =
    field 2 1 (within 1 n (byte bytes 2))
    ∷ field 3 1 (within 1 40 (byte bytes 3))
    ∷ field 4 2 (within 0 999 (word bytes 4))
    ∷ field 6 2 true
    ∷ []

abbrev pub pair_fields : ℕ → List ℕ → List Field
pair_fields n bytes =
    machine_fields n (byte bytes 2) 8 0 (machines_in bytes) ++ count_fields (8 + pairs bytes) (counts_in bytes)

abbrev pub change_in : List ℕ → Change
change_in bytes =
    record {
      author = byte bytes 2;
      number = byte bytes 3;
      setting = word bytes 4;
      level = signed_of (byte bytes 6) (byte bytes 7);
      forerunners = record { counts = clock_of 9 1 (machines_in bytes) (counts_in bytes) };
    }

abbrev pub change_whole : List ℕ → Bool
change_whole bytes = nat_le (pairs bytes) 8 && length bytes == 8 + 2 * pairs bytes

abbrev pub change_layout : ℕ → List ℕ → Layout Change
change_layout n bytes =
    record { whole = change_whole bytes; fields = fixed_fields n bytes ++ pair_fields n bytes; shown = change_in bytes }

-- the bytes that a change is written in: eight before the pairs, then the machine numbers, then the counts
abbrev pub head_spelling : Change → ℕ → List ℕ
head_spelling c m =
    1
    ∷ m
    ∷ c.author
    ∷ c.number
    ∷ high c.setting
    ∷ low c.setting
    ∷ signed_high c.level
    ∷ signed_low c.level
    ∷ []

abbrev pub change_spelling : Change → List ℕ
change_spelling c =
    head_spelling c (length (counts_of c.forerunners.counts))
    ++ (machines_of 1 c.forerunners.counts ++ counts_of c.forerunners.counts)

-- a change that there can be in a fleet of n machines
pub record ValidChange (n : ℕ) (c : Change) : Type 0 where
  pub author_least : 1 ≤ c.author
  pub author_most : c.author ≤ n
  pub number_least : 1 ≤ c.number
  pub number_most : c.number ≤ 40
  pub setting_most : c.setting ≤ 999
  -- any level of 16 bits
  pub level_fits : FitsSigned w16 c.level
  -- one count for each of nine machines, at most 40, and no pair for the author or for a machine above n
  pub nine : length c.forerunners.counts ≡ 9
  pub counts_most : (j : ℕ) → slice_index c.forerunners.counts j ≤ 40
  pub no_own : slice_index_or c.forerunners.counts (c.author - 1) 0 ≡ 0
  pub none_above : (j : ℕ) → n ≤ j → slice_index c.forerunners.counts j ≡ 0
