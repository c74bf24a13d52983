-- Worked examples, in every fleet.
use Rattle.std.specs.Prelude.{◌≡◌, ℕ, ◌≤◌, [], ◌∷◌, negsuc, Ok, Err}
use Rattle.frames.specs.Frames.{reading}
use Rattle.frames.specs.declared.fault.FrameFault.TheVariants.{Field}
use Rattle.frames.specs.declared.frame.Frame.TheVariants.{Change, QuestionFill}
use Rattle.values.specs.Levels.{level_kind}

-- 05 01 00 03 FE 70 fills question 3 with −400
abbrev pub FillsWithColdest : Type 0
FillsWithColdest =
    (n : ℕ)
    → 1 ≤ n
    → n ≤ 9
    → reading level_kind n (0x05 ∷ 0x01 ∷ 0x00 ∷ 0x03 ∷ 0xFE ∷ 0x70 ∷ [])
    ≡ Ok (QuestionFill (record { sender = 1; ballot = 3; value = record { 0 = negsuc 399 } }))

-- one tenth colder, FE 6F, is refused 4 at offset 4
abbrev pub RefusesColder : Type 0
RefusesColder =
    (n : ℕ) → 1 ≤ n → n ≤ 9 → reading level_kind n (0x05 ∷ 0x01 ∷ 0x00 ∷ 0x03 ∷ 0xFE ∷ 0x6F ∷ []) ≡ Err (Field 4)

-- 01 00 01 01 00 0C FF CE is the first change of machine 1: setting 12 to −50, with no forerunner
abbrev pub ReadsFirstChange : Type 0
ReadsFirstChange =
    (n : ℕ)
    → 1 ≤ n
    → n ≤ 9
    → reading level_kind n (0x01 ∷ 0x00 ∷ 0x01 ∷ 0x01 ∷ 0x00 ∷ 0x0C ∷ 0xFF ∷ 0xCE ∷ [])
    ≡ Ok
    (Change
    (record {
      author = 1;
      number = 1;
      setting = 12;
      level = negsuc 49;
      forerunners = record { counts = 0 ∷ 0 ∷ 0 ∷ 0 ∷ 0 ∷ 0 ∷ 0 ∷ 0 ∷ 0 ∷ [] };
    }))
