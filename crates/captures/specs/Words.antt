-- Frames in words, as the bytes of ASCII text.
use Rattle.std.specs.Prelude.{ℕ, cond, List, [], ◌∷◌, ◌++◌, length, codes, decimal, ◌==◌}
use Rattle.frames.specs.Clocks.{machines_of, counts_of}
use Rattle.frames.specs.Faults.{fault_number}
use Rattle.frames.specs.declared.fault.FrameFault.{FrameFault}
use Rattle.frames.specs.declared.fault.FrameFault.TheVariants.{Kind, Length, Field}
use Rattle.frames.specs.declared.frame.Change.{Change as ChangeRecord}
use Rattle.frames.specs.declared.frame.Frame.{Frame}
use Rattle.frames.specs.declared.frame.Frame.TheVariants.{Change, PlaceContribution, PlaceFill, QuestionContribution, QuestionFill}
use Rattle.std.specs.Fmt.{signed_decimal}
use Rattle.values.specs.declared.level.Level.{Level}

-- two numbers with a point between: an author and a number, or a machine and a count
abbrev pub dotted : ℕ → ℕ → List ℕ
dotted a b = decimal a ++ (codes "." ++ decimal b)

-- each pair behind a space
abbrev pub pair_words : List ℕ → List ℕ → List ℕ
pair_words [] counts = []
pair_words (m ∷ machines) [] = []
pair_words (m ∷ machines) (c ∷ counts) = (codes " " ++ dotted m c) ++ pair_words machines counts

-- the pairs, if there are any
abbrev pub after_words : List ℕ → List ℕ → List ℕ
after_words machines counts = cond (length machines == 0) [] (codes " after" ++ pair_words machines counts)

-- a change before its pairs, and all of it
abbrev pub change_head_words : ChangeRecord → List ℕ
change_head_words c =
    codes "change "
    ++ (dotted c.author c.number ++ (codes " setting " ++ (decimal c.setting ++ (codes " level " ++ signed_decimal c.level))))

abbrev pub change_words : ChangeRecord → List ℕ
change_words c = change_head_words c ++ after_words (machines_of 1 c.forerunners.counts) (counts_of c.forerunners.counts)

-- a contribution and a fill: which ballot, in what round, the words of the value, and who says it
abbrev pub contribution_words : List ℕ → ℕ → ℕ → List ℕ → ℕ → List ℕ
contribution_words subject ballot round value sender =
    codes "contribution "
    ++ (subject
    ++ (codes " "
    ++ (decimal ballot
    ++ (codes " round " ++ (decimal round ++ (codes " value " ++ (value ++ (codes " from " ++ decimal sender))))))))

abbrev pub fill_words : List ℕ → ℕ → List ℕ → ℕ → List ℕ
fill_words subject ballot value sender =
    codes "fill " ++ (subject ++ (codes " " ++ (decimal ballot ++ (codes " value " ++ (value ++ (codes " from " ++ decimal sender))))))

abbrev pub frame_words : Frame Level → List ℕ
frame_words (Change c) = change_words c
frame_words (PlaceContribution c) =
    contribution_words (codes "place") c.ballot c.round (dotted c.value.author c.value.number) c.sender
frame_words (PlaceFill f) = fill_words (codes "place") f.ballot (dotted f.value.author f.value.number) f.sender
frame_words (QuestionContribution c) =
    contribution_words (codes "question") c.ballot c.round (signed_decimal c.value.0) c.sender
frame_words (QuestionFill f) = fill_words (codes "question") f.ballot (signed_decimal f.value.0) f.sender

-- the number of a refusal, and the offset where it carries one
abbrev pub refusal_words : FrameFault → List ℕ
refusal_words Kind = codes "refused " ++ decimal (fault_number Kind)
refusal_words Length = codes "refused " ++ decimal (fault_number Length)
refusal_words (Field offset) = codes "refused " ++ (decimal (fault_number (Field offset)) ++ (codes " offset " ++ decimal offset))
