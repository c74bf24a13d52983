-- Frames of every kind: what bytes read as, what a frame is written in, and which frames there are.
use Rattle.std.specs.Prelude.{◌≡◌, ℕ, true, cond, ◌⊎◌, List, length, Ok, Err, Result, ◌==◌, ◌≢◌}
use Rattle.frames.specs.Changes.{change_layout, change_spelling, ValidChange}
use Rattle.frames.specs.Fields.{BackToBack, Refuses, byte, answered}
use Rattle.frames.specs.Votes.{contribution_layout, contribution_spelling, ValidContribution, fill_layout, fill_spelling, ValidFill}
use Rattle.frames.specs.declared.fault.FrameFault.{FrameFault}
use Rattle.frames.specs.declared.fault.FrameFault.TheVariants.{Kind as UnknownKind}
use Rattle.frames.specs.declared.frame.Frame.{Frame}
use Rattle.frames.specs.declared.frame.Frame.TheVariants.{Change, PlaceContribution, PlaceFill, QuestionContribution, QuestionFill}
use Rattle.values.specs.Kinds.{Kind}
use Rattle.values.specs.Marks.{mark_kind}

-- a record as a frame; a refusal stays
abbrev pub framed : {F G : Type 0} → (F → G) → Result F FrameFault → Result G FrameFault
framed make (Ok f) = Ok (make f)
framed make (Err fault) = Err fault

-- what bytes read as: the first byte (0, which is no kind, where there is none) is the kind, and decides the layout
abbrev pub question_reading : {Q : Type 0} → Kind Q → ℕ → List ℕ → Result (Frame Q) FrameFault
question_reading K n bytes =
    cond (byte bytes 0 == K.contribution) (framed QuestionContribution (answered (contribution_layout K n bytes)))
    (cond (byte bytes 0 == K.fill) (framed QuestionFill (answered (fill_layout K n bytes)))
    (Err UnknownKind))

abbrev pub reading : {Q : Type 0} → Kind Q → ℕ → List ℕ → Result (Frame Q) FrameFault
reading K n bytes =
    cond (byte bytes 0 == 1) (framed Change (answered (change_layout n bytes)))
    (cond (byte bytes 0 == mark_kind.contribution) (framed PlaceContribution (answered (contribution_layout mark_kind n bytes)))
    (cond (byte bytes 0 == mark_kind.fill) (framed PlaceFill (answered (fill_layout mark_kind n bytes)))
    (question_reading K n bytes)))

-- the bytes that a frame is written in
abbrev pub spelling : {Q : Type 0} → Kind Q → Frame Q → List ℕ
spelling K (Change c) = change_spelling c
spelling K (PlaceContribution c) = contribution_spelling mark_kind c
spelling K (PlaceFill f) = fill_spelling mark_kind f
spelling K (QuestionContribution c) = contribution_spelling K c
spelling K (QuestionFill f) = fill_spelling K f

-- the frames that there are in a fleet of n machines
abbrev pub Valid : {Q : Type 0} → Kind Q → ℕ → Frame Q → Type 0
Valid K n (Change c) = ValidChange n c
Valid K n (PlaceContribution c) = ValidContribution mark_kind n c
Valid K n (PlaceFill f) = ValidFill mark_kind n f
Valid K n (QuestionContribution c) = ValidContribution K n c
Valid K n (QuestionFill f) = ValidFill K n f

abbrev pub OfNoKind : {Q : Type 0} → Kind Q → ℕ → Type 0
OfNoKind K kind =
    (kind ≢ 1) × (kind ≢ 2) × (kind ≢ 3) × (kind ≢ K.contribution) × (kind ≢ K.fill)

-- the first refusal that fits: the first byte is no kind, or the layout of its kind refuses
abbrev pub FirstRefusal : {Q : Type 0} → Kind Q → ℕ → List ℕ → FrameFault → Type 0
FirstRefusal K n bytes fault =
    ((fault ≡ UnknownKind) × OfNoKind K (byte bytes 0))
    ⊎ (((byte bytes 0 ≡ 1) × Refuses (change_layout n bytes) fault)
    ⊎ (((byte bytes 0 ≡ 2) × Refuses (contribution_layout mark_kind n bytes) fault)
    ⊎ (((byte bytes 0 ≡ 3) × Refuses (fill_layout mark_kind n bytes) fault)
    ⊎ (((byte bytes 0 ≡ K.contribution) × Refuses (contribution_layout K n bytes) fault)
    ⊎ ((byte bytes 0 ≡ K.fill) × Refuses (fill_layout K n bytes) fault)))))

-- in bytes of the right length every byte behind the kind, and behind m in a change, belongs to exactly one field
abbrev pub ChangeCovered : Type 0
ChangeCovered =
    (n : ℕ) (bytes : List ℕ)
    → (change_layout n bytes).whole ≡ true
    → BackToBack 2 (change_layout n bytes).fields (length bytes)

abbrev pub VotesCovered : {V : Type 0} → Kind V → Type 0
VotesCovered K =
    (n : ℕ) (bytes : List ℕ)
    → ((contribution_layout K n bytes).whole ≡ true → BackToBack 1 (contribution_layout K n bytes).fields (length bytes))
    × ((fill_layout K n bytes).whole ≡ true → BackToBack 1 (fill_layout K n bytes).fields (length bytes))
