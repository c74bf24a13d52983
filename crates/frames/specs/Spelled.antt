-- One frame, one spelling.
use Rattle.std.specs.Prelude.{◌≡◌, ℕ, ◌<◌, ◌≤◌, List, take, Ok, Err, Result, ◌≢◌, slice_index}
use Rattle.frames.specs.Frames.{FirstRefusal, reading, spelling, Valid}
use Rattle.frames.specs.declared.fault.BufferTooShort.{BufferTooShort}
use Rattle.frames.specs.declared.fault.FrameFault.{FrameFault}
use Rattle.frames.specs.declared.frame.Frame.{Frame}
use Rattle.values.specs.Kinds.{Kind}

-- numbers that are bytes
abbrev pub Bytes : List ℕ → Type 0
Bytes bytes = (i : ℕ) → slice_index bytes i < 256

-- an answer to bytes: a frame exactly if the bytes are the spelling of a valid one, and then that one
abbrev pub Spelled : {Q : Type 0} → Kind Q → ℕ → List ℕ → Result (Frame Q) FrameFault → Type 0
Spelled K n bytes (Ok f) = Valid K n f × (bytes ≡ spelling K f)
Spelled {Q} K n bytes (Err fault) = (f : Frame Q) → Valid K n f → bytes ≢ spelling K f

-- a refused answer is the first refusal that fits
abbrev pub RefusedFirst : {Q : Type 0} → Kind Q → ℕ → List ℕ → Result (Frame Q) FrameFault → Type 0
RefusedFirst K n bytes (Ok f) = Unit {0}
RefusedFirst K n bytes (Err fault) = FirstRefusal K n bytes fault

-- what is written for a valid frame is read back as that frame
abbrev pub ReadsBack : {Q : Type 0} → Kind Q → Type 0
ReadsBack {Q} K =
    (n : ℕ) (f : Frame Q) → 1 ≤ n → n ≤ 9 → Valid K n f → reading K n (spelling K f) ≡ Ok f

-- the bytes that an accepted writing of a valid frame leaves in a buffer read as that frame, in every fleet that it is valid in
abbrev pub FoundBack : {Q : Type 0} → Kind Q → Frame Q → Result ℕ BufferTooShort → List ℕ → Type 0
FoundBack K f (Ok length) buffer = (n : ℕ) → 1 ≤ n → n ≤ 9 → Valid K n f → reading K n (take length buffer) ≡ Ok f
FoundBack K f (Err fault) buffer = Unit {0}

-- two frames that are read from the same bytes are the same
abbrev pub SameFromSameBytes : {Q : Type 0} → Kind Q → Type 0
SameFromSameBytes {Q} K =
    (n : ℕ) (bytes : List ℕ) (f g : Frame Q) → reading K n bytes ≡ Ok f → reading K n bytes ≡ Ok g → f ≡ g

-- two byte strings that read as the same frame are the same
abbrev pub SameFromSameFrame : {Q : Type 0} → Kind Q → Type 0
SameFromSameFrame {Q} K =
    (n : ℕ) (bytes others : List ℕ) (f : Frame Q)
    → 1 ≤ n
    → n ≤ 9
    → Bytes bytes
    → Bytes others
    → reading K n bytes ≡ Ok f
    → reading K n others ≡ Ok f
    → bytes ≡ others
