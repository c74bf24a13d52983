-- A frame as a table of fields, and the answer that a table gives.
use Rattle.std.specs.Prelude.{◌≡◌, ℕ, ◌+◌, ◌*◌, ◌/◌, ◌%◌, Bool, true, false, cond, ◌&&◌, List, [], ◌∷◌, ◌++◌, Some, None, Ok, Err, Option, Result, nat_le, slice_index}
use Rattle.frames.specs.declared.fault.FrameFault.{FrameFault}
use Rattle.frames.specs.declared.fault.FrameFault.TheVariants.{Kind as Unknown, Length, Field as Broken}

-- the number in one byte at an offset, and in two, the high byte first
abbrev pub byte : List ℕ → ℕ → ℕ
byte bytes at = slice_index bytes at

abbrev pub word : List ℕ → ℕ → ℕ
word bytes at = slice_index bytes at * 256 + slice_index bytes (at + 1)

-- the two bytes of a number below 65,536
abbrev pub high : ℕ → ℕ
high w = w / 256 % 256

abbrev pub low : ℕ → ℕ
low w = w % 256

abbrev pub within : ℕ → ℕ → ℕ → Bool
within least most x = nat_le least x && nat_le x most

-- one field: its offset, how many bytes it has, and whether what stands there keeps the field's range or rule
pub record Field : Type 0 where
  pub at : ℕ
  pub width : ℕ
  pub holds : Bool

abbrev pub field : ℕ → ℕ → Bool → Field
field at width holds = record { at = at; width = width; holds = holds }

-- the offset of the first field of a table that breaks its range or rule
abbrev pub first_bad : List Field → Option ℕ
first_bad [] = None
first_bad (f ∷ fs) = cond f.holds (first_bad fs) (Some f.at)

-- every field of a table keeps its range or rule
abbrev pub AllHold : List Field → Type 0
AllHold [] = Unit {0}
AllHold (f ∷ fs) = (f.holds ≡ true) × AllHold fs

-- some field of a table stands at this offset and breaks, and none in front of it does
abbrev pub BreaksFirst : List Field → ℕ → Type 0
BreaksFirst table at =
    (front : List Field)
    × (f : Field)
    × (back : List Field)
    × (table ≡ front ++ (f ∷ back))
    × AllHold front
    × (f.holds ≡ false)
    × (f.at ≡ at)

-- what `first_bad` tells: the offset of the field that breaks first, and nothing only where all hold
abbrev pub FirstBadTells : Type 0
FirstBadTells =
    ((table : List Field) (at : ℕ) → first_bad table ≡ Some at → BreaksFirst table at)
    × ((table : List Field) → first_bad table ≡ None → AllHold table)

-- the fields of a table lie back to back from one offset to another: no byte between is left out or has two fields
abbrev pub BackToBack : ℕ → List Field → ℕ → Type 0
BackToBack from [] end = from ≡ end
BackToBack from (f ∷ fs) end = (f.at ≡ from) × BackToBack (f.at + f.width) fs end

-- bytes of a known kind: whether their length is that of the kind, the fields in rising order, and the record that the
-- fields show if all hold
pub record Layout (F : Type 0) : Type 0 where
  pub whole : Bool
  pub fields : List Field
  pub shown : F

abbrev pub unless_bad : {F : Type 0} → Option ℕ → F → Result F FrameFault
unless_bad (Some at) f = Err (Broken at)
unless_bad None f = Ok f

-- the same where there is no record to show yet
abbrev pub checked : List Field → Result (Unit {0}) FrameFault
checked fields = unless_bad (first_bad fields) tt

-- the first refusal that fits, else the record
abbrev pub answered : {F : Type 0} → Layout F → Result F FrameFault
answered layout = cond layout.whole (unless_bad (first_bad layout.fields) layout.shown) (Err Length)

-- why a layout refuses: the length is wrong, or it is right and a field breaks, none in front of it
abbrev pub Refuses : {F : Type 0} → Layout F → FrameFault → Type 0
Refuses layout Unknown = ⊥
Refuses layout Length = layout.whole ≡ false
Refuses layout (Broken at) = (layout.whole ≡ true) × BreaksFirst layout.fields at
