-- The number of each refusal of this layer, and what it carries.
use Rattle.std.specs.Prelude.{ℕ}
use Rattle.frames.specs.declared.fault.BufferTooShort.{BufferTooShort}
use Rattle.frames.specs.declared.fault.FrameFault.{FrameFault}
use Rattle.frames.specs.declared.fault.FrameFault.TheVariants.{Kind, Length, Field}

abbrev pub fault_number : FrameFault → ℕ
fault_number Kind = 2
fault_number Length = 3
fault_number (Field offset) = 4

-- 4 carries the offset of the first field that breaks; the others carry nothing, told as 0
abbrev pub fault_offset : FrameFault → ℕ
fault_offset Kind = 0
fault_offset Length = 0
fault_offset (Field offset) = offset

abbrev pub short_number : BufferTooShort → ℕ
short_number fault = 18
