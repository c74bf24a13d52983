-- The number of each refusal of a journal.
use Rattle.std.specs.Prelude.{ℕ}
use Rattle.journals.specs.declared.fault.JournalFault.{JournalFault}
use Rattle.journals.specs.declared.fault.JournalFault.TheVariants.{NotARow, NoSuchRow, NoFreeRow}

abbrev pub fault_number : JournalFault → ℕ
fault_number NotARow = 19
fault_number NoSuchRow = 20
fault_number NoFreeRow = 21
