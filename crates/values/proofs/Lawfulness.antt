-- Marks keep the laws of a value kind; proofs above that speak of marks themselves cite this.
use Rattle.std.proofs.Common.{rules}
use Rattle.values.specs.Kinds.{Lawful}
use Rattle.values.specs.Marks.{mark_kind}

pub mark_lawful : Lawful mark_kind
mark_lawful = search rules
