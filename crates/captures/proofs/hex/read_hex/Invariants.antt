use Rattle.std.proofs.Common.{length, vec_items}
use Rattle.captures.proofs.Hexes.{ReadUpTo}
use Rattle.captures.proofs.hex.read_hex.Given as goal

abbrev pub invariant-loop-rest : goal.invariant-loop-rest
invariant-loop-rest l = ReadUpTo (vec_items l.bytes) l.rest l.line

abbrev pub decreases-loop-rest : goal.decreases-loop-rest
decreases-loop-rest l = length l.rest
