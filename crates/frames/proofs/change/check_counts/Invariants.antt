-- What is left of the counts gives the answer.
use Rattle.std.proofs.Common.{◌≡◌, ◌+◌, drop}
use Rattle.frames.specs.Clocks.{count_fields}
use Rattle.frames.specs.Fields.{first_bad}
use Rattle.frames.proofs.change.check_counts.Given as goal

abbrev pub invariant-loop-i : goal.invariant-loop-i
invariant-loop-i l = first_bad (count_fields (l.first + l.i) (drop l.i l.counts)) ≡ first_bad (count_fields l.first l.counts)
