-- What is left of the machine numbers gives the answer.
use Rattle.std.proofs.Common.{◌≡◌, ◌+◌, drop}
use Rattle.frames.specs.Clocks.{machine_fields}
use Rattle.frames.specs.Fields.{first_bad}
use Rattle.frames.proofs.change.check_machines.Given as goal

abbrev pub invariant-loop-i : goal.invariant-loop-i
invariant-loop-i l =
    first_bad (machine_fields l.fleet.machines l.author (8 + l.i) l.previous (drop l.i l.machines))
    ≡ first_bad (machine_fields l.fleet.machines l.author 8 0 l.machines)
