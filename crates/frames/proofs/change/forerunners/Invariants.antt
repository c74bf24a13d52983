use Rattle.std.specs.Iterator.Adapters.{zip_first, zip_second}
use Rattle.std.specs.Slice.Iter.{iter_rest}
use Rattle.frames.proofs.Filled.{Fills}
use Rattle.frames.specs.Clocks.{clock_of}
use Rattle.frames.proofs.change.forerunners.Given as goal

abbrev pub invariant-loop-machine : goal.invariant-loop-machine
invariant-loop-machine l =
    record {
      can : (goal.iterator-loop-machine).can_next l.machine-iterator;
      ends : (goal.iterator-loop-machine).is_finite l.machine-iterator;
      fills : Fills l.clock (iter_rest (zip_first l.machine-iterator)) (iter_rest (zip_second l.machine-iterator)) (clock_of 9 1 l.machines l.counts);
    }
