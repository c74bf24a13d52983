use Rattle.std.proofs.Common.{◌≡◌, map, ◌+◌, ◌≤◌, ◌++◌, length, drop}
use Rattle.frames.specs.Clocks.{counts_of, machines_of}
use Rattle.frames.specs.declared.pairs.Pair.{Pair}
use Rattle.frames.proofs.frame.Forerunners.pairs.Given as goal

-- the pairs so far, and those of the counts that are left, are all pairs
abbrev pub invariant-loop-i : goal.invariant-loop-i
invariant-loop-i l =
    (length l.pairs.items ≤ l.i)
    × (map (λ (p : Pair). p.machine) l.pairs.items ++ machines_of (l.i + 1) (drop l.i l.self.counts) ≡ machines_of 1 l.self.counts)
    × (map (λ (p : Pair). p.count) l.pairs.items ++ counts_of (drop l.i l.self.counts) ≡ counts_of l.self.counts)
