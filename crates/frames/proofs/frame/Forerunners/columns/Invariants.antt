use Rattle.std.proofs.Common.{◌≡◌, ◌+◌, ◌≤◌, ◌++◌, length, take, drop}
use Rattle.frames.specs.Clocks.{counts_of, machines_of}
use Rattle.frames.proofs.frame.Forerunners.columns.Given as goal

-- the columns so far, and those of the counts that are left, are all columns
abbrev pub invariant-loop-i : goal.invariant-loop-i
invariant-loop-i l =
    (l.columns.len ≤ l.i)
    × (length l.columns.machines ≡ 9)
    × (length l.columns.counts ≡ 9)
    × (take l.columns.len l.columns.machines ++ machines_of (l.i + 1) (drop l.i l.self.counts) ≡ machines_of 1 l.self.counts)
    × (take l.columns.len l.columns.counts ++ counts_of (drop l.i l.self.counts) ≡ counts_of l.self.counts)
