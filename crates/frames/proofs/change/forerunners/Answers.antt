use Rattle.std.proofs.Common.{◌+◌, length, rules, arith}
use Rattle.frames.proofs.Tables.{checked_append}
use Rattle.std.proofs.lemmas.Grind.{common_steps}
use Rattle.frames.proofs.Filled.{fill_start, fill_end}
use Rattle.std.proofs.lemmas.Slice.Zip.{Zip-more, either_empty_from_Zip}
use Rattle.frames.proofs.change.forerunners.Goals as goal

pub loop-machine-init : goal.loop-machine-init
loop-machine-init c =
    let a = c.args in
    let f = fill_start a.fleet.machines a.author (8 + length a.machines.now) a.machines.now a.counts.now a.fleet.few c.requires.same c.in_ok-check_machines.ensures c.in_ok-check_counts.ensures in
    search (rules, f)

pub loop-machine-preserved : goal.loop-machine-preserved
loop-machine-preserved c =
    let z = Zip-more c.loop-machine.machine-iterator c.next.new.self _ _ c.in-Some.is c.next.ensures.steps in
    let f = rw (z.0, z.1) at c.loop-machine.invariant.fills in
    search (rules, f.0.2, f.1)

pub returns : goal.returns
returns c =
    let e = either_empty_from_Zip c.loop-machine.machine-iterator c.next.new.self _ c.in-None.is c.next.ensures.steps in
    grind (arith, common_steps, checked_append, fill_end _ _ _ _ e c.loop-machine.invariant.fills)
