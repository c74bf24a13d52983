use Rattle.std.proofs.Common.{arith}
use Rattle.std.proofs.lemmas.Grind.{common_steps}
use Rattle.std.proofs.lemmas.List.{take_rest}
use Rattle.frames.proofs.received.Received.change.Goals as goal

pub returns-in_err-check_fixed : goal.returns-in_err-check_fixed
returns-in_err-check_fixed c = grind (arith, common_steps)

pub returns-in_err-forerunners : goal.returns-in_err-forerunners
returns-in_err-forerunners c = grind (arith, common_steps)

pub returns : goal.returns
returns c =
    let split = c.split_at.ensures in
    let front = simp take_rest at split.front in
    let back = simp take_rest at split.back in
    grind (arith, common_steps, c.in_ok-forerunners.ensures)
