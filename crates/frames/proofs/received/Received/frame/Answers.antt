use Rattle.std.proofs.Common.{rules, tests}
use Rattle.frames.proofs.received.Received.frame.Goals as goal

pub returns-in_default-3 : goal.returns-in_default-3
returns-in_default-3 g c = search (tests, rules)
