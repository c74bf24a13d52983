use Rattle.std.proofs.Common.{rules}
use Rattle.frames.proofs.received.Received.contribution.Goals as goal

pub returns-in_err-check_field : goal.returns-in_err-check_field
returns-in_err-check_field g c = search rules
