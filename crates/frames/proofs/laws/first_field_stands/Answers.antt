use Rattle.frames.proofs.Tables.{all_hold, breaks_first}
use Rattle.frames.proofs.laws.first_field_stands.Goals as goal

pub returns : goal.returns
returns c = (breaks_first, all_hold)
