use Rattle.journals.proofs.Kept.{free_rows_fall, nothing_lost, read_back, size_stays}
use Rattle.journals.proofs.laws.rows_kept_stands.Goals as goal

pub returns : goal.returns
returns c = record { rows = nothing_lost; free = free_rows_fall; size = size_stays; back = read_back }
