use Rattle.frames.proofs.Covered.{change_covered, votes_covered}
use Rattle.frames.proofs.laws.fields_cover_stands.Goals as goal
use Rattle.values.specs.Marks.{mark_kind}

pub returns : goal.returns
returns g c =
    record {
      change = change_covered;
      places = votes_covered mark_kind;
      questions = votes_covered g.Q.ValueKind.kind;
    }
