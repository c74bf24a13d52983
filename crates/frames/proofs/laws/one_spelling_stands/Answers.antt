use Rattle.frames.proofs.Framed.{reads_back, same_from_same_bytes, same_from_same_frame}
use Rattle.frames.proofs.laws.one_spelling_stands.Goals as goal

pub returns : goal.returns
returns g c =
    let K = g.Q.ValueKind.kind in
    let L = g.met.Q.ValueKind.lawful in
    let slot = g.met.Q.QuestionKind.slot in
    record {
      back = reads_back K L slot.1 slot.2;
      frames = same_from_same_bytes K L slot.1 slot.2;
      bytes = same_from_same_frame K L slot.1 slot.2;
    }
