use Rattle.frames.proofs.Framed.{found_back}
use Rattle.frames.proofs.write.write.Goals as goal

pub returns : goal.returns
returns g c =
    let K = g.Q.ValueKind.kind in
    let slot = g.met.Q.QuestionKind.slot in
    let r = c.write_by_kind in
    record {
      answer = r.ensures.answer;
      after = r.ensures.after;
      back =
          found_back K g.met.Q.ValueKind.lawful slot.1 slot.2 c.args.frame.now c.args.buffer.now
          r.new.buffer r.result r.ensures.answer r.ensures.after;
    }
