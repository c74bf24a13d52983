use Rattle.frames.proofs.Framed.{spelled}
use Rattle.frames.proofs.Refused.{refused_first}
use Rattle.frames.proofs.read.read.Goals as goal

pub returns : goal.returns
returns g c =
    let K = g.Q.ValueKind.kind in
    let slot = g.met.Q.QuestionKind.slot in
    let fleet = c.args.fleet in
    let r = c.frame in
    record {
      answer = r.ensures;
      spelled =
          spelled K g.met.Q.ValueKind.lawful slot.1 slot.2 fleet.machines fleet.some fleet.few
          c.args.bytes.now (λ i. (c.type_inv.bytes i).fits) r.result r.ensures;
      refused = refused_first K fleet.machines c.args.bytes.now r.result r.ensures;
    }
