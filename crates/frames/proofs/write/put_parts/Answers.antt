use Rattle.std.proofs.Common.{sym, ◌∙◌}
use Rattle.frames.proofs.Buffers.{three_parts, room}
use Rattle.frames.proofs.write.put_parts.Goals as goal
use Rattle.std.proofs.lemmas.Bool.{cond-true}

pub returns-clause-after : goal.returns-clause-after
returns-clause-after c =
    let h = c.args.head.now in
    let ms = c.args.machines.now in
    let cs = c.args.counts.now in
    let b = c.args.buffer.now in
    let all =
    three_parts h ms cs b c.put_at.new.buffer c.put_at-2.new.buffer c.put_at-3.new.buffer
    c.put_at.ensures c.put_at-2.ensures c.put_at-3.ensures
    in
    all ∙ sym (cond-true _ _ _ (room h ms cs b c.if-buffer-end.false))
