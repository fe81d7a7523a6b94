use Rattle.buffers.proofs.Copying.{head_copied}
use Rattle.buffers.proofs.sides.Sides.copy_head.Goals as goal

pub returns : goal.returns
returns c =
    head_copied c.args.self.now.space c.args.self.now.sheet.now c.args.work.now c.args.self.now.swap c.args.h c.args.link c.args.g c.args.next c.requires.0.0 c.requires.0.1 _ c.zone_bytes-zlen.ensures.0 _ _ c.requires.1.0 c.if-space-label.false (rw (← c.zone_at.ensures.0) c.put_label.ensures) _ c.target_head.ensures.0 c.put_head.ensures c.past.ensures
