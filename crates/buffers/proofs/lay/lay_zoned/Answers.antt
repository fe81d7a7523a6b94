use Rattle.std.proofs.Common.{rules}
use Rattle.buffers.proofs.Laying.{zoned_head_lem, zoned_laid}
use Rattle.buffers.proofs.lay.lay_zoned.Goals as goal

pub returns : goal.returns
returns c =
    zoned_laid c.args.space c.args.work.now _ _ c.args.g c.args.kind c.args.figure c.args.zone.now c.requires.0.0 c.requires.0.1 c.if-space-g.false c.if-space-label.false c.put.ensures _ (zoned_head_lem c.args.g c.args.kind c.args.figure c.args.zone.now _ _ _ (search rules) c.moved_label.ensures.0 c.moved_label-2.ensures.0) c.put_head.ensures c.past.ensures
