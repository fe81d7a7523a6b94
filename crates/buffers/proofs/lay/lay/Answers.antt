use Rattle.std.proofs.Common.{rules}
use Rattle.buffers.proofs.Laying.{head_laid}
use Rattle.buffers.proofs.lay.lay.Goals as goal

pub returns : goal.returns
returns c =
    head_laid c.args.space c.args.work.now _ c.args.g c.args.shape.kind c.args.shape.figure c.args.shape.scale c.args.shape.size c.args.first c.args.shape.sorted _ _ _ c.requires.1.0 (search rules) (search rules) c.moved_label.ensures.0 c.put_head.ensures
