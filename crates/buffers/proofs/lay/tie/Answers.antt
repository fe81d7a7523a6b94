use Rattle.buffers.proofs.Tying.{tied}
use Rattle.buffers.proofs.lay.tie.Goals as goal

pub returns : goal.returns
returns c =
    tied c.args.space c.args.work.now _ c.args.at c.args.next c.head_at-h.result c.head_at-h.ensures.0 c.put_head.ensures
