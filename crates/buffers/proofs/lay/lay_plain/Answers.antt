use Rattle.buffers.proofs.Laying.{plain_laid}
use Rattle.buffers.proofs.lay.lay_plain.Goals as goal

pub returns : goal.returns
returns c =
    plain_laid c.args.space c.args.work.now _ c.args.g c.args.f.kind c.args.f.figure c.args.f.scale c.requires.1 c.if-space-g.false (rw c.from.ensures at c.lay.ensures) c.past.ensures
