use mathlib.Core.Path.{refl}
use Rattle.buffers.proofs.Spanning.{span_none, span_one}
use Rattle.buffers.proofs.sides.Sides.copy_span.Goals as goal

pub returns-then-end-link : goal.returns-then-end-link
returns-then-end-link c =
    span_none c.args.self.now.space c.args.self.now.sheet.now c.args.self.now.swap c.args.link c.args.end c.args.to c.args.work.now c.requires.1 c.if-end-link.true

pub returns-then-is_unlabelled : goal.returns-then-is_unlabelled
returns-then-is_unlabelled c =
    span_one c.args.self.now.space c.args.self.now.sheet.now c.args.self.now.swap c.args.link c.args.end c.args.to c.args.work.now c.requires.0 c.requires.1 c.if-end-link.false c.if-space-end.false _ refl c.if-space-to.false c.if-count-eq1.true c.head-h.result c.head-h.ensures.0 c.if-is_unlabelled.ensures _ c.relinked.result c.relinked.ensures.0 c.put_head.ensures
