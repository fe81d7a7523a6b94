use mathlib.Core.Path.{refl, sym}
use Rattle.sheet.specs.Read.{shape_of}
use Rattle.buffers.proofs.Sameness.{shapes_unlike, types_differ}
use Rattle.buffers.proofs.alike.differ_type.Goals as goal

pub returns-then-head_at : goal.returns-then-head_at
returns-then-head_at c =
    types_differ c.args.a.now c.args.n c.args.i c.args.b.now c.args.m c.args.j c.args.named c.head_at.result c.head_at-2.result c.head_at.ensures.0 c.head_at-2.ensures.0 (sym (shapes_unlike (shape_of c.args.a.now c.args.n c.head_at.result) (shape_of c.args.b.now c.args.m c.head_at-2.result) c.if-head_at.true)) refl

pub returns : goal.returns
returns c =
    c.differ_heads.ensures c.args.j c.head_at-4.ensures.0
