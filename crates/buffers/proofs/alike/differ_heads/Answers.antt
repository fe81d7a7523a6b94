use Rattle.buffers.proofs.Sameness.{types_differ, types_parts, types_plain}
use Rattle.buffers.proofs.alike.differ_heads.Goals as goal

pub returns-then-not-same_shape : goal.returns-then-not-same_shape
returns-then-not-same_shape c =
    λ j eh. types_differ c.args.a.now c.args.n c.args.i c.args.b.now c.args.m j c.args.named _ _ c.requires.head eh c.same_shape.ensures c.if-not-same_shape.true

pub returns-then-g-h-eq0 : goal.returns-then-g-h-eq0
returns-then-g-h-eq0 c =
    λ j eh. types_plain c.args.a.now c.args.n c.args.i c.args.b.now c.args.m j c.args.named _ _ c.requires.head eh c.same_shape.ensures c.if-not-same_shape.false c.if-g-h-eq0.true

pub returns : goal.returns
returns c =
    λ j eh. types_parts c.args.a.now c.args.n c.args.i c.args.b.now c.args.m j c.args.named _ _ c.requires.head eh c.same_shape.ensures _ c.if-not-same_shape.false c.differ_fields.ensures
