use native.Mathlib.Omega.{arith}
use Rattle.buffers.proofs.Stamping.{stamp_zoned}
use Rattle.buffers.proofs.sides.Sides.stamp.Goals as goal

pub returns-then-zoned : goal.returns-then-zoned
returns-then-zoned c =
    stamp_zoned c.args.self.now.space c.args.self.now.swap c.args.self.now.sheet.now c.args.work.now c.args.l c.args.r c.args.g c.args.unit c.heads.result.0 c.heads.result.1 c.heads.ensures.left.0 c.heads.ensures.right.0 (grind arith) _ c.stamp_zoned.result c.stamp_zoned.ensures
