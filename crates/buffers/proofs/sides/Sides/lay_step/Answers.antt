use Rattle.buffers.proofs.Stamping.{step_left, step_right}
use Rattle.buffers.proofs.sides.Sides.lay_step.Goals as goal

pub returns-in-Stamp : goal.returns-in-Stamp
returns-in-Stamp c =
    rw c.in-Stamp.is c.stamp.ensures

pub returns-in-Left : goal.returns-in-Left
returns-in-Left c =
    rw c.in-Left.is (step_left c.args.self.now.space c.args.self.now.swap c.args.self.now.sheet.now c.args.work.now c.args.l c.args.r c.args.g _ c.copy_type.result c.copy_type.ensures)

pub returns-in-Right : goal.returns-in-Right
returns-in-Right c =
    rw c.in-Right.is (step_right c.args.self.now.space c.args.self.now.swap c.args.self.now.sheet.now c.args.work.now c.args.l c.args.r c.args.g _ c.copy_type-in-Right.result (rw c.swapped.ensures at c.copy_type-in-Right.ensures))
