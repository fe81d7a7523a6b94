use Rattle.buffers.proofs.Sameness.{types_same}
use Rattle.buffers.proofs.sides.Sides.same_sides.Goals as goal

pub returns : goal.returns
returns c =
    types_same _ _ _ _ _ _ _ _ c.differ_sides.ensures
