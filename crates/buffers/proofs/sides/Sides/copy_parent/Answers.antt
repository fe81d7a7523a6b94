use Rattle.buffers.proofs.sides.Sides.copy_parent.Goals as goal

pub returns : goal.returns
returns c =
    c.copy_bare.ensures _
