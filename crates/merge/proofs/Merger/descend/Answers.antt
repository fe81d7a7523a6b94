use Rattle.merge.proofs.Merger.descend.Goals as goal

pub returns-clause-stops : goal.returns-clause-stops
returns-clause-stops c =
    rw c.right_head-j.ensures.0 at (rw c.slices.ensures.0 at c.walk_down.ensures.stops)
