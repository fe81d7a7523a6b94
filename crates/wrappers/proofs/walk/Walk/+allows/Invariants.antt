use Rattle.wrappers.proofs.walk.Walk.+allows.Given as goal

abbrev pub decreases-allows : goal.decreases-allows
decreases-allows l = l.left
