use Rattle.wrappers.proofs.walk.Walk.+meets.Given as goal

abbrev pub decreases-meets : goal.decreases-meets
decreases-meets l = l.left
