use Rattle.wrappers.proofs.walk.Walk.+core_kind.Given as goal

abbrev pub decreases-core_kind : goal.decreases-core_kind
decreases-core_kind l = l.left
