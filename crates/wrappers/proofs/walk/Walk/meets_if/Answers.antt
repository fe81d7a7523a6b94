use Rattle.wrappers.proofs.Walking.{meets_needed, meets_spared}
use Rattle.wrappers.proofs.walk.Walk.meets_if.Goals as goal

pub returns-then-needed : goal.returns-then-needed
returns-then-needed c =
    meets_needed _ _ c.args.self.now.sides.swap _ _ _ _ c.if-needed.true c.meets.ensures

pub returns : goal.returns
returns c =
    meets_spared _ _ c.args.self.now.sides.swap _ _ _ _ c.if-needed.false
