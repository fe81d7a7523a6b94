use mathlib.Core.Path.{subst}
use Prim.Native.Nat.{◌+◌}
use Rattle.wrappers.specs.Walks.{TellsBoth}
use Rattle.wrappers.specs.declared.walk.Walk.{Walk}
use Rattle.wrappers.proofs.Hints.{met}
use Rattle.wrappers.proofs.Walking.{wrappers_left, wrappers_right, wrappers_all}
use Rattle.wrappers.proofs.walk.Walk.wrappers_may.Goals as goal

pub returns-then-hint-eq2 : goal.returns-then-hint-eq2
returns-then-hint-eq2 c =
    wrappers_left _ _ c.args.self.now.sides.swap _ _ _ _ c.if-hint-eq2.true c.meets.ensures

pub returns-then-hint-eq3 : goal.returns-then-hint-eq3
returns-then-hint-eq3 c =
    wrappers_right _ _ c.args.self.now.sides.swap _ _ _ _ c.if-hint-eq2.false c.if-hint-eq3.true
    (subst (λ (u : Walk). TellsBoth (met u.mask) (c.args.left + 1) u.sides.swap u.sides.sheet.now u.work.now c.args.r c.args.l c.meets-then-hint-eq3.result) c.swapped.ensures c.meets-then-hint-eq3.ensures)

pub returns : goal.returns
returns c =
    wrappers_all _ _ c.args.self.now.sides.swap _ _ _ _ c.if-hint-eq2.false c.if-hint-eq3.false
