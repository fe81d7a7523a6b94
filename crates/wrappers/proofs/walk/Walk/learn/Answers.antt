use mathlib.Core.Path.{subst}
use Rattle.buffers.specs.Writes.{side}
use Rattle.wrappers.specs.Walks.{Core}
use Rattle.wrappers.specs.declared.walk.Walk.{Walk}
use Rattle.wrappers.proofs.Walking.{learns_known, learns_told}
use Rattle.wrappers.proofs.walk.Walk.learn.Goals as goal

pub returns-then-hint-ne0-clause-learns : goal.returns-then-hint-ne0-clause-learns
returns-then-hint-ne0-clause-learns c =
    learns_known _ _ c.args.self.now.sides.swap _ _ _ _ _ c.if-hint-ne0.true

pub returns-clause-learns : goal.returns-clause-learns
returns-clause-learns c =
    learns_told _ _ c.args.self.now.sides.swap _ _ _ _ _ c.core_kind-k.ensures (subst (λ (u : Walk). Core c.args.left (side u.sides.swap u.sides.sheet.now u.work.now) c.args.r c.core_kind-j.result) c.swapped.ensures c.core_kind-j.ensures) c.core_hint-h.ensures.0 c.wrappers_may.ensures c.then_some.ensures
