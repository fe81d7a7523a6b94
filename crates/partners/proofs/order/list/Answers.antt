use native.Mathlib.Omega.{arith}
use Rattle.std.proofs.lemmas.List.Elements.{All-set}
use Rattle.partners.specs.Naming.{Member}
use Rattle.partners.proofs.Naming.{within_next}
use Rattle.partners.proofs.order.list.Goals as goal

pub loop-floor-preserved : goal.loop-floor-preserved
loop-floor-preserved c =
    ((All-set (Member c.args.n c.args.t.now c.args.link) _ _ _ (omega arith, c.loop-floor.invariant.0.1) c.loop-floor.invariant.0.0, within_next _ _ _ _ _ c.head_at-j.ensures.0 (omega arith) c.loop-floor.invariant.0.1), (omega arith, omega arith))
