use native.Mathlib.Omega.{arith}
use Rattle.std.proofs.lemmas.List.Elements.{All-set, All-get_or}
use Rattle.partners.specs.Naming.{Member}
use Rattle.partners.proofs.Naming.{within_next}
use Rattle.partners.proofs.index.Index.add.Goals as goal

pub loop-floor-preserved : goal.loop-floor-preserved
loop-floor-preserved c =
    let M = Member c.args.n c.args.t.now c.args.link in
    ((All-set M _ _ _ (omega arith, c.loop-floor.invariant.1) c.loop-floor.invariant.0.0, All-set M _ _ _ (All-get_or M _ c.row_at-k.result 0 (omega arith) c.loop-floor.invariant.0.0) c.loop-floor.invariant.0.1), within_next _ _ _ _ _ c.head_at-h.ensures.0 (omega arith) c.loop-floor.invariant.1)
