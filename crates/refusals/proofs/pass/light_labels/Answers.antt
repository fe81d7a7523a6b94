use native.Mathlib.Omega.{arith}
use Rattle.refusals.proofs.Light.{light_bare, light_nullable, light_named}
use Rattle.refusals.proofs.pass.light_labels.Goals.{then-a-eq0-via-then-a-eq0, then-a-eq0-via-else-a-eq0+then-names_parts}
use Rattle.refusals.proofs.pass.light_labels.Goals as goal

pub returns-then-a-eq0 : goal.returns-then-a-eq0
returns-then-a-eq0 c =
    elim c.then-a-eq0.branch [
      | then-a-eq0-via-then-a-eq0 w ↦ light_bare _ _ _ _ c.requires c.if-d-eq0.true w.if-a-eq0.true
      | then-a-eq0-via-else-a-eq0+then-names_parts w ↦ light_nullable _ _ _ _ c.requires c.if-d-eq0.true w.names_parts.ensures w.if-names_parts.true
    ]

pub returns-then-d-at : goal.returns-then-d-at
returns-then-d-at c =
    light_named _ _ _ _ c.requires (omega arith) (omega arith) c.names_parts-then-d-lt16777216.ensures c.if-names_parts-2.true c.if-d-at.true
