use native.Mathlib.Omega.{arith}
use Rattle.refusals.proofs.Walking.{walk_none}
use Rattle.refusals.proofs.Packing.{tells_came}
use Rattle.refusals.proofs.records.Records.walk_types.Goals as goal

pub returns-then-link-eq0 : goal.returns-then-link-eq0
returns-then-link-eq0 c =
    tells_came _ _ _ _ _ _ _ (omega arith) (walk_none _ _ _ _ _ _ c.requires c.if-link-eq0.true)
