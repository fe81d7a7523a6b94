use native.Mathlib.Omega.{arith}
use Rattle.plain.proofs.Steps.{kind_low}
use Rattle.plain.proofs.step.null.Goals as goal

pub returns-then-x-ge64 : goal.returns-then-x-ge64
returns-then-x-ge64 c =
    λ l r p q. absurd (grind (arith, kind_low p, kind_low q))
