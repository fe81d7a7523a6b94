use mathlib.Core.Path.{sym, ◌∙◌}
use native.Mathlib.Omega.{arith}
use Rattle.partners.proofs.Naming.{within_here}
use Rattle.partners.proofs.index.Index.look_up.Goals as goal

pub returns-then-is_named : goal.returns-then-is_named
returns-then-is_named c =
    (c.loop.invariant.0, within_here _ _ _ _ _ c.head_at.ensures.0 (omega arith) c.loop.invariant.1 _ (sym c.if-is_named.true ∙ c.is_named.ensures))
