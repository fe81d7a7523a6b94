use mathlib.Core.Path.{sym, ◌∙◌}
use native.Mathlib.Omega.{arith}
use borrow.Author.Tests.{not-true}
use Rattle.resolution.proofs.Keeping.{core_steps}
use Rattle.resolution.proofs.keep.is_core_alone.Goals as goal

pub returns-then-y-ne-UTF8_VIEW : goal.returns-then-y-ne-UTF8_VIEW
returns-then-y-ne-UTF8_VIEW c =
    λ z at t y a d. core_steps c.args.rules _ _ _ c.head_at-x.ensures.0 c.head_at-y.ensures.0 c.head_at.ensures.0 at t y a d (omega arith) (omega arith) (omega arith) (λ e. omega arith) (λ e. omega arith) c.plain_heads.result (rw c.for_list.ensures at c.plain_heads.ensures) (sym c.lays_view.ensures ∙ not-true _ z)
