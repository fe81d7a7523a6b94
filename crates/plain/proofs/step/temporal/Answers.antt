use mathlib.Core.Path.{sym, ◌∙◌, ap}
use native.Mathlib.Omega.{arith}
use Rattle.plain.proofs.Steps.{times_read}
use Rattle.coercion.specs.Times.{temporal_coercion_nonstrict_timezone}
use Rattle.coercion.specs.Data.{as_type}
use Rattle.plain.proofs.step.temporal.Goals as goal

pub returns-then-y-eq-TIMESTAMP : goal.returns-then-y-eq-TIMESTAMP
unfolding temporal_coercion_nonstrict_timezone
returns-then-y-eq-TIMESTAMP c =
    λ l r p q. rw (p.kind, q.kind, p.figure, q.figure, c.if-x-eq-TIMESTAMP.true, c.if-y-eq-TIMESTAMP.true, c.timeunit_coercion.ensures)

pub returns : goal.returns
returns c =
    λ l r p q. c.of_common.ensures l r ∙ ap as_type c.temporal_coercion.ensures ∙ sym (times_read l r p.kind q.kind (grind arith))
