use mathlib.Core.Path.{sym, ◌∙◌}
use Rattle.plain.proofs.Steps.{string_zone, time_paired}
use Rattle.plain.proofs.step.string_time.Goals as goal

pub returns : goal.returns
returns c =
    λ l r p q. let e = c.string_temporal_coercion.ensures l r p.kind p.figure q.kind q.figure in c.of_moment.ensures l r (rw e (string_zone l r p q)) ∙ e ∙ sym (time_paired c.args.rules.question l r (sym c.is_list_question.ensures ∙ c.if-is_list_question.false))
