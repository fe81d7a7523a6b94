use Rattle.plain.proofs.Valuing.{joins_same, joins_said, joins_none}
use Rattle.plain.proofs.value.common_type.Goals as goal

pub returns-then-eq : goal.returns-then-eq
returns-then-eq c =
    joins_same c.args.rules c.args.x c.args.y c.eq.ensures c.if-eq.true c.requires.0

pub returns-in_err-step : goal.returns-in_err-step
returns-in_err-step c =
    joins_none c.args.rules c.args.x c.args.y c.eq.ensures c.if-eq.false c.from.ensures c.from-2.ensures c.in_err-step.was c.from_residual.ensures c.plain_step.ensures

pub returns : goal.returns
returns c =
    joins_said c.args.rules c.args.x c.args.y c.eq.ensures c.if-eq.false c.from.ensures c.from-2.ensures c.in_ok-step.was c.plain_step.ensures c.said_by.ensures
