use mathlib.Core.Path.{◌≡◌}
use Rattle.std.proofs.lemmas.Result.{err_from_is_err_and}
use Rattle.buffers.specs.declared.Failure.TheVariants.{NoType}
use Rattle.buffers.proofs.Stamping.{plain_merged, step_nothing}
use Rattle.buffers.proofs.sides.Sides.plain_rule.Goals as goal

pub returns-in_err-step : goal.returns-in_err-step
returns-in_err-step c =
    let p = err_from_is_err_and c.from_residual.result c.from_residual.ensures.1 in
    let found = c.in_err-step.ensures in
    let why : c.in_err-step.field-0.0 ≡ NoType = cc (rw found.ok_part at found.value) in
    rw (p.1, p.2, why) (plain_merged c.args.rules c.args.self.now.space c.args.self.now.swap _ _ _ _ _ _ _ c.heads.ensures.left.0 c.heads.ensures.right.0 (rw found.ok_part at c.plain_heads.ensures) (step_nothing c.args.self.now.space c.args.self.now.swap _ _ _ _ _))

pub returns : goal.returns
returns c =
    plain_merged c.args.rules c.args.self.now.space c.args.self.now.swap _ _ _ _ _ _ _ c.heads.ensures.left.0 c.heads.ensures.right.0 (rw c.in_ok-step.ensures.ok_part at c.plain_heads.ensures) c.lay_step.ensures
