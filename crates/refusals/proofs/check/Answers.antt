use Rattle.std.proofs.lemmas.Result.{err_from_is_err_and}
use Rattle.sheet.specs.declared.Refusal.TheVariants.{Torn}
use Rattle.refusals.proofs.Verdicts.{says_torn, verdict_refused, verdict_accepted}
use Rattle.refusals.proofs.check.Goals as goal

pub returns-in_default : goal.returns-in_default
returns-in_default c =
    verdict_refused _ Torn (says_torn _ c.in_default.ensures)

pub returns-in_err-check_framed : goal.returns-in_err-check_framed
returns-in_err-check_framed c =
    let p = err_from_is_err_and c.from_residual.result c.from_residual.ensures.1 in
    rw (p.1, p.2, ← c.in-Some.ensures) (verdict_refused _ _ c.in_err-check_framed.ensures)

pub returns : goal.returns
returns c =
    rw (← c.in-Some.ensures) (verdict_accepted _ _ c.in-Some.framed.framed c.in_ok-check_framed.ensures)
