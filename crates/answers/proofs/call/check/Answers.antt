use mathlib.Core.Path.{refl}
use Rattle.std.proofs.lemmas.Result.{err_from_is_err_and}
use Rattle.answers.proofs.Refusing.{tried_later}
use Rattle.answers.proofs.call.check.Goals as goal

pub returns-in_err-refuse_if-clause-causes : goal.returns-in_err-refuse_if-clause-causes
returns-in_err-refuse_if-clause-causes g c =
    let p = err_from_is_err_and c.from_residual.result c.from_residual.ensures.1 in
    rw (p.1, p.2)
    (tried_later (g.Q.Query.terms c.args.query.now) _ _ _ (rw (c.is_bad_mask.ensures, c.mask.ensures) at c.in_err-refuse_if.ensures) refl refl)

pub returns-in_err-check-clause-causes : goal.returns-in_err-check-clause-causes
returns-in_err-check-clause-causes g c =
    let p = err_from_is_err_and c.from_residual-in_err-check.result c.from_residual-in_err-check.ensures.1 in
    rw (p.1, p.2)
    (tried_later (g.Q.Query.terms c.args.query.now) _ _ _ (rw (c.is_bad_mask.ensures, c.mask.ensures) at c.in_ok-refuse_if.ensures) c.in_err-check.ensures refl)

pub returns-clause-causes : goal.returns-clause-causes
returns-clause-causes g c =
    tried_later (g.Q.Query.terms c.args.query.now) _ _ _ (rw (c.is_bad_mask.ensures, c.mask.ensures) at c.in_ok-refuse_if.ensures) c.in_ok-check.ensures (rw c.is_bad_space.ensures at c.refuse_if-2.ensures)
