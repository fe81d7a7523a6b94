use Rattle.std.proofs.lemmas.Result.{err_from_is_err_and}
use Rattle.answers.proofs.Refusing.{framed_measured}
use Rattle.answers.proofs.Calling.{refused_sheet, refused_later, room, done_room, type_outcome, none_outcome}
use Rattle.answers.proofs.call.ask_framed.Goals.{in-Ok, in-Err}
use Rattle.answers.proofs.call.ask_framed.Goals as goal

pub returns-in_err-check_framed : goal.returns-in_err-check_framed
returns-in_err-check_framed g c =
    let p = err_from_is_err_and c.from_residual.result c.from_residual.ensures.1 in
    rw (p.1, p.2) (refused_sheet (g.Q.Query.terms c.args.query.now) _ _ _ _ c.in_err-check_framed.ensures)

pub check-requires : goal.check-requires
check-requires g c =
    framed_measured c.args.framed.framed c.in_ok-check_framed.ensures

pub returns-in_err-check : goal.returns-in_err-check
returns-in_err-check g c =
    let p = err_from_is_err_and c.from_residual-in_err-check.result c.from_residual-in_err-check.ensures.1 in
    rw (p.1, p.2) (refused_later (g.Q.Query.terms c.args.query.now) _ _ _ _ (framed_measured c.args.framed.framed c.in_ok-check_framed.ensures).unrefused c.in_err-check.ensures.causes)

pub answer-requires : goal.answer-requires
answer-requires g c =
    let measured = framed_measured c.args.framed.framed c.in_ok-check_framed.ensures in
    record {
      measured = measured;
      room = room (g.Q.Query.terms c.args.query.now) _ _ _ _ c.args.framed.bytes measured c.in_ok-check.ensures.spared;
    }

pub write_type-requires : goal.write_type-requires
write_type-requires g c =
    done_room (g.Q.Query.terms c.args.query.now) _ _ _ _ c.args.framed.bytes (framed_measured c.args.framed.framed c.in_ok-check_framed.ensures) c.in_ok-check.ensures.spared _ (g.met.Q.Query.no_larger c.args.query.now) _ c.in-Ok.ensures

pub returns : goal.returns
returns g c =
    let measured = framed_measured c.args.framed.framed c.in_ok-check_framed.ensures in
    let zeros = c.fill.ensures.after (λ x e. e) in
    elim c.match-answer.branch [
      | in-Ok w ↦
          rw (w.output-is, w.answer-is)
          (type_outcome (g.Q.Query.terms c.args.query.now) _ _ _ _ c.args.framed.bytes measured c.in_ok-check.ensures.spared _ c.in_ok-check.ensures.causes zeros _ w.in-Ok.ensures w.write_type.ensures)
      | in-Err w ↦
          rw (w.output-is, w.answer-is)
          (none_outcome (g.Q.Query.terms c.args.query.now) _ _ _ _ c.args.framed.bytes measured c.in_ok-check.ensures.spared _ c.in_ok-check.ensures.causes zeros _ w.in-Err.ensures)
    ]
