use Rattle.std.proofs.lemmas.Result.{err_from_is_err_and}
use Rattle.resolution.proofs.Folding.{entry_typed, entry_right, folds_alone, folds_lost, folds_null, folds_on, folds_failed, not_compared, steps_as}
use Rattle.resolution.proofs.resolver.Resolver.fold_first.Goals as goal
use Rattle.coercion.specs.Data.{for_list}

pub returns-then-self-at : goal.returns-then-self-at
returns-then-self-at c =
    c.loop-last.invariant.onward _ _ (folds_lost (for_list c.args.self.now.rules) _ _ c.loop-last-test.true c.if-self-at.true)

pub returns-in_err-d : goal.returns-in_err-d
returns-in_err-d c =
    let p = err_from_is_err_and c.from_residual.result c.from_residual.ensures.1 in
    rw (p.1, p.2) (c.loop-last.invariant.onward _ _ (folds_failed (for_list c.args.self.now.rules) _ _ c.loop-last-test.true _ c.head_at-h.ensures.0 c.if-h-ne-NULL.true _ (steps_as entry_typed (rw c.for_list.ensures at c.in_err-d.ensures))))

pub returns-then-h-ne-NULL : goal.returns-then-h-ne-NULL
returns-then-h-ne-NULL c =
    c.loop-last.invariant.onward _ _ (folds_on (for_list c.args.self.now.rules) _ _ c.loop-last-test.true _ c.head_at-h.ensures.0 c.if-h-ne-NULL.true entry_right _ (steps_as entry_typed (rw c.for_list.ensures at c.in_ok-d.ensures)) c.fold_from.ensures)

pub loop-last-preserved : goal.loop-last-preserved
loop-last-preserved c =
    record {
      room = c.loop-last.invariant.room;
      compared = not_compared;
      onward = λ v o g. c.loop-last.invariant.onward v o (folds_null (for_list c.args.self.now.rules) _ _ c.loop-last-test.true _ c.head_at-h.ensures.0 o c.if-h-ne-NULL.false g);
    }

pub returns : goal.returns
returns c =
    c.loop-last.invariant.onward _ _ (folds_alone (for_list c.args.self.now.rules) _ _ c.loop-last.invariant.room c.loop-last-test.false c.copy_listed.ensures)
