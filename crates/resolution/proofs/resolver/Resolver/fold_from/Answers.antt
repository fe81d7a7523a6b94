use Rattle.std.proofs.Common.{◌∙◌, arith}
use Rattle.std.proofs.lemmas.Result.{err_from_is_err_and}
use Rattle.resolution.proofs.Shifting.{on_candidate}
use Rattle.resolution.proofs.Folding.{candidate_right, room_within, folds_end, folds_lost, folds_null, folds_kept, folds_on, folds_failed}
use Rattle.resolution.proofs.resolver.Resolver.fold_from.Goals as goal
use Rattle.coercion.specs.Data.{for_list}

pub returns-then-self-at : goal.returns-then-self-at
returns-then-self-at c =
    c.loop-last.invariant.onward _ _ (folds_lost (for_list c.args.self.now.rules) _ _ c.loop-last-test.true c.if-self-at.true)

pub returns-in_err-end : goal.returns-in_err-end
returns-in_err-end c =
    let p = err_from_is_err_and c.from_residual.result c.from_residual.ensures.1 in
    rw (p.1, p.2) (c.loop-last.invariant.onward _ _ (folds_failed (for_list c.args.self.now.rules) _ _ c.loop-last-test.true _ c.head_at-h.ensures.0 (λ q. omega (arith, c.if-h-ge-LIST.true)) _ c.in_err-end.ensures))

pub returns-in_err-end-2 : goal.returns-in_err-end-2
returns-in_err-end-2 c =
    let p = err_from_is_err_and c.from_residual-in_err-end-2.result c.from_residual-in_err-end-2.ensures.1 in
    rw (p.1, p.2) (c.loop-last.invariant.onward _ _ (folds_failed (for_list c.args.self.now.rules) _ _ c.loop-last-test.true _ c.head_at-h.ensures.0 c.if-h-ne-NULL.true _ c.in_err-end-2.ensures))

pub loop-last-preserved-then-keeps : goal.loop-last-preserved-then-keeps
loop-last-preserved-then-keeps c =
    let bottom = c.bottom_of-bottom.ensures c.loop-last.invariant.bottom in
    record {
      room = c.loop-last.invariant.room;
      inside = c.loop-last.invariant.inside;
      long = c.loop-last.invariant.long;
      bottom = bottom;
      onward = λ v o g. c.loop-last.invariant.onward v o (folds_kept (for_list c.args.self.now.rules) _ _ c.loop-last-test.true _ c.head_at-h.ensures.0 o c.if-h-ne-NULL.true (on_candidate c.args.self.now.space c.loop-last.work c.loop-last.invariant.room c.loop-last.invariant.inside (c.keeps.ensures c.if-keeps.true bottom)) g);
    }

pub loop-last-preserved-in_ok-end : goal.loop-last-preserved-in_ok-end
loop-last-preserved-in_ok-end c =
    let m = c.in_ok-end.ensures in
    record {
      room = room_within m.within c.loop-last.invariant.room;
      long = m.within.long ∙ c.loop-last.invariant.long;
      inside = m.inside;
      bottom = tt;
      onward = λ v o g. c.loop-last.invariant.onward v o (folds_on (for_list c.args.self.now.rules) _ _ c.loop-last-test.true _ c.head_at-h.ensures.0 (λ q. omega (arith, c.if-h-ge-LIST.true)) candidate_right o m g);
    }

pub loop-last-preserved-in_ok-end-2 : goal.loop-last-preserved-in_ok-end-2
loop-last-preserved-in_ok-end-2 c =
    let m = c.in_ok-end-2.ensures in
    record {
      room = room_within m.within c.loop-last.invariant.room;
      long = m.within.long ∙ c.loop-last.invariant.long;
      inside = m.inside;
      bottom = tt;
      onward = λ v o g. c.loop-last.invariant.onward v o (folds_on (for_list c.args.self.now.rules) _ _ c.loop-last-test.true _ c.head_at-h.ensures.0 c.if-h-ne-NULL.true candidate_right o m g);
    }

pub loop-last-preserved : goal.loop-last-preserved
loop-last-preserved c =
    record {
      room = c.loop-last.invariant.room;
      inside = c.loop-last.invariant.inside;
      long = c.loop-last.invariant.long;
      bottom = c.loop-last.invariant.bottom;
      onward = λ v o g. c.loop-last.invariant.onward v o (folds_null (for_list c.args.self.now.rules) _ _ c.loop-last-test.true _ c.head_at-h.ensures.0 o c.if-h-ne-NULL.false g);
    }

pub returns : goal.returns
returns c =
    c.loop-last.invariant.onward _ _ (folds_end (for_list c.args.self.now.rules) _ c.loop-last-test.false)
