use Rattle.std.proofs.Common.{sym, ◌∙◌}
use Rattle.plain.proofs.Valuing.{plain_type_low}
use Rattle.plain.proofs.Taking.{absorbs_next}
use Rattle.resolution.proofs.Folding.{folds_lost}
use Rattle.resolution.proofs.PlainTypes.{folds_joined, folds_apart, folds_taken, not_null}
use Rattle.resolution.proofs.resolver.Resolver.fold_plain.Goals as goal
use Rattle.coercion.specs.Data.{for_list}

pub returns-then-self-at : goal.returns-then-self-at
returns-then-self-at c =
    c.loop-last.invariant.onward _ _ (folds_lost (for_list c.args.self.now.rules) _ _ c.loop-last-test.true c.if-self-at.true)

pub returns-then-not-is_plain : goal.returns-then-not-is_plain
returns-then-not-is_plain c =
    c.loop-last.invariant.onward _ _ c.fold_written.ensures

pub returns-in_default : goal.returns-in_default
returns-in_default c =
    c.loop-last.invariant.onward _ _ (folds_apart (for_list c.args.self.now.rules) c.loop-last-test.true _ c.head_at-h.ensures.0 (not_null c.loop-last.kinds c.head_at-h.result c.plain_type_of-x.ensures.0 (sym c.is_taken.ensures ∙ c.if-not-is_taken.true)) (sym c.is_plain.ensures ∙ c.if-not-is_plain.false) c.plain_type_of-x.ensures.0 (rw c.for_list.ensures at c.in_default.ensures))

pub loop-last-preserved-in-Some : goal.loop-last-preserved-in-Some
loop-last-preserved-in-Some c =
    let p = sym c.is_plain.ensures ∙ c.if-not-is_plain.false in
    let j = rw c.for_list.ensures at c.in-Some.ensures in
    record {
      room = c.loop-last.invariant.room;
      holdable = j.holdable;
      absorbs = absorbs_next (for_list c.args.self.now.rules) c.loop-last.kinds c.plain_type_of-x.result c.loop-last.candidate _ (plain_type_low c.head_at-h.result p c.plain_type_of-x.ensures.0) c.loop-last.invariant.absorbs j c.taken_kinds-kinds.ensures;
      onward = λ v o g. c.loop-last.invariant.onward v o (folds_joined (for_list c.args.self.now.rules) c.loop-last-test.true _ c.head_at-h.ensures.0 (not_null c.loop-last.kinds c.head_at-h.result c.plain_type_of-x.ensures.0 (sym c.is_taken.ensures ∙ c.if-not-is_taken.true)) p c.plain_type_of-x.ensures.0 o j g);
    }

pub loop-last-preserved : goal.loop-last-preserved
loop-last-preserved c =
    let p = sym c.is_plain.ensures ∙ c.if-not-is_plain.false in
    record {
      room = c.loop-last.invariant.room;
      holdable = c.loop-last.invariant.holdable;
      absorbs = c.loop-last.invariant.absorbs;
      onward = λ v o g. c.loop-last.invariant.onward v o (folds_taken (for_list c.args.self.now.rules) c.loop-last-test.true _ c.head_at-h.ensures.0 p c.plain_type_of-x.ensures.0 c.loop-last.kinds (sym c.is_taken.ensures ∙ c.if-not-is_taken.false) (plain_type_low c.head_at-h.result p c.plain_type_of-x.ensures.0) c.loop-last.invariant.absorbs o g);
    }

pub returns : goal.returns
returns c =
    c.loop-last.invariant.onward _ _ c.fold_written-2.ensures
