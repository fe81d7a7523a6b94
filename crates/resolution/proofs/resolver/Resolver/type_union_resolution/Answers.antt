use borrow.Author.Tests.{eq-eqb, ne_eqb}
use Rattle.coercion.specs.Answers.{all_equal}
use Rattle.coercion.specs.Data.{for_list}
use Rattle.resolution.proofs.Listing.{tells_past, differ_equal, equal_none, equal_on, equal_not}
use Rattle.resolution.proofs.Folding.{compared, reached_as, folds_same, union_lost, union_same, union_fold, union_none}
use Rattle.resolution.proofs.resolver.Resolver.type_union_resolution.Goals as goal

pub returns-then-n-at : goal.returns-then-n-at
returns-then-n-at c =
    reached_as c.loop-last.invariant.untouched (union_lost (for_list c.args.self.now.rules) _ c.requires.1 _ c.head_at-first.ensures.0 (λ b t x. c.loop-last.invariant.same.0 t x b (tells_past (all_equal t) _ _ _ _ b c.loop-last-test.true c.if-n-at.true)))

pub fold_behind-requires-clause-compared : goal.fold_behind-requires-clause-compared
fold_behind-requires-clause-compared c =
    compared (c.differ_heads-d.ensures _ c.head_at-first.ensures.0)

pub returns-then-is_fitting : goal.returns-then-is_fitting
returns-then-is_fitting c =
    reached_as c.loop-last.invariant.untouched
    (union_fold (for_list c.args.self.now.rules) _ c.requires.1 _ c.head_at-first.ensures.0
    (λ t x. c.loop-last.invariant.same.0 t x _ (equal_not _ _ _ _ _ c.loop-last-test.true (differ_equal (c.differ_heads-d.ensures _ c.head_at-first.ensures.0)) t x (ne_eqb _ 0 c.if-d-ne0.true))) _ c.is_fitting.ensures _ c.if-is_fitting.true (c.loop-last.invariant.same.1 _ _ c.fold_behind.ensures))

pub returns-then-d-ne0 : goal.returns-then-d-ne0
returns-then-d-ne0 c =
    reached_as c.loop-last.invariant.untouched
    (union_none (for_list c.args.self.now.rules) _ c.requires.1 _ c.head_at-first.ensures.0
    (λ t x. c.loop-last.invariant.same.0 t x _ (equal_not _ _ _ _ _ c.loop-last-test.true (differ_equal (c.differ_heads-d.ensures _ c.head_at-first.ensures.0)) t x (ne_eqb _ 0 c.if-d-ne0.true))) _ c.is_fitting.ensures c.if-is_fitting.false)

pub loop-last-preserved : goal.loop-last-preserved
loop-last-preserved c =
    record {
      room = c.loop-last.invariant.room;
      untouched = c.loop-last.invariant.untouched;
      same = (
        (λ t x a g. c.loop-last.invariant.same.0 t x a (equal_on _ _ _ _ _ c.loop-last-test.true (differ_equal (c.differ_heads-d.ensures _ c.head_at-first.ensures.0)) t x _ c.head_at-h.ensures.0 a (eq-eqb _ 0 c.if-d-ne0.false) g)),
        λ v o g. c.loop-last.invariant.same.1 v o (folds_same c.args.self.now.rules c.loop-last-test.true _ c.head_at-h.ensures.0 (differ_equal (c.differ_heads-d.ensures _ c.head_at-first.ensures.0)) (eq-eqb _ 0 c.if-d-ne0.false) o g),
      );
    }

pub returns : goal.returns
returns c =
    reached_as c.loop-last.invariant.untouched (union_same (for_list c.args.self.now.rules) _ c.requires.1 _ c.head_at-first.ensures.0 (λ t x. c.loop-last.invariant.same.0 t x _ (equal_none _ _ _ _ c.loop-last-test.false t)) _ c.loop-last.invariant.room c.copy_listed.ensures)
