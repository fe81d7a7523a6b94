use Rattle.std.proofs.Common.{refl}
use Rattle.coercion.specs.Answers.{fold_types}
use Rattle.coercion.specs.Data.{for_list}
use Rattle.resolution.proofs.Folding.{reached_empty, reached_lost, types_null, types_behind, behind_on}
use Rattle.resolution.proofs.resolver.Resolver.fold_types.Goals as goal

pub returns-then-self-at : goal.returns-then-self-at
returns-then-self-at c =
    c.loop-last.invariant.onward _ _ (reached_lost _ c.loop-last-test.true c.if-self-at.true)

pub returns-then-h-ne-NULL : goal.returns-then-h-ne-NULL
returns-then-h-ne-NULL c =
    c.loop-last.invariant.onward _ _ (types_behind (for_list c.args.self.now.rules) _ c.loop-last-test.true _ c.head_at-h.ensures.0 _ (behind_on (for_list c.args.self.now.rules) _ c.head_at-h.ensures.0 _ c.if-h-ne-NULL.true c.fold_entry.ensures))

pub loop-last-preserved : goal.loop-last-preserved
loop-last-preserved c =
    record {
      room = c.loop-last.invariant.room;
      onward = λ v o g. c.loop-last.invariant.onward v o (types_null (for_list c.args.self.now.rules) _ c.loop-last-test.true _ c.head_at-h.ensures.0 o c.if-h-ne-NULL.false g);
    }

pub returns : goal.returns
unfolding fold_types
returns c =
    c.loop-last.invariant.onward _ _ (reached_empty _ refl c.loop-last-test.false)
