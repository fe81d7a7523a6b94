use Rattle.resolution.proofs.Folding.{behind_null, behind_on}
use Rattle.resolution.proofs.resolver.Resolver.fold_behind.Goals as goal
use Rattle.coercion.specs.Data.{for_list}

pub returns-then-head_at-eq-NULL : goal.returns-then-head_at-eq-NULL
returns-then-head_at-eq-NULL c =
    behind_null (for_list c.args.self.now.rules) _ c.head_at.ensures.0 _ c.if-head_at-eq-NULL.true c.fold_types.ensures

pub returns : goal.returns
returns c =
    behind_on (for_list c.args.self.now.rules) _ c.head_at.ensures.0 _ c.if-head_at-eq-NULL.false c.fold_entry.ensures
