use Rattle.std.proofs.Common.{sym, ◌∙◌}
use Rattle.resolution.proofs.Valued.{plain_valued}
use Rattle.resolution.proofs.Folding.{entry_typed}
use Rattle.resolution.proofs.PlainTypes.{folds_as}
use Rattle.resolution.proofs.resolver.Resolver.fold_entry.Goals as goal
use Rattle.coercion.specs.Data.{for_list}

pub returns-then-is_plain : goal.returns-then-is_plain
returns-then-is_plain c =
    let p = sym c.is_plain.ensures ∙ c.if-is_plain.true in
    folds_as (for_list c.args.self.now.rules) (λ t k. plain_valued _ p c.plain_type_of.ensures.0 c.head_at-h.ensures.0 (entry_typed t k)) c.fold_plain.ensures
