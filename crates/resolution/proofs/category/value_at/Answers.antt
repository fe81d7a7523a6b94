use Rattle.resolution.proofs.CoreKinds.{value_none, value_short, value_past, value_found}
use Rattle.resolution.proofs.category.value_at.Goals as goal
use Rattle.resolution.proofs.category.value_at.Goals.{then-value-first-via-then-value-first, then-value-first-via-else-value-first+then-n-value}

pub returns-then-first-r-clause-category : goal.returns-then-first-r-clause-category
returns-then-first-r-clause-category c =
    value_none _ _ _ _ c.if-first-r.true

pub returns-then-value-first-clause-category : goal.returns-then-value-first-clause-category
returns-then-value-first-clause-category c =
    elim c.then-value-first.branch [
      | then-value-first-via-then-value-first w ↦ value_short _ _ _ _ _ c.head_at-value.ensures.0 w.if-value-first.true
      | then-value-first-via-else-value-first+then-n-value w ↦ value_past _ _ _ _ _ c.head_at-value.ensures.0 w.if-value-first.false w.if-n-value.true
    ]

pub returns-clause-category : goal.returns-clause-category
returns-clause-category c =
    λ i o parts l k f. value_found _ _ _ _ _ c.head_at-value.ensures.0 k c.if-first-r.false c.if-value-first.false f i o parts l
