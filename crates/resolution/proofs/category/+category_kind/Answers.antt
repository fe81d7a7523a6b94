use Rattle.resolution.proofs.CoreKinds.{core_own, core_value}
use Rattle.resolution.proofs.category.+category_kind.Goals as goal

pub returns-then-not-is_wrapper : goal.returns-then-not-is_wrapper
returns-then-not-is_wrapper t c =
    core_own _ _ _ _ c.head_at-h.ensures.0 c.is_wrapper.ensures c.if-not-is_wrapper.true

pub returns-in-Some : goal.returns-in-Some
returns-in-Some t c =
    core_value _ _ _ _ c.head_at-h.ensures.0 c.is_wrapper.ensures _ c.if-not-is_wrapper.false
    (λ i o parts l. c.in-Some.ensures.category i o parts l c.category_kind.result c.category_kind.ensures)

pub returns-in-None : goal.returns-in-None
returns-in-None t c =
    core_value _ _ _ _ c.head_at-h.ensures.0 c.is_wrapper.ensures _ c.if-not-is_wrapper.false c.in-None.ensures.category
