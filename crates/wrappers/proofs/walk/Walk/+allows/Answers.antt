use native.Mathlib.Omega.{arith}
use mathlib.Core.Path.{refl}
use Rattle.wrappers.proofs.Walking.{wrapper_low, allows_spent, allows_none, allows_now, allows_down}
use Rattle.wrappers.proofs.walk.Walk.+allows.Goals as goal

pub returns-then-left-eq0 : goal.returns-then-left-eq0
returns-then-left-eq0 t c =
    allows_spent _ _ _ _ c.if-left-eq0.true

pub may_become-requires : goal.may_become-requires
may_become-requires t c =
    wrapper_low _ c.is_wrapper.ensures c.if-is_wrapper.true

pub returns-then-may_become : goal.returns-then-may_become
returns-then-may_become t c =
    allows_now _ _ c.kind-k.ensures c.is_wrapper.ensures c.if-is_wrapper.true c.may_become.ensures refl c.if-may_become.true

pub overflow_sub-left : goal.overflow_sub-left
overflow_sub-left t c =
    omega (arith, c.if-left-eq0.false)

pub allows-requires : goal.allows-requires
allows-requires t c =
    omega (arith, c.if-left-eq0.false, c.decreases)

pub returns-then-is_wrapper : goal.returns-then-is_wrapper
returns-then-is_wrapper t c =
    allows_down _ _ c.kind-k.ensures c.is_wrapper.ensures c.if-is_wrapper.true c.may_become.ensures c.value.ensures c.if-may_become.false c.if-left-eq0.false c.allows.ensures

pub returns : goal.returns
returns t c =
    allows_none _ _ c.kind-k.ensures c.is_wrapper.ensures c.if-is_wrapper.false
