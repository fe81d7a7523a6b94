use native.Mathlib.Omega.{arith}
use Rattle.wrappers.proofs.Walking.{core_spent, core_down, core_found, core_strange}
use Rattle.wrappers.proofs.walk.Walk.+core_kind.Goals as goal

pub returns-then-left-eq0 : goal.returns-then-left-eq0
returns-then-left-eq0 t c =
    core_spent _ _ _ c.if-left-eq0.true

pub overflow_sub-left : goal.overflow_sub-left
overflow_sub-left t c =
    omega (arith, c.if-left-eq0.false)

pub core_kind-requires : goal.core_kind-requires
core_kind-requires t c =
    omega (arith, c.if-left-eq0.false, c.decreases)

pub returns-then-is_wrapper : goal.returns-then-is_wrapper
returns-then-is_wrapper t c =
    core_down c.kind-k.ensures c.is_wrapper.ensures c.if-is_wrapper.true c.value.ensures c.if-left-eq0.false c.core_kind.ensures

pub returns-then-k-lt64 : goal.returns-then-k-lt64
returns-then-k-lt64 t c =
    core_found c.kind-k.ensures c.is_wrapper.ensures c.if-is_wrapper.false c.if-k-lt64.true

pub returns-else-k-lt64 : goal.returns-else-k-lt64
returns-else-k-lt64 t c =
    core_strange c.kind-k.ensures c.is_wrapper.ensures c.if-k-lt64.false
