use native.Mathlib.Omega.{arith}
use mathlib.Core.Path.{refl}
use Rattle.wrappers.proofs.Walking.{meets_spent, meets_alone, meets_bare, meets_off, meets_both}
use Rattle.wrappers.proofs.walk.Walk.+meets.Goals as goal

pub returns-then-left-eq0 : goal.returns-then-left-eq0
returns-then-left-eq0 t c =
    meets_spent _ _ _ _ _ _ _ c.if-left-eq0.true

pub returns-then-not-is_wrapper : goal.returns-then-not-is_wrapper
returns-then-not-is_wrapper t c =
    meets_alone _ _ c.args.self.now.sides.swap _ _ c.kinds-k.ensures.left c.kinds-k.ensures.right refl c.is_wrapper.ensures c.if-not-is_wrapper.true c.allows.ensures

pub overflow_sub-left : goal.overflow_sub-left
overflow_sub-left t c =
    omega (arith, c.if-left-eq0.false)

pub meets-requires : goal.meets-requires
meets-requires t c =
    omega (arith, c.if-left-eq0.false, c.decreases)

pub returns-then-k-j : goal.returns-then-k-j
returns-then-k-j t c =
    meets_both _ _ c.args.self.now.sides.swap _ _ c.kinds-k.ensures.left c.kinds-k.ensures.right refl c.is_wrapper.ensures c.if-not-is_wrapper.false c.right_value-b.ensures c.value-a.ensures c.if-k-j.true c.if-left-eq0.false c.meets.ensures

pub overflow_sub-left-then-is_wrapper : goal.overflow_sub-left-then-is_wrapper
overflow_sub-left-then-is_wrapper t c =
    omega (arith, c.if-left-eq0.false)

pub meets-requires-then-is_wrapper : goal.meets-requires-then-is_wrapper
meets-requires-then-is_wrapper t c =
    omega (arith, c.if-left-eq0.false, c.decreases)

pub returns-then-is_wrapper : goal.returns-then-is_wrapper
returns-then-is_wrapper t c =
    meets_off _ _ c.args.self.now.sides.swap _ _ c.kinds-k.ensures.left c.kinds-k.ensures.right c.is_wrapper-2.ensures c.is_wrapper.ensures c.if-not-is_wrapper.false c.right_value-b.ensures c.if-is_wrapper.true c.if-k-j.false c.if-left-eq0.false c.meets-then-is_wrapper.ensures

pub returns : goal.returns
returns t c =
    meets_bare _ _ c.args.self.now.sides.swap _ _ c.kinds-k.ensures.left c.kinds-k.ensures.right c.is_wrapper-2.ensures c.is_wrapper.ensures c.if-not-is_wrapper.false c.right_value-b.ensures c.if-is_wrapper.false
