use Prim.Native.Nat.{◌-◌}
use Rattle.resolution.specs.Keeps.{BottomAt}
use Rattle.resolution.specs.declared.keep.Bottom.{Bottom}
use Rattle.resolution.proofs.Keeping.{CoreFound}
use Rattle.resolution.proofs.keep.bottom_at.Given as goal

abbrev pub invariant-loop-core : goal.invariant-loop-core
invariant-loop-core l =
    (b : Bottom) → CoreFound l.space l.s l.core l.wrapper b → BottomAt l.space l.s l.r b

abbrev pub decreases-loop-core : goal.decreases-loop-core
decreases-loop-core l =
    l.space.n - l.core
