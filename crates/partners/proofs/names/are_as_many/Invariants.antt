use Prim.Native.Nat.{◌-◌}
use Rattle.partners.proofs.Naming.{Counted}
use Rattle.partners.proofs.names.are_as_many.Given as goal

abbrev pub invariant-loop-low : goal.invariant-loop-low
invariant-loop-low l =
    Counted l.n l.s l.t l.floor l.l l.r l.low l.i l.j

abbrev pub decreases-loop-low : goal.decreases-loop-low
decreases-loop-low l =
    l.n - l.low
