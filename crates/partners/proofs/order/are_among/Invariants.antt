use Prim.Native.Nat.{◌-◌}
use Rattle.partners.proofs.Naming.{Matching}
use Rattle.partners.proofs.order.are_among.Given as goal

abbrev pub invariant-loop-low : goal.invariant-loop-low
invariant-loop-low l =
    Matching l.n l.s l.t l.floor l.l l.r l.key l.initial.table l.low l.i l.table

abbrev pub decreases-loop-low : goal.decreases-loop-low
decreases-loop-low l =
    l.n - l.low
