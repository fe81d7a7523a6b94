use Prim.Native.Nat.{◌-◌}
use Rattle.partners.proofs.Walking.{Walking}
use Rattle.partners.proofs.names.feed_along.Given as goal

abbrev pub invariant-loop-low : goal.invariant-loop-low
invariant-loop-low l =
    Walking l.n l.s l.t l.known l.by_name l.floor l.l l.r l.key l.initial.table l.low l.i l.j l.table

abbrev pub decreases-loop-low : goal.decreases-loop-low
decreases-loop-low l =
    l.n - l.low
