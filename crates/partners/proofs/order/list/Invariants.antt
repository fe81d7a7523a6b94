use Prim.Native.Nat.{◌-◌, ◌≤◌}
use Rattle.partners.specs.Naming.{Within, Lists}
use Rattle.partners.proofs.order.list.Given as goal

abbrev pub invariant-loop-floor : goal.invariant-loop-floor
invariant-loop-floor l =
    (Lists l.n l.t l.link l.recs × Within l.n l.t l.link l.j) × ((l.k ≤ l.floor) × (l.floor ≤ l.n))

abbrev pub decreases-loop-floor : goal.decreases-loop-floor
decreases-loop-floor l =
    l.n - l.floor
