use Prim.Native.Nat.{◌-◌}
use Rattle.partners.proofs.Naming.{Searched}
use Rattle.partners.proofs.search.find.Given as goal

abbrev pub invariant-loop-floor : goal.invariant-loop-floor
invariant-loop-floor l =
    Searched l.n l.t l.want l.link l.floor l.j

abbrev pub decreases-loop-floor : goal.decreases-loop-floor
decreases-loop-floor l =
    l.n - l.floor
