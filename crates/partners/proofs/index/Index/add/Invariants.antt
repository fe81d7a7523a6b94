use Prim.Native.Nat.{◌-◌}
use Rattle.partners.specs.Naming.{Within, Indexed}
use Rattle.partners.proofs.index.Index.add.Given as goal

abbrev pub invariant-loop-floor : goal.invariant-loop-floor
invariant-loop-floor l =
    Indexed l.n l.t l.link l.self.heads l.self.olds × Within l.n l.t l.link l.j

abbrev pub decreases-loop-floor : goal.decreases-loop-floor
decreases-loop-floor l =
    l.n - l.floor
