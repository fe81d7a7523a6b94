use Prim.Native.Nat.{◌-◌}
use Rattle.merge.specs.Descent.{Descended}
use Rattle.merge.proofs.descent.walk_down.Given as goal

abbrev pub invariant-loop-at : goal.invariant-loop-at
invariant-loop-at l =
    Descended l.space l.s l.k l.j l.l (record { first = l.first; core = l.at; run = l.run })

abbrev pub decreases-loop-at : goal.decreases-loop-at
decreases-loop-at l =
    l.space.n - l.at
