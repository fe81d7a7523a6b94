use Prim.Native.Nat.{◌<◌}
use Rattle.partners.specs.Naming.{Within}
use Rattle.partners.proofs.index.Index.look_up.Given as goal

abbrev pub invariant-loop : goal.invariant-loop
invariant-loop l =
    (l.j < 1024) × Within l.n l.t l.r l.j
