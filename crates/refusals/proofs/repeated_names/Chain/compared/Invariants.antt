use Prim.Native.Nat.{◌-◌}
use Rattle.std.specs.Prelude.{None, Ok}
use Rattle.refusals.specs.RepeatedNames.{FindsEqual}
use Rattle.refusals.proofs.Naming.{names, Followed}
use Rattle.refusals.proofs.repeated_names.Chain.compared.Given as goal

abbrev pub invariant-loop-low : goal.invariant-loop-low
invariant-loop-low l =
    Followed l.self.records.sheet.now l.self.records.n l.self.floor l.self.link l.low l.at l.k × FindsEqual (names l.self.records.sheet.now l.self.records.n l.self.link) l.k (Ok None)

abbrev pub decreases-loop-low : goal.decreases-loop-low
decreases-loop-low l =
    l.self.records.n - l.low
