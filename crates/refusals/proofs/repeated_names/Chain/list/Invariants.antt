use Prim.Native.Nat.{◌-◌}
use Rattle.refusals.proofs.Naming.{Followed, Kept}
use Rattle.refusals.proofs.repeated_names.Chain.list.Given as goal

abbrev pub invariant-loop-low : goal.invariant-loop-low
invariant-loop-low l =
    Followed l.self.records.sheet.now l.self.records.n l.self.floor l.self.link l.low l.at l.k × Kept l.self.records.sheet.now l.self.records.n l.self.link l.k l.initial.recs l.initial.numbers l.recs l.numbers

abbrev pub decreases-loop-low : goal.decreases-loop-low
decreases-loop-low l =
    l.self.records.n - l.low
