use Prim.Native.Nat.{◌-◌}
use Rattle.sheet.specs.Read.{records_of}
use Rattle.refusals.proofs.Laying.{Along}
use Rattle.refusals.proofs.listing.list_kinds.Given as goal

abbrev pub invariant-loop-at : goal.invariant-loop-at
invariant-loop-at l =
    Along l.sheet l.initial.output l.at l.i l.output

abbrev pub decreases-loop-at : goal.decreases-loop-at
decreases-loop-at l =
    records_of l.sheet - l.i
