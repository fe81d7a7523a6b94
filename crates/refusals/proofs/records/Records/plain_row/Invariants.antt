use Rattle.refusals.specs.Packed.{Row}
use Rattle.refusals.proofs.records.Records.plain_row.Given as goal

abbrev pub invariant-loop-q : goal.invariant-loop-q
invariant-loop-q l =
    Row l.self.sheet.now l.self.n l.r l.q l.q
