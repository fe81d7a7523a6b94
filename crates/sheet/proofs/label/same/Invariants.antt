use Rattle.sheet.proofs.Agreeing.{Agree}
use Rattle.sheet.proofs.label.same.Given as goal

abbrev pub invariant-loop-i : goal.invariant-loop-i
invariant-loop-i l = Agree l.a l.b l.i
