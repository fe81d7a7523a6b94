-- One sheet is counted a round at most, so that the counts do not wrap.
use Rattle.std.proofs.Common.{◌≤◌}
use Rattle.sheet_check.proofs.run.Given as goal

abbrev pub invariant-loop : goal.invariant-loop
invariant-loop g l = l.tally.runs ≤ l.counter
