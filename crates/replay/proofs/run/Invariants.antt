use Rattle.std.proofs.Common.{◌≡◌}
use Rattle.replay.proofs.run.Given as goal

abbrev pub invariant-loop : goal.invariant-loop
invariant-loop g l = l.tally.runs ≡ l.counter
