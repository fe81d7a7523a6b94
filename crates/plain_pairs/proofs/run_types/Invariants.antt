-- Each right adds at most three answers, so each left adds at most 768, and no count wraps.
use Rattle.std.proofs.Common.{◌+◌, ◌*◌, ◌≤◌}
use Rattle.plain_pairs.proofs.run_types.Given as goal

abbrev pub invariant-loop-r : goal.invariant-loop-r
invariant-loop-r g l = l.tally.runs ≤ l.initial.tally.runs + 3 * l.r-index

abbrev pub invariant-loop-l : goal.invariant-loop-l
invariant-loop-l g l = l.tally.runs ≤ l.initial.tally.runs + 768 * l.l-index
