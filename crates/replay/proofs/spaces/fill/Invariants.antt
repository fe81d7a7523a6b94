use Rattle.std.proofs.Common.{◌≡◌, ℕ, ◌<◌, get_or}
use Rattle.replay.specs.Spaces.{mark_at}
use Rattle.replay.proofs.spaces.fill.Given as goal

abbrev pub invariant-loop-i : goal.invariant-loop-i
invariant-loop-i l = (k : ℕ) → k < l.i → get_or l.place k 0 ≡ mark_at k
