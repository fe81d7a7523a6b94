use mathlib.Core.Path.{◌≡◌}
use lib.ListN.{length, get_or}
use Rattle.std.specs.Prelude.{None, Ok}
use Rattle.refusals.specs.RepeatedNames.{FindsEqual}
use Rattle.refusals.proofs.Marking.{Marked}
use Rattle.refusals.proofs.name_numbers.equal_numbers.Given as goal

abbrev pub invariant-loop-i : goal.invariant-loop-i
invariant-loop-i l =
    (length l.marks ≡ 8192) × (Marked l.xs l.marks l.i × FindsEqual (λ j. get_or l.xs j 0) l.i (Ok None))
