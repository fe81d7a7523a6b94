use Prim.Native.Nat.{◌+◌, ◌-◌, ◌≤◌}
use mathlib.Core.Path.{◌≡◌}
use mathlib.Core.Bool.{not}
use Rattle.sheet.specs.Kind.{is_kind}
use Rattle.sheet.specs.Head.{head_at}
use Rattle.sheet.specs.Refusals.{any_from}
use Rattle.refusals.proofs.records.Records.odd_kind.Given as goal

abbrev pub invariant-loop-r : goal.invariant-loop-r
invariant-loop-r l =
    (l.r ≤ l.self.n + 1) × (any_from (λ j. not (is_kind (head_at l.self.sheet.now j).kind)) l.r (l.self.n - l.r) ≡ any_from (λ j. not (is_kind (head_at l.self.sheet.now j).kind)) 1 (l.self.n - 1))

abbrev pub decreases-loop-r : goal.decreases-loop-r
decreases-loop-r l =
    l.self.n - l.r
