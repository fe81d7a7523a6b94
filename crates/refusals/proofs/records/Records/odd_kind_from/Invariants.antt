use Prim.Native.Nat.{◌-◌}
use mathlib.Core.Path.{◌≡◌}
use mathlib.Core.Bool.{not}
use Rattle.sheet.specs.Kind.{is_kind}
use Rattle.sheet.specs.Head.{head_at}
use Rattle.sheet.specs.Refusals.{any_from}
use Rattle.refusals.proofs.records.Records.odd_kind_from.Given as goal

abbrev pub invariant-loop-q : goal.invariant-loop-q
invariant-loop-q l =
    any_from (λ j. not (is_kind (head_at l.self.sheet.now j).kind)) l.q (l.self.n - l.q) ≡ any_from (λ j. not (is_kind (head_at l.self.sheet.now j).kind)) l.r (l.self.n - l.r)
