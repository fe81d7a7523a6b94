use Prim.Native.Nat.{ℕ, ◌<◌}
use mathlib.Core.Path.{◌≡◌}
use Rattle.sheet.specs.Read.{label_at}
use Rattle.refusals.specs.RepeatedNames.{placed}
use Rattle.refusals.proofs.Naming.{names}
use Rattle.refusals.proofs.repeated_names.Chain.named.Given as goal

abbrev pub invariant-loop-i : goal.invariant-loop-i
invariant-loop-i l =
    (l.at ≡ placed l.self.records.sheet.now l.self.link l.i) × ((j : ℕ) → j < l.i → names l.self.records.sheet.now l.self.records.n l.self.link j ≡ label_at l.self.records.sheet.now l.self.records.n l.h.name l.h.name_len → ⊥)
