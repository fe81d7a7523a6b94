use mathlib.Core.Path.{refl, sym, ◌∙◌, ap₂}
use mathlib.Core.List.{List}
use Prim.Native.Nat.{ℕ, ◌-◌}
use native.Mathlib.Omega.{arith}
use lib.ListN.{length, get_or}
use borrow.Author.Tests.{eq-eqb}
use Rattle.sheet.specs.Names.{same_bytes}
use Rattle.sheet.proofs.Booleans.{never}
use Rattle.sheet.proofs.Bytewise.{same_lengths, same_done}
use Rattle.sheet.proofs.Agreeing.{same_unlike, unlike}
use Rattle.sheet.proofs.label.same_label.Goals as goal
use Rattle.sheet.proofs.label.same_label.Goals.{then-x-i+then-i-eq1, then-x-i+else-i-eq1, else-x-i}

pub returns-then-i-y : goal.returns-then-i-y
returns-then-i-y c =
    sym (same_lengths _ _ c.if-i-y.true) ∙ ap₂ same_bytes c.part-x.ensures c.part-y.ensures

pub returns-then-i-eq0 : goal.returns-then-i-eq0
returns-then-i-eq0 c =
    sym (same_done c.part-x.result.now c.part-y.result.now 0 (omega arith) (omega arith)) ∙ ap₂ same_bytes c.part-x.ensures c.part-y.ensures

pub returns-else-x-i-2 : goal.returns-else-x-i-2
returns-else-x-i-2 c =
    c.if-x-i-2.false
    ∙ elim c.if-x-i.branch [
      | then-x-i+then-i-eq1 w ↦ never (sym c.if-x-i-2.false ∙ w.value-is ∙ eq-eqb _ _ w.if-i-eq1.true)
      | then-x-i+else-i-eq1 w ↦ unlike (λ (l : List ℕ). get_or l (length c.part-x.result.now - 2) 0) c.part-x.result.now c.part-y.result.now refl refl (sym w.value-is ∙ c.if-x-i-2.false)
      | else-x-i w ↦ same_unlike (λ (l : List ℕ). get_or l (length c.part-x.result.now - 1) 0) c.part-x.result.now c.part-y.result.now w.if-x-i.false
    ]
    ∙ ap₂ same_bytes c.part-x.ensures c.part-y.ensures
