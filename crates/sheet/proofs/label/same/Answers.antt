use mathlib.Core.Path.{sym, ◌∙◌}
use mathlib.Core.List.{List}
use Prim.Native.Nat.{ℕ, ◌+◌, ◌-◌}
use native.Mathlib.Omega.{arith}
use lib.ListN.{length}
use Rattle.sheet.specs.Head.{eight_at}
use Rattle.sheet.proofs.Agreeing.{Agree, same_unlike, agree_none, agree_eight, eights_decide}
use Rattle.sheet.proofs.Bytewise.{same_lengths}
use Rattle.sheet.proofs.label.same.Goals as goal
use Rattle.sheet.proofs.label.same.Goals.{else-loop-i-test, then-loop-i-test+else-eight_at+else-last-i-gt8}

pub returns-then-n-b : goal.returns-then-n-b
returns-then-n-b c =
    sym (same_lengths _ _ c.if-n-b.true)

pub loop-i-init : goal.loop-i-init
loop-i-init c =
    agree_none c.args.a.now c.args.b.now

pub returns-then-eight_at : goal.returns-then-eight_at
returns-then-eight_at c =
    same_unlike (λ (l : List ℕ). eight_at l c.loop-i.i) _ _ (λ e. c.if-eight_at.true (c.eight_at.ensures ∙ e ∙ sym c.eight_at-in-loop-i.ensures))

pub loop-i-preserved : goal.loop-i-preserved
loop-i-preserved c =
    agree_eight c.args.a.now c.args.b.now c.type_inv.a c.type_inv.b c.loop-i.i c.loop-i.i (c.loop-i.i + 8) c.loop-i.invariant (omega arith) (omega arith) (sym c.eight_at.ensures ∙ c.if-eight_at.false ∙ c.eight_at-in-loop-i.ensures)

pub returns : goal.returns
returns c =
    let met : Agree c.args.a.now c.args.b.now (length c.args.a.now - 8) = elim c.loop-i-test.branch [
      | else-loop-i-test w ↦ λ k h. c.loop-i.invariant k (omega arith)
      | then-loop-i-test+else-eight_at+else-last-i-gt8 w ↦
          agree_eight c.args.a.now c.args.b.now c.type_inv.a c.type_inv.b c.loop-i.i c.loop-i.i _ c.loop-i.invariant (omega arith) (omega arith) (sym w.eight_at.ensures ∙ w.if-eight_at.false ∙ w.eight_at-in-loop-i.ensures)
    ] in
    eights_decide c.args.a.now c.args.b.now c.type_inv.a c.type_inv.b c.if-n-b.false (omega arith) met c.eight_at-2.ensures c.eight_at-3.ensures
