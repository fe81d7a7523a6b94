use native.Mathlib.Omega.{arith}
use mathlib.Core.Path.{refl, sym, ap}
use mathlib.Core.Bool.{not}
use Rattle.refusals.proofs.Verdicts.{few_differ, found_short, found_figure, found_label, found_end, found_repeated, found_sheet}
use Rattle.refusals.proofs.check_found.Goals.{then-p-2-via-then-p-2, then-p-2-via-else-p-2+then-p-m, else-n-ge4-via-then-n-ge4+else-names_repeat, else-n-ge4-via-else-n-ge4}
use Rattle.refusals.proofs.check_found.Goals as goal

pub returns-then-p-n : goal.returns-then-p-n
returns-then-p-n c =
    found_short _ _ _ _ _ c.requires (omega arith)

pub returns-then-p : goal.returns-then-p
returns-then-p c =
    found_figure _ _ _ _ _ c.requires (omega arith) c.if-p.true

pub returns-then-p-2 : goal.returns-then-p-2
returns-then-p-2 c =
    elim c.then-p-2.branch [
      | then-p-2-via-then-p-2 w ↦ found_label _ _ _ _ _ c.requires (omega arith) c.if-p.false w.if-p-2.true
      | then-p-2-via-else-p-2+then-p-m w ↦ found_end _ _ _ _ _ c.requires (omega arith) c.if-p.false w.if-p-2.false (omega arith)
    ]

pub returns-then-names_repeat : goal.returns-then-names_repeat
returns-then-names_repeat c =
    found_repeated _ _ _ _ _ c.requires (omega arith) c.if-p.false c.if-p-2.false (omega arith) c.args.framed.bytes c.names_repeat.ensures c.if-names_repeat.true

pub returns : goal.returns
returns c =
    elim c.else-n-ge4.branch [
      | else-n-ge4-via-then-n-ge4+else-names_repeat w ↦ found_sheet _ _ _ _ _ c.requires (omega arith) c.if-p.false c.if-p-2.false (omega arith) c.args.framed.bytes w.names_repeat.ensures w.if-names_repeat.false
      | else-n-ge4-via-else-n-ge4 w ↦ found_sheet _ _ _ _ _ c.requires (omega arith) c.if-p.false c.if-p-2.false (omega arith) c.args.framed.bytes (λ o t h e. ap not (sym (few_differ t (omega (arith, e, w.if-n-ge4.false))))) refl
    ]
