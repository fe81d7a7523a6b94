use mathlib.Core.Path.{◌≡◌, refl, subst}
use mathlib.Core.Bool.{true, false, cond, ◌&&◌}
use Prim.Native.Nat.{◌+◌}
use lib.Dec.{eqb}
use borrow.Author.Tests.{ne_eqb}
use Rattle.wrappers.specs.Walks.{TellsBoth}
use Rattle.wrappers.specs.declared.walk.Walk.{Walk}
use Rattle.wrappers.proofs.Hints.{met}
use Rattle.wrappers.proofs.Walking.{asked_turn, is_asked, way_left, way_right, none_left, none_right, way_straight}
use Rattle.wrappers.proofs.walk.chosen_wrapper.Goals.{in_default-via-in-37+in_default, in_default-via-in-38+in_default, in_default-via-in_default}
use Rattle.wrappers.proofs.walk.chosen_wrapper.Goals as goal

pub returns-in_err-h-in-37-eq38 : goal.returns-in_err-h-in-37-eq38
returns-in_err-h-in-37-eq38 c =
    none_left _ _ _ c.args.sides.now.swap _ _ _ _ c.kinds-k.ensures.left c.kinds-k.ensures.right c.from_residual.ensures c.in_err-h-in-37-eq38.ensures.learns (rw (c.in-37-eq38.is-0, c.in-37-eq38.is-1) refl)

pub returns-in_ok-h-in-37-eq38 : goal.returns-in_ok-h-in-37-eq38
returns-in_ok-h-in-37-eq38 c =
    way_left _ _ _ c.args.sides.now.swap _ _ _ _ c.kinds-k.ensures.left c.kinds-k.ensures.right c.meets_if.result
    (asked_turn c.in_ok-h-in-37-eq38.h _ _ (c.in_ok-h-in-37-eq38.ensures.some) c.kind_for-kind.ensures, refl) (is_asked _ c.kind_for-kind.ensures)
    (c.in_ok-h-in-37-eq38.ensures.learns) (rw (c.in-37-eq38.is-0, c.in-37-eq38.is-1) refl) c.value-a.ensures c.meets_if.ensures

pub returns-in_err-h-in-38-eq37 : goal.returns-in_err-h-in-38-eq37
returns-in_err-h-in-38-eq37 c =
    none_right _ _ _ c.args.sides.now.swap _ _ _ _ c.kinds-k.ensures.left c.kinds-k.ensures.right c.from_residual-in_err-h-in-38-eq37.ensures c.in_err-h-in-38-eq37.ensures.learns (rw (c.in-38-eq37.is-0, c.in-38-eq37.is-1) refl)

pub returns-in_ok-h-in-38-eq37 : goal.returns-in_ok-h-in-38-eq37
returns-in_ok-h-in-38-eq37 c =
    way_right _ _ _ c.args.sides.now.swap _ _ _ _ c.kinds-k.ensures.left c.kinds-k.ensures.right c.meets_if-in-38-eq37.result
    (asked_turn c.in_ok-h-in-38-eq37.h _ _ (c.in_ok-h-in-38-eq37.ensures.some) c.kind_for-kind-in-38-eq37.ensures, refl) (is_asked _ c.kind_for-kind-in-38-eq37.ensures)
    (c.in_ok-h-in-38-eq37.ensures.learns) (rw (c.in-38-eq37.is-0, c.in-38-eq37.is-1) refl) c.right_value-b.ensures
    (subst (λ (u : Walk). TellsBoth (λ x y. cond (eqb c.in_ok-h-in-38-eq37.h 3) (met u.mask x y) true) (c.args.left + 1) u.sides.swap u.sides.sheet.now u.work.now c.right_value-b.result c.args.l c.meets_if-in-38-eq37.result) c.swapped.ensures c.meets_if-in-38-eq37.ensures)

pub returns-in_default : goal.returns-in_default
returns-in_default c =
    let left_straight : (eqb c.kinds-k.result.0 37 && eqb c.kinds-k.result.1 38) ≡ false =
    elim c.in_default.branch [
      | in_default-via-in-37+in_default w ↦ rw (w.in_default.is-0, ne_eqb _ 38 w.in_default.is-1.1) refl
      | in_default-via-in-38+in_default w ↦ rw w.in_default.is-0 refl
      | in_default-via-in_default w ↦ rw (ne_eqb _ 37 w.in_default.is-0.0.1) refl
    ] in
    let right_straight : (eqb c.kinds-k.result.0 38 && eqb c.kinds-k.result.1 37) ≡ false =
    elim c.in_default.branch [
      | in_default-via-in-37+in_default w ↦ rw w.in_default.is-0 refl
      | in_default-via-in-38+in_default w ↦ rw (w.in_default.is-0, ne_eqb _ 37 w.in_default.is-1.1) refl
      | in_default-via-in_default w ↦ rw (ne_eqb _ 38 w.in_default.is-0.1) refl
    ] in
    way_straight _ _ _ c.args.sides.now.swap _ _ _ _ c.kinds-k.ensures.left c.kinds-k.ensures.right c.one_is.result
    c.kind_for.ensures c.hint_if.ensures (is_asked _ c.kind_for.ensures) left_straight right_straight c.one_is.ensures
