-- A Timestamp with a zone, and what its bytes 4 to 7 say of its labels. Assumes nothing.
use mathlib.Core.Path.{◌≡◌, refl, ap, sym, ◌∙◌}
use mathlib.Core.Bool.{Bool, true, false, not, cond}
use Prim.Native.Nat.{ℕ, ◌+◌, ◌/◌, ◌%◌, ◌≤◌}
use native.Mathlib.Omega.{arith}
use lib.Dec.{eqb, ltb}
use borrow.Author.Tests.{eq-eqb, ne_eqb, lt-ltb, le-leb}
use Rattle.sheet.specs.Booleans.{implies}
use Rattle.sheet.specs.Kind.{names_parts, is_decimal, last_unit, sized}
use Rattle.sheet.specs.Booleans.{between}
use Rattle.sheet.specs.Head.{sorted_in, zoned_in, zone_at, zone_len, labelled}
use Rattle.sheet.specs.Refusals.{figure_right, size_right, figures_right, record_right}
use Rattle.sheet.specs.declared.Head.{Head}
use Rattle.refusals.specs.Packed.{Stamped, PassesBy}
use Rattle.sheet.proofs.Booleans.{all_nil, all_cons}
use Rattle.sheet.proofs.Figures.{labels_named}

unit_right : (f : ℕ) → f ≤ 3 → figures_right 22 f 0 0 false true ≡ true
unfolding figures_right figure_right size_right is_decimal between last_unit sized
unit_right f h = all_cons _ (all_cons _ (le-leb f 3 h) (all_cons _ refl all_nil)) (all_cons _ refl (all_cons _ refl (all_cons _ refl all_nil)))

module _ (h : Head) (up : ℕ) (s : Stamped h) where
  zoned : zoned_in h ≡ true
  zoned = eq-eqb (h.flags / 4 % 2) 1 (omega (arith, s.flags))

  unsorted : sorted_in h ≡ false
  unsorted = ne_eqb (h.flags / 2 % 2) 1 (λ e. omega (arith, s.flags))

  unnamed : eqb h.name_len 0 ≡ true
  unnamed = eq-eqb h.name_len 0 s.short

  stamp_right : record_right h up ≡ true
  unfolding record_right
  stamp_right =
      all_cons _
      ((λ i. figures_right (s.kind i) h.figure (s.scale i) (cond (zoned i) 0 h.bytes_4_7) (unsorted i) (zoned i)) ∙ unit_right h.figure s.unit)
      (all_cons _ (ap (λ (b : Bool). implies b (names_parts up)) (ne_eqb (h.flags % 2) 1 (λ e. omega (arith, s.flags))))
      (all_cons _ (lt-ltb h.flags 8 (omega (arith, s.flags)))
      (all_cons _ (ap (λ (b : Bool). implies b (ltb h.bytes_4_7 16777216)) zoned ∙ lt-ltb h.bytes_4_7 16777216 s.zone)
      (all_cons _ (eq-eqb h.byte_15 0 s.last) all_nil))))

  -- the zone stands at o, or is empty and has offset 0
  pub stamp_passes : (o r : ℕ) → r ≡ h.bytes_4_7 / 65536 → h.bytes_4_7 % 65536 ≡ cond (eqb r 0) 0 o → PassesBy h up o r
  stamp_passes o r e p =
      let l : zone_len h ≡ r = omega (arith, s.zone) in
      record {
        few = omega (arith, s.zone);
        figures = stamp_right;
        placed =
            labels_named h up o
            (eq-eqb h.name (cond (eqb h.name_len 0) 0 o) (s.nameless ∙ sym (ap (λ (b : Bool). cond b 0 o) unnamed)))
            (ap (λ (b : Bool). implies (not b) (names_parts up)) unnamed)
            zoned
            ∙ eq-eqb (zone_at h) (cond (eqb (zone_len h) 0) 0 (o + h.name_len)) (p ∙ (λ i. cond (eqb (sym l i) 0) 0 (moved i)));
        all = sym l ∙ size;
      }
    where
      moved : o ≡ o + h.name_len
      moved = omega (arith, s.short)

      size : zone_len h ≡ labelled h
      size = sym (ap (λ (b : Bool). h.name_len + cond b (zone_len h) 0) zoned ∙ ap (λ (x : ℕ). x + zone_len h) s.short ∙ omega arith)
