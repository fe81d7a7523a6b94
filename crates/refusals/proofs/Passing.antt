-- Past a record: what its tests make of the number that a walk carries. Assumes nothing.
use mathlib.Core.Path.{◌≡◌, refl, ap, sym, ◌∙◌}
use mathlib.Core.Bool.{Bool, true, false, not, ◌||◌}
use Prim.Native.Nat.{ℕ, ◌+◌, ◌/◌, ◌%◌, ◌<◌}
use native.Mathlib.Omega.{arith}
use lib.Dec.{eqb}
use Rattle.sheet.specs.declared.Head.{Head}
use Rattle.refusals.specs.Walk.{pass_head}
use Rattle.refusals.specs.Packed.{progress_of, PassesBy, Passed}

or_not : (a : Bool) {b : Bool} → b ≡ true → a ≡ (a || not b)
or_not true e = refl
or_not false e = sym (ap not e)

bit : {x v : ℕ} → x ≡ v → eqb (x % 2) 1 ≡ eqb (v % 2) 1
bit = ap (λ (x : ℕ). eqb (x % 2) 1)

-- a record with which nothing is wrong
module _ (h : Head) (up found labels : ℕ) (room : found % 4294967296 < 1000000) (p : PassesBy h up (found % 4294967296) labels) where
  pub right_past : (due : ℕ) → progress_of (due + 1) (found + labels) ≡ pass_head h up (progress_of due found)
  right_past due =
      let few = p.few in
      let a : (found + labels) % 4294967296 ≡ found % 4294967296 + labels = omega (arith, room, few) in
      let f : (found + labels) / 4294967296 ≡ found / 4294967296 = omega (arith, room, few) in
      let l : (found + labels) / 8589934592 ≡ found / 8589934592 = omega (arith, room, few, f) in
      (λ i.
      record {
        due = due + 1;
        at = (a ∙ ap (λ (x : ℕ). found % 4294967296 + x) p.all) i;
        figure = (bit f ∙ or_not (eqb (found / 4294967296 % 2) 1) p.figures) i;
        label = (bit l ∙ or_not (eqb (found / 8589934592 % 2) 1) p.placed) i;
      })

  pub right_passed : found < 17179869184 → Passed h up found (found + labels)
  right_passed small =
      let few = p.few in
      record {
        past = right_past;
        few = omega (arith, room, few);
        small = omega (arith, room, few, small);
      }
