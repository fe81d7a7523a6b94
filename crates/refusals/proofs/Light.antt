-- Records by their numbers of 32 bits: those that few tests show to be right. Assumes nothing.
use mathlib.Core.Path.{◌≡◌, refl, ap, sym, subst, ◌∙◌}
use mathlib.Core.Bool.{Bool, true, false, not, cond, ◌&&◌}
use mathlib.Core.Logic.{◌⊎◌, inl, inr, ⊎_elim}
use Prim.Native.Nat.{ℕ, ◌+◌, ◌*◌, ◌/◌, ◌%◌, ◌<◌, ◌≤◌}
use native.Mathlib.Omega.{arith}
use lib.Dec.{eqb, ltb}
use borrow.Author.Tests.{eq-eqb, ne_eqb, eqb-true, lt-ltb, ltb-true, le-leb}
use Rattle.std.proofs.lemmas.Bool.Decides.{nat_tests}
use Rattle.sheet.specs.Booleans.{implies, between}
use Rattle.sheet.specs.Kind.{is_decimal, cap, parts_right, names_parts}
use Rattle.sheet.specs.Head.{by_quads, nullable_in, zoned_in, zone_len}
use Rattle.sheet.specs.Refusals.{decimal_right, figure_right, figures_right, record_right, placed, label_right}
use Rattle.refusals.specs.Packed.{light, usual_decimal, plain, PassesBy}
use Rattle.sheet.proofs.Booleans.{never, and_fst, and_snd, all_not, all_nil, all_cons}
use Rattle.sheet.proofs.Figures.{figure_none, size_none, record_plain, labels_named, parts_none}

and_last : (a b : Bool) {c : Bool} → c ≡ false → (a && (b && c)) ≡ false
and_last true true e = e
and_last true false e = refl
and_last false b e = refl

implies_any : (a : Bool) {b : Bool} → b ≡ true → implies a b ≡ true
implies_any true e = e
implies_any false e = refl

-- a decimal has a precision
decimal_none : (k f c : ℕ) → is_decimal k ≡ true → f ≡ 0 → figure_right k f c ≡ false
unfolding figure_right decimal_right
decimal_none k f c d e = rw (d, e) (all_not _ 0 refl)

module _ (a b : ℕ) where
  light_decimal : a < 512 → is_decimal (a % 256) ≡ true → false ≡ light (by_quads a b 0 0)
  unfolding light
  light_decimal h d = sym (and_last (eqb b 0) (ltb (a / 256 % 256) 2) (decimal_none (a % 256) (a / 65536 % 256) (a / 16777216) d (omega arith)))

  light_few : b ≡ 0 → a < 512 → is_decimal (a % 256) ≡ false → true ≡ light (by_quads a b 0 0)
  unfolding light
  light_few z h d =
      let f : a / 65536 % 256 ≡ 0 = omega arith in
      rw (eq-eqb b 0 z, lt-ltb (a / 256 % 256) 2 (omega arith))
      (sym (ap (λ (x : ℕ). figure_right (a % 256) x (a / 16777216)) f ∙ figure_none (a % 256) (a / 16777216) d (omega arith)))

  pub light_first : b ≡ 0 → a < 512 → not (is_decimal (a % 256)) ≡ light (by_quads a b 0 0)
  light_first z h = go (is_decimal (a % 256)) refl
    where
      go : (d : Bool) → is_decimal (a % 256) ≡ d → not (is_decimal (a % 256)) ≡ light (by_quads a b 0 0)
      go true e = ap not e ∙ light_decimal h e
      go false e = ap not e ∙ light_few z h e

  pub light_quad : light (by_quads a b 0 0) ≡ true → b ≡ 0
  unfolding light
  light_quad l = eqb-true b 0 (and_fst (eqb b 0) _ l)

module _ (a d up o : ℕ) (l : light (by_quads a 0 0 0) ≡ true) where
  few_flags : a / 256 % 256 < 2
  unfolding light
  few_flags = ltb-true (a / 256 % 256) 2 (and_fst (ltb (a / 256 % 256) 2) _ l)

  right_figure : figure_right (a % 256) (a / 65536 % 256) (a / 16777216) ≡ true
  unfolding light
  right_figure = and_snd (ltb (a / 256 % 256) 2) _ l

  right_figures : figures_right (a % 256) (a / 65536 % 256) (a / 16777216) 0 false false ≡ true
  unfolding figures_right
  right_figures = all_cons _ right_figure (all_cons _ (size_none (a % 256)) (all_cons _ refl (all_cons _ refl all_nil)))

  no_zone : zoned_in (by_quads a 0 0 d) ≡ false
  no_zone = ne_eqb (a / 256 % 256 / 4 % 2) 1 (omega (arith, few_flags))

  -- a record of no more than a name
  pub light_right : d < 16777216 → placed o (d % 65536) (d / 65536 % 256) ≡ true → implies (not (eqb (d / 65536 % 256) 0)) (names_parts up) ≡ true
      → implies (nullable_in (by_quads a 0 0 d)) (names_parts up) ≡ true → PassesBy (by_quads a 0 0 d) up o (d / 65536)
  light_right small p n u =
      let z : cond (zoned_in (by_quads a 0 0 d)) (zone_len (by_quads a 0 0 d)) 0 ≡ 0 = ap (λ (x : Bool). cond x (zone_len (by_quads a 0 0 d)) 0) no_zone in
      let e : d / 65536 ≡ d / 65536 % 256 = omega arith in
      record {
        few = omega arith;
        figures = record_plain (by_quads a 0 0 d) up (omega arith) few_flags u ∙ right_figures;
        placed = labels_named (by_quads a 0 0 d) up o p n no_zone;
        all = omega (arith, z, e);
      }

  pub light_nameless : d ≡ 0 → implies (nullable_in (by_quads a 0 0 d)) (names_parts up) ≡ true → PassesBy (by_quads a 0 0 d) up o 0
  light_nameless z u =
      let e : d / 65536 ≡ 0 = omega arith in
      let n : eqb (d / 65536 % 256) 0 ≡ true = eq-eqb (d / 65536 % 256) 0 (omega arith) in
      subst (λ (r : ℕ). PassesBy (by_quads a 0 0 d) up o r) e
      (light_right (omega arith)
      (ap (λ (x : Bool). eqb (d % 65536) (cond x 0 o)) n ∙ eq-eqb (d % 65536) 0 (omega arith))
      (ap (λ (x : Bool). implies (not x) (names_parts up)) n) u)

  pub light_bare : d ≡ 0 → a / 256 % 256 ≡ 0 → PassesBy (by_quads a 0 0 d) up o 0
  light_bare z f =
      light_nameless z (ap (λ (x : Bool). implies x (names_parts up)) (ne_eqb (a / 256 % 256 % 2) 1 (omega arith)))

  pub light_nullable : {b : Bool} → d ≡ 0 → b ≡ names_parts up → b ≡ true → PassesBy (by_quads a 0 0 d) up o 0
  light_nullable z e t = light_nameless z (implies_any (nullable_in (by_quads a 0 0 d)) (sym e ∙ t))

  pub light_named : {b : Bool} → d < 16777216 → 65536 ≤ d → b ≡ names_parts up → b ≡ true → d % 65536 ≡ o → PassesBy (by_quads a 0 0 d) up o (d / 65536)
  light_named small some e t at =
      let n : eqb (d / 65536 % 256) 0 ≡ false = ne_eqb (d / 65536 % 256) 0 (omega arith) in
      light_right small (ap (λ (x : Bool). eqb (d % 65536) (cond x 0 o)) n ∙ eq-eqb (d % 65536) o at)
      (implies_any (not (eqb (d / 65536 % 256) 0)) (sym e ∙ t)) (implies_any (nullable_in (by_quads a 0 0 d)) (sym e ∙ t))

-- links say nothing of what is right
pub passes_linked : (a b c d up o r : ℕ) → b ≡ 0 → PassesBy (by_quads a 0 0 d) up o r → PassesBy (by_quads a b c d) up o r
unfolding record_right label_right
passes_linked a b c d up o r z p =
    subst (λ (x : ℕ). PassesBy (by_quads a x c d) up o r) (sym z)
    (record { few = p.few; figures = p.figures; placed = p.placed; all = p.all })

-- a usual decimal
module _ (k p s : ℕ) (u : usual_decimal k p s ≡ true) where
  usual_kind : k ≡ 16
  usual_kind = grind (arith, nat_tests)

  usual_scale : s ≤ p
  usual_scale = grind (arith, nat_tests)

  usual_some : 0 < p
  usual_some = grind (arith, nat_tests)

  usual_few : p ≤ 38
  usual_few = grind (arith, nat_tests)

  usual_right : figure_right 16 p s ≡ true
  unfolding figure_right decimal_right is_decimal between cap
  usual_right =
      let e : (s + 128) % 256 ≡ s + 128 = omega (arith, usual_scale, usual_few) in
      all_cons _ (le-leb 1 p usual_some)
      (all_cons _ (le-leb p 38 usual_few)
      (all_cons _ (le-leb ((s + 128) % 256) (p + 128) (omega (arith, usual_scale, e)))
      (all_cons _ (le-leb (p + 1) ((s + 128) % 256) (omega (arith, usual_few, e))) all_nil)))

-- a plain record
plain_cases : (y d u : Bool) → cond y (not d) u ≡ true → ((y ≡ true) × (d ≡ false)) ⊎ (u ≡ true)
plain_cases true true u e = never e
plain_cases true false u e = inl (refl, refl)
plain_cases false d u e = inr e

-- what it says of its kind
record Kinded (a : ℕ) : Type 0 where
  low : a % 256 < 32
  flagless : a / 256 % 256 ≡ 0
  lit : light (by_quads a 0 0 0) ≡ true

kinded_low : (a : ℕ) → a < 32 → is_decimal (a % 256) ≡ false → Kinded a
kinded_low a h n = record { low = omega arith; flagless = omega arith; lit = sym (light_few a 0 refl (omega arith) n) }

mul_mod : (x : ℕ) → 256 * x % 256 ≡ 0
mul_mod x = omega arith

kinded_usual : (a : ℕ) → usual_decimal (a % 65536) (a / 65536 % 256) (a / 16777216) ≡ true → Kinded a
unfolding light
kinded_usual a u =
    let k : a % 65536 ≡ 16 = usual_kind (a % 65536) (a / 65536 % 256) (a / 16777216) u in
    let m : a ≡ 65536 * (a / 65536) + 16 = omega arith in
    let g : a / 256 ≡ 256 * (a / 65536) = omega arith in
    let e : 16 ≡ a % 256 = omega (arith, g, m) in
    let f : a / 256 % 256 ≡ 0 = ap (λ (x : ℕ). x % 256) g ∙ mul_mod (a / 65536) in
    record {
      low = omega arith;
      flagless = f;
      lit =
          rw (lt-ltb (a / 256 % 256) 2 (omega arith))
          (subst (λ (j : ℕ). figure_right j (a / 65536 % 256) (a / 16777216) ≡ true) e (usual_right (a % 65536) (a / 65536 % 256) (a / 16777216) u));
    }

module _ (a b c d : ℕ) (p : plain a b d ≡ true) where
  rest_none : b + d ≡ 0
  rest_none = eqb-true (b + d) 0 (and_fst (eqb (b + d) 0) _ p)

  kinded : Kinded a
  kinded =
      ⊎_elim
      (λ y.
      let h = ltb-true a 32 y.0 in
      let e : a % 256 ≡ a = omega (arith, h) in
      kinded_low a h (ap is_decimal e ∙ y.1))
      (kinded_usual a)
      (plain_cases (ltb a 32) (is_decimal a) (usual_decimal (a % 65536) (a / 65536 % 256) (a / 16777216)) (and_snd (eqb (b + d) 0) _ p))

  pub plain_passes : (up o : ℕ) → PassesBy (by_quads a b c d) up o 0
  plain_passes up o =
      passes_linked a b c d up o 0 (omega (arith, rest_none)) (light_bare a d up o kinded.lit (omega (arith, rest_none)) kinded.flagless)

  pub plain_parts : parts_right (a % 256) 0 ≡ true
  plain_parts = parts_none (a % 256) 0 kinded.low
