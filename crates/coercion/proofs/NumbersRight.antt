-- The figures of numbers' common types are right, decimals of every width by one law. Assumes nothing.
use mathlib.Core.Path.{◌≡◌, refl}
use mathlib.Core.Bool.{Bool, true, false, cond, ◌&&◌, ◌||◌}
use mathlib.Core.List.{[], ◌∷◌}
use Rattle.std.specs.Prelude.{None, Some}
use Prim.Native.Nat.{ℕ, ◌+◌, ◌-◌, ◌%◌, ◌<◌, ◌≤◌, min, max}
use native.Mathlib.Omega.{arith}
use lib.Dec.{eqb, leb, ltb}
use borrow.Author.Tests.{eqb-true, leb-true, le-leb, lt-leb, lt-ltb, ne_eqb}
use Rattle.sheet.specs.declared.kind.TheConstants as Kind
use Rattle.sheet.specs.Kind.{is_kind, is_decimal, cap, last_unit, parts_right, is_numeric, is_signed, one_is, with_kind}
use Rattle.sheet.specs.Booleans.{all_of, between}
use Rattle.sheet.specs.Refusals.{biased, decimal_right, figure_right}
use Rattle.sheet.proofs.Booleans.{all_at, all_cons, all_nil, and_fst, and_snd}
use Rattle.coercion.specs.Data.{and_then}
use Rattle.coercion.specs.Numbers.{float_coercion, integer_coercion, decimal, ahead, wider_scale, wider_precision, get_wider_decimal_type, get_wider_decimal_type_cross_variant, digits_of, fraction_of, takes, coerce_numeric_type_to_decimal, get_common_decimal_type, decimal_coercion, numerical_coercion, same_figures, binary_numeric_coercion}
use Rattle.coercion.specs.declared.Figures.{Figures}
use Rattle.coercion.proofs.Maybe.{If, if_cond, if_else, cond_is}

-- figures that a type without parts may have
abbrev pub fits : Figures → Bool
fits f = all_of (is_kind f.kind ∷ parts_right f.kind 0 ∷ figure_right f.kind f.figure f.scale ∷ ltb f.scale 256 ∷ [])

abbrev pub Fits : Figures → Type 0
Fits f = fits f ≡ true

-- figures that a type may have
pub record Right (f : Figures) : Type 0 where
  pub figure : figure_right f.kind f.figure f.scale ≡ true
  pub byte : f.scale < 256

-- a kind below 32 has no parts
low_kind : (k : ℕ) → 1 ≤ k → k < 32 → (is_kind k ≡ true) × (parts_right k 0 ≡ true)
unfolding is_kind parts_right between
low_kind k lo hi = (
  rw (le-leb 1 k lo, le-leb k 38 (omega arith)),
  rw (lt-leb 32 k hi, ne_eqb k 36 (omega arith), lt-leb 37 k (omega arith), ne_eqb k 35 (omega arith)),
)

numeric_low : (k : ℕ) → is_numeric k ≡ true → (1 ≤ k) × (k < 32)
unfolding between
numeric_low k h = omega (arith, leb-true 3 k (and_fst (leb 3 k) (leb k 17) h), leb-true k 17 (and_snd (leb 3 k) (leb k 17) h))

low_fits : (f : Figures) → 1 ≤ f.kind → f.kind < 32 → Right f → Fits f
low_fits f lo hi h =
    let k = low_kind f.kind lo hi in
    all_cons _ k.0 (all_cons _ k.1 (all_cons _ h.figure (all_cons _ (lt-ltb f.scale 256 h.byte) all_nil)))

-- a precision and a scale, plus 128, that a decimal may have, its cap aside
pub record Digits (p s : ℕ) : Type 0 where
  pub some : 1 ≤ p
  pub low : s ≤ p + 128
  pub high : p + 1 ≤ s

pub wider_digits : (p s q t : ℕ) → Digits p s → Digits q t → Digits (max (ahead p s) (ahead q t) + max s t - 256) (max s t)
wider_digits p s q t h k = record { some = omega arith; low = omega arith; high = omega arith }

pub clamped_digits : (m p s : ℕ) → 1 ≤ m → Digits p s → Digits (min m p) (min (m + 128) s)
clamped_digits m p s h k = record { some = omega arith; low = omega arith; high = omega arith }

pub cap_small : (k : ℕ) → (1 ≤ cap k) × (cap k ≤ 76)
unfolding cap
cap_small k =
    cond_is P (eqb k Kind.DECIMAL32) 9 _ (omega arith)
    (cond_is P (eqb k Kind.DECIMAL64) 18 _ (omega arith) (cond_is P (eqb k Kind.DECIMAL128) 38 76 (omega arith) (omega arith)))
  where
    P : ℕ → Type 0
    P n = (1 ≤ n) × (n ≤ 76)

decimal_low : (k : ℕ) → is_decimal k ≡ true → (1 ≤ k) × (k < 32)
unfolding is_decimal between
decimal_low k h = omega (arith, leb-true 14 k (and_fst (leb 14 k) (leb k 17) h), leb-true k 17 (and_snd (leb 14 k) (leb k 17) h))

-- a decimal of any width with such digits, under its cap
pub decimal_fits : (k p s : ℕ) → is_decimal k ≡ true → Digits p s → p ≤ cap k → Fits (decimal k p s)
unfolding figure_right decimal_right
decimal_fits k p s h d le =
    let c = cap_small k in
    let e : ((s + 128) % 256 + 128) % 256 ≡ s = omega (arith, d.low) in
    let g : figure_right k p ((s + 128) % 256) ≡ true =
    rw (h, e)
    (all_cons _ (le-leb 1 p d.some)
    (all_cons _ (le-leb p (cap k) le) (all_cons _ (le-leb s (p + 128) d.low) (all_cons _ (le-leb (p + 1) s d.high) all_nil)))) in
    low_fits (decimal k p s) (decimal_low k h).0 (decimal_low k h).1 (record { figure = g; byte = omega arith })

-- the digits of a decimal that is right
pub right_digits : (f : Figures) → is_decimal f.kind ≡ true → Right f → Digits f.figure (biased f.scale) × (f.figure ≤ cap f.kind)
unfolding figure_right decimal_right
right_digits f d h =
    let k = f.kind in
    let p = f.figure in
    let s = biased f.scale in
    let g : all_of (leb 1 p ∷ leb p (cap k) ∷ leb s (p + 128) ∷ leb (p + 1) s ∷ []) ≡ true = rw d at h.figure in (
      record { some = leb-true 1 p (all_at _ 0 g); low = leb-true s (p + 128) (all_at _ 2 g); high = leb-true (p + 1) s (all_at _ 3 g) },
      leb-true p (cap k) (all_at _ 1 g),
    )

pub wider_fits : (l r : Figures) → is_decimal l.kind ≡ true → Digits l.figure (biased l.scale) → Digits r.figure (biased r.scale) → Fits (get_wider_decimal_type l r)
unfolding get_wider_decimal_type
wider_fits l r d h k =
    let p = wider_precision l r in
    let s = wider_scale l r in
    decimal_fits l.kind (min (cap l.kind) p) (min (cap l.kind + 128) s) d
    (clamped_digits (cap l.kind) p s (cap_small l.kind).0 (wider_digits l.figure (biased l.scale) r.figure (biased r.scale) h k)) (omega arith)

max_decimal : (k j : ℕ) → is_decimal k ≡ true → is_decimal j ≡ true → is_decimal (max k j) ≡ true
unfolding is_decimal between
max_decimal k j h g =
    let lo = leb-true 14 k (and_fst (leb 14 k) (leb k 17) h) in
    let hi = leb-true k 17 (and_snd (leb 14 k) (leb k 17) h) in
    let hi' = leb-true j 17 (and_snd (leb 14 j) (leb j 17) g) in
    rw (le-leb 14 (max k j) (omega arith), le-leb (max k j) 17 (omega arith))

pub cross_fits : (l r : Figures) → is_decimal l.kind ≡ true → is_decimal r.kind ≡ true → Right l → Right r → If Fits (get_wider_decimal_type_cross_variant l r)
unfolding get_wider_decimal_type_cross_variant
cross_fits l r d e h k =
    let j = max l.kind r.kind in
    if_cond Fits (leb (wider_precision l r) (cap j)) (Some (decimal j (wider_precision l r) (wider_scale l r))) None
    (λ le. decimal_fits j (wider_precision l r) (wider_scale l r) (max_decimal l.kind r.kind d e)
    (wider_digits l.figure (biased l.scale) r.figure (biased r.scale) (right_digits l d h).0 (right_digits r e k).0) (leb-true _ _ le))
    (λ le. tt)

-- the digits of numbers that a decimal takes
pub number_digits : (k : ℕ) → Digits (digits_of k) (biased ((fraction_of k + 128 + 128) % 256))
number_digits k = go (digits k) (fraction k)
  where
    P : ℕ → Type 0
    P n = (1 ≤ n) × (n ≤ 30)

    digits : (k : ℕ) → P (digits_of k)
    digits k =
        cond_is P (one_is k Kind.INT8 Kind.UINT8) 3 _ (omega arith)
        (cond_is P (one_is k Kind.INT16 Kind.UINT16) 5 _ (omega arith)
        (cond_is P (one_is k Kind.INT32 Kind.UINT32) 10 _ (omega arith)
        (cond_is P (one_is k Kind.INT64 Kind.UINT64) 20 _ (omega arith)
        (cond_is P (eqb k Kind.FLOAT16) 6 _ (omega arith) (cond_is P (eqb k Kind.FLOAT32) 14 30 (omega arith) (omega arith))))))

    fraction : (k : ℕ) → fraction_of k ≤ digits_of k
    fraction k = f16 (eqb k Kind.FLOAT16) refl
      where
        f64 : (x : Bool) → eqb k Kind.FLOAT64 ≡ x → cond x 15 0 ≤ digits_of k
        f64 true e = rw (eqb-true k Kind.FLOAT64 e) (omega arith)
        f64 false e = omega arith

        f32 : (x : Bool) → eqb k Kind.FLOAT32 ≡ x → cond x 7 (cond (eqb k Kind.FLOAT64) 15 0) ≤ digits_of k
        f32 true e = rw (eqb-true k Kind.FLOAT32 e) (omega arith)
        f32 false e = f64 (eqb k Kind.FLOAT64) refl

        f16 : (x : Bool) → eqb k Kind.FLOAT16 ≡ x → cond x 3 (cond (eqb k Kind.FLOAT32) 7 (cond (eqb k Kind.FLOAT64) 15 0)) ≤ digits_of k
        f16 true e = rw (eqb-true k Kind.FLOAT16 e) (omega arith)
        f16 false e = f32 (eqb k Kind.FLOAT32) refl

    go : P (digits_of k) → fraction_of k ≤ digits_of k → Digits (digits_of k) (biased ((fraction_of k + 128 + 128) % 256))
    go d f = record { some = d.0; low = omega arith; high = omega arith }

pub common_fits : (d other : Figures) → is_decimal d.kind ≡ true → Right d → If Fits (get_common_decimal_type d other)
unfolding get_common_decimal_type coerce_numeric_type_to_decimal
common_fits d other e h = go (takes d.kind other.kind)
  where
    o : Figures
    o = decimal d.kind (digits_of other.kind) (fraction_of other.kind + 128)

    go : (x : Bool) → If Fits (and_then (cond x (Some o) None) (λ o. Some (get_wider_decimal_type d o)))
    go true = wider_fits d o e (right_digits d e h).0 (number_digits other.kind)
    go false = tt

pub decimal_right_lem : (l r : Figures) → Right l → Right r → If Fits (decimal_coercion l r)
unfolding decimal_coercion
decimal_right_lem l r h k =
    if_cond Fits (is_decimal l.kind && is_decimal r.kind) _ _
    (λ e. let d = and_fst (is_decimal l.kind) (is_decimal r.kind) e in
    let d' = and_snd (is_decimal l.kind) (is_decimal r.kind) e in
    if_cond Fits (eqb l.kind r.kind) (Some (get_wider_decimal_type l r)) (get_wider_decimal_type_cross_variant l r)
    (λ e. wider_fits l r d (right_digits l d h).0 (right_digits r d' k).0) (λ e. cross_fits l r d d' h k))
    (λ e. if_cond Fits (is_decimal l.kind) (get_common_decimal_type l r) _ (λ d. common_fits l r d h)
    (λ e. if_cond Fits (is_decimal r.kind) (get_common_decimal_type r l) None (λ d. common_fits r l d k) (λ e. tt)))

pub numerical_fits : (k j : ℕ) → If Fits (numerical_coercion k j)
unfolding numerical_coercion all_of is_kind parts_right between figure_right decimal_right is_decimal cap last_unit
numerical_fits k j =
    let P = If Fits in
    if_else Fits (float_coercion k j) (integer_coercion k j)
    (cond_is P (one_is Kind.FLOAT64 k j) _ _ refl
    (cond_is P (one_is Kind.FLOAT32 k j) _ _ refl (cond_is P (one_is Kind.FLOAT16 k j) _ _ refl tt)))
    (cond_is P (with_kind Kind.UINT64 is_signed k j) _ _ refl
    (cond_is P (one_is Kind.UINT64 k j) _ _ refl
    (cond_is P (one_is Kind.INT64 k j || with_kind Kind.UINT32 (between Kind.INT8 Kind.INT32) k j) _ _ refl
    (cond_is P (one_is Kind.UINT32 k j) _ _ refl
    (cond_is P (one_is Kind.INT32 k j || with_kind Kind.UINT16 (between Kind.INT8 Kind.INT16) k j) _ _ refl
    (cond_is P (one_is Kind.UINT16 k j) _ _ refl
    (cond_is P (one_is Kind.INT16 k j || with_kind Kind.UINT8 (λ i. eqb i Kind.INT8) k j) _ _ refl
    (cond_is P (one_is Kind.INT8 k j) _ _ refl (cond_is P (one_is Kind.UINT8 k j) _ _ refl tt)))))))))

pub numeric_fits : (l r : Figures) → Right l → Right r → If Fits (binary_numeric_coercion l r)
unfolding binary_numeric_coercion
numeric_fits l r h k =
    if_cond Fits (is_numeric l.kind && is_numeric r.kind) _ None
    (λ e. if_cond Fits (same_figures l r) (Some l) _
    (λ e'. let n = numeric_low l.kind (and_fst (is_numeric l.kind) (is_numeric r.kind) e) in low_fits l n.0 n.1 h)
    (λ e'. if_else Fits (decimal_coercion l r) (numerical_coercion l.kind r.kind) (decimal_right_lem l r h k) (numerical_fits l.kind r.kind)))
    (λ e. tt)
