-- The decimal rule for two decimals of one width that a sheet may carry, over the cap too, for all four widths
-- together. Assumes nothing.
use mathlib.Core.Path.{◌≡◌, refl, sym, ◌∙◌, ap, ap₂}
use mathlib.Core.Bool.{Bool, true, false, cond, ◌&&◌}
use mathlib.Core.List.{[], ◌∷◌}
use Rattle.std.specs.Prelude.{Option, None, Some}
use Prim.Native.Nat.{ℕ, ◌+◌, ◌-◌, ◌%◌, ◌<◌, ◌≤◌, min, max}
use native.Mathlib.Omega.{arith}
use lib.Dec.{leb, eqb}
use lib.IntN.{sub_ℕ}
use borrow.Author.Tests.{le-leb, leb-true, eq-eqb, ne_eqb, eqb-true}
use Rattle.sheet.specs.Booleans.{between}
use Rattle.sheet.specs.Kind.{is_decimal, cap, is_numeric}
use Rattle.sheet.specs.Refusals.{biased, decimal_right, figure_right}
use Rattle.sheet.proofs.Booleans.{all_at, all_cons, all_nil, and_fst, and_snd}
use Rattle.coercion.specs.declared.Figures.{Figures}
use Rattle.coercion.specs.Data.{DataType, or_else, first_of, plain, as_type}
use Rattle.coercion.specs.Same.{same_type, equal, alike}
use Rattle.coercion.specs.Numbers.{ahead, get_wider_decimal_type, decimal_coercion, binary_numeric_coercion}
use Rattle.coercion.specs.Answers.{ask, coercion}
use Rattle.coercion.specs.Wider.{decimal_of, Wider}
use Rattle.coercion.proofs.Bridge.{signed_is, scale_is, held_is}
use Rattle.coercion.proofs.Sameness.{type_equal}
use Rattle.coercion.proofs.Words.{coercion_step}
use Rattle.coercion.specs.declared.Question.{Question}
use Rattle.coercion.specs.declared.Rules.{Rules}

-- a precision and a scale byte that a width with a cap may have
pub record Fits (most p s : ℕ) : Type 0 where
  pub some : 1 ≤ p
  pub few : p ≤ most
  pub inside : biased s ≤ p + 128
  pub short : p + 1 ≤ biased s

pub fits : (most p s : ℕ) → decimal_right most p s ≡ true → Fits most p s
unfolding decimal_right
fits most p s h =
    let ts = leb 1 p ∷ leb p most ∷ leb (biased s) (p + 128) ∷ leb (p + 1) (biased s) ∷ [] in
    record {
      some = leb-true 1 p (all_at ts 0 h);
      few = leb-true p most (all_at ts 1 h);
      inside = leb-true (biased s) (p + 128) (all_at ts 2 h);
      short = leb-true (p + 1) (biased s) (all_at ts 3 h);
    }

pub fits_right : (most p s : ℕ) → Fits most p s → decimal_right most p s ≡ true
unfolding decimal_right
fits_right most p s h =
    all_cons _ (le-leb 1 p h.some)
    (all_cons _ (le-leb p most h.few)
    (all_cons _ (le-leb (biased s) (p + 128) h.inside) (all_cons _ (le-leb (p + 1) (biased s) h.short) all_nil)))

-- the sum of the greater scale and the greater p − s, of scales a and b plus 128
abbrev total : ℕ → ℕ → ℕ → ℕ → ℕ
total p a q b = max (ahead p a) (ahead q b) + max a b - 256

total_above : (p a q b : ℕ) → a < 256 → b < 256 → p ≤ total p a q b
total_above p a q b h k = omega arith

total_below : (p a q b : ℕ) → p + 1 ≤ a → q + 1 ≤ b → a < 256 → b < 256 → total p a q b + 1 ≤ max a b
total_below p a q b l r h k = omega arith

-- the common scale as a byte
stored : (n : ℕ) → n < 256 → biased ((n + 128) % 256) ≡ n
stored n h = omega arith

-- the common scale is held by the cap anyway
uncapped : (most p a q b : ℕ) → a ≤ p + 128 → p ≤ most → b ≤ q + 128 → q ≤ most → min (most + 128) (max a b) ≡ max a b
uncapped most p a q b l h r k = omega arith

max_byte : (a b : ℕ) → a < 256 → b < 256 → max a b < 256
max_byte a b h k = omega arith

inside_total : (p a q b : ℕ) → a ≤ p + 128 → b ≤ q + 128 → a < 256 → b < 256 → max a b ≤ total p a q b + 128
inside_total p a q b l r h k = omega arith

-- the common precision and scale fit
joined : (most p s q t : ℕ) → Fits most p s → Fits most q t
    → Fits most (min most (total p (biased s) q (biased t))) ((max (biased s) (biased t) + 128) % 256)
joined most p s q t l r =
    let a = biased s in
    let b = biased t in
    let h : a < 256 = omega arith in
    let k : b < 256 = omega arith in
    let m = max a b in
    let n = total p a q b in
    let u : p ≤ n = total_above p a q b h k in
    let v : n + 1 ≤ m = total_below p a q b l.short r.short h k in
    let x : m ≤ n + 128 = inside_total p a q b l.inside r.inside h k in
    let y : m ≤ most + 128 = omega (arith, l.inside, r.inside, l.few, r.few) in
    made most n m (omega (arith, l.some)) (omega (arith, l.some, l.few)) v x y (stored m (max_byte a b h k))
  where
    made : (most n m : ℕ) → 1 ≤ n → 1 ≤ most → n + 1 ≤ m → m ≤ n + 128 → m ≤ most + 128 → biased ((m + 128) % 256) ≡ m
        → Fits most (min most n) ((m + 128) % 256)
    made most n m i j v x y e = record { some = omega arith; few = omega arith; inside = rw e (omega arith); short = rw e (omega arith) }

-- two decimals of one width that a sheet may carry
pub wider : (w p s q t : ℕ) → is_decimal w ≡ true → decimal_right (cap w) p s ≡ true → decimal_right (cap w) q t ≡ true → s < 256 → t < 256
    → Wider w p s q t (get_wider_decimal_type (decimal_of w p s) (decimal_of w q t))
unfolding get_wider_decimal_type figure_right
wider w p s q t d x y h k =
    let l = fits (cap w) p s x in
    let r = fits (cap w) q t y in
    let a = biased s in
    let b = biased t in
    let i : a < 256 = omega arith in
    let j : b < 256 = omega arith in
    let e = uncapped (cap w) p a q b l.inside l.few r.inside r.few in
    let f = stored (max a b) (max_byte a b i j) in
    let byte : (max a b + 128) % 256 < 256 = omega arith in
    rw e
    (record {
      width = refl;
      scale = f;
      precision = refl;
      over = over (cap w) (total p a q b);
      signed_scale = signed_is ((max a b + 128) % 256) byte ∙ ap (λ (n : ℕ). sub_ℕ n 128) f ∙ sym (scale_is s t h k);
      signed_precision = sym (held_is (cap w) p s q t h k);
      right = rw d (fits_right (cap w) _ _ (joined (cap w) p s q t l r));
      byte = byte;
    })
  where
    over : (most n : ℕ) → most < n → min most n ≡ most
    over most n h = omega arith

-- the same decimal twice
pub wider_self : (w p s : ℕ) → decimal_right (cap w) p s ≡ true → s < 256 → get_wider_decimal_type (decimal_of w p s) (decimal_of w p s) ≡ decimal_of w p s
unfolding get_wider_decimal_type
wider_self w p s x h =
    let l = fits (cap w) p s x in
    ap₂ (λ (p s : ℕ). decimal_of w p s) (same_figure (cap w) p (biased s) l.few (omega arith)) (same_scale (cap w) p s h l.few l.inside)
  where
    same_figure : (most p a : ℕ) → p ≤ most → a < 256 → min most (max (ahead p a) (ahead p a) + max a a - 256) ≡ p
    same_figure most p a h k = omega arith

    same_scale : (most p s : ℕ) → s < 256 → p ≤ most → biased s ≤ p + 128 → (min (most + 128) (max (biased s) (biased s)) + 128) % 256 ≡ s
    same_scale most p s h k i =
        let e : min (most + 128) (max (biased s) (biased s)) ≡ biased s = omega arith in
        rw e (omega arith)

-- the kinds of decimals
decimal_kinds : (w : ℕ) → is_decimal w ≡ true → (14 ≤ w) × (w ≤ 17)
unfolding is_decimal between
decimal_kinds w d = (leb-true 14 w (and_fst (leb 14 w) _ d), leb-true w 17 (and_snd (leb 14 w) _ d))

-- a first rule that gives what the next one gives
listed : {a b : DataType} (test : Bool) → (test ≡ true → Some a ≡ Some b) → cond test (Some a) (Some b) ≡ Some b
listed true f = f refl
listed false f = refl

paired : {a b : DataType} (test : Bool) → (test ≡ true → Some a ≡ Some b) → or_else (cond test (Some a) None) (Some b) ≡ Some b
paired true f = f refl
paired false f = refl

module _ (w p s q t : ℕ) (d : is_decimal w ≡ true) (x : decimal_right (cap w) p s ≡ true) (y : decimal_right (cap w) q t ≡ true) (h : s < 256) (k : t < 256) where
  numeric : is_numeric w ≡ true
  unfolding between
  numeric = let e = decimal_kinds w d in rw (le-leb 3 w (omega arith), le-leb w 17 (omega arith))

  -- where the two are one decimal
  same_wider : p ≡ q → s ≡ t → Some (decimal_of w p s) ≡ Some (get_wider_decimal_type (decimal_of w p s) (decimal_of w q t))
  same_wider e f =
      ap {B = Option Figures} Some (sym (wider_self w p s x h) ∙ ap₂ (λ (q t : ℕ). get_wider_decimal_type (decimal_of w p s) (decimal_of w q t)) e f)

  -- the rule for numbers gives it
  numeric_wider : binary_numeric_coercion (decimal_of w p s) (decimal_of w q t) ≡ Some (get_wider_decimal_type (decimal_of w p s) (decimal_of w q t))
  unfolding binary_numeric_coercion decimal_coercion
  numeric_wider = rw (numeric, d, eq-eqb w w refl) (go (eqb p q && eqb s t) refl)
    where
      go : (b : Bool) → (eqb p q && eqb s t) ≡ b → cond b (Some (decimal_of w p s)) (Some (get_wider_decimal_type (decimal_of w p s) (decimal_of w q t)))
          ≡ Some (get_wider_decimal_type (decimal_of w p s) (decimal_of w q t))
      go true e = same_wider (eqb-true p q (and_fst _ _ e)) (eqb-true s t (and_snd (eqb p q) _ e))
      go false e = refl

  -- where two decimals are alike they are one
  alike_one : (named : Bool) → same_type named (plain (decimal_of w p s)) (plain (decimal_of w q t)) ≡ true
      → Some (plain (decimal_of w p s)) ≡ Some (plain (get_wider_decimal_type (decimal_of w p s) (decimal_of w q t)))
  alike_one named a =
      let e = type_equal named _ _ a in
      ap as_type (same_wider (ap (λ (u : DataType). u.shape.figure) e) (ap (λ (u : DataType). u.shape.scale) e))

  decimals_asked : (question : Question) (rules : Rules) (coerce : DataType → DataType → Option DataType)
      → ask question rules coerce (plain (decimal_of w p s)) (plain (decimal_of w q t))
      ≡ Some (plain (get_wider_decimal_type (decimal_of w p s) (decimal_of w q t)))
  unfolding first_of
  decimals_asked Question.List rules coerce =
      let e = decimal_kinds w d in
      rw (ne_eqb w 37 (omega arith), ne_eqb w 38 (omega arith), ne_eqb w 35 (omega arith), numeric_wider)
      (listed (equal (plain (decimal_of w p s)) (plain (decimal_of w q t))) (alike_one true))
  decimals_asked Question.Union rules coerce = rw numeric_wider (paired (alike (plain (decimal_of w p s)) (plain (decimal_of w q t))) (alike_one false))
  decimals_asked Question.Compare rules coerce = rw numeric_wider (paired (alike (plain (decimal_of w p s)) (plain (decimal_of w q t))) (alike_one false))

  -- the answer of all three questions, whatever the mask
  pub decimals_answer : (rules : Rules)
      → coercion rules (plain (decimal_of w p s)) (plain (decimal_of w q t)) ≡ Some (plain (get_wider_decimal_type (decimal_of w p s) (decimal_of w q t)))
  decimals_answer rules = coercion_step rules _ _ ∙ decimals_asked rules.question rules _
