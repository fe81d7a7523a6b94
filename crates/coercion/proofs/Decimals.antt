-- The decimals of one width: their join by the greatest scale and the greatest p − s, held to the cap. Assumes nothing.
use mathlib.Core.Path.{◌≡◌, refl, ap, ap₂, sym, subst, ◌∙◌}
use mathlib.Core.Bool.{true, false, cond}
use Rattle.std.specs.Prelude.{Option, Some}
use Prim.Native.Nat.{ℕ, ◌+◌, ◌-◌, ◌%◌, ◌<◌, ◌≤◌, min, max}
use native.Mathlib.Omega.{arith}
use native.Mathlib.Decide.{ℕ_discrete, dec_le}
use lib.Dec.{eqb, leb}
use borrow.Author.Tests.{eqb-true, leb-true, le-leb}
use Rattle.sheet.specs.Booleans.{between}
use Rattle.sheet.specs.Types.{count}
use Rattle.sheet.specs.Kind.{is_decimal, cap}
use Rattle.sheet.specs.Refusals.{biased, decimal_right}
use Rattle.sheet.proofs.Booleans.{and_fst, and_snd, all_at, all_cons, all_nil}
use Rattle.coercion.specs.declared.Rules.{Rules}
use Rattle.coercion.specs.Data.{DataType, plain, first_of, for_list}
use Rattle.coercion.specs.declared.Figures.{Figures}
use Rattle.coercion.specs.Rules.{is_null}
use Rattle.coercion.specs.Same.{equal}
use Rattle.coercion.specs.Numbers.{decimal, wider_scale, wider_precision, get_wider_decimal_type, decimal_coercion, same_figures, binary_numeric_coercion}
use Rattle.coercion.specs.Answers.{coerce_in, coercion, numeric, category_of, category_number}
use Rattle.coercion.specs.Families.{decimals, Member, decimal_of}
use Rattle.coercion.proofs.Joins.{Joins}
use Rattle.coercion.proofs.Resolving.{by_test, equal_plain, Categorised}
use Rattle.coercion.proofs.Codes.{Coded, coded_joins}

-- the four widths
pub data Width : ℕ → Type 0 where
  w32 : Width 14
  w64 : Width 15
  w128 : Width 16
  w256 : Width 17

pub width : (w : ℕ) → is_decimal w ≡ true → Width w
unfolding is_decimal between
width w h =
    let lo = leb-true 14 w (and_fst (leb 14 w) (leb w 17) h) in
    let hi = leb-true w 17 (and_snd (leb 14 w) (leb w 17) h) in
    go lo hi (ℕ_discrete w 14) (ℕ_discrete w 15) (ℕ_discrete w 16)
  where
    go : 14 ≤ w → w ≤ 17 → Dec (w ≡ 14) → Dec (w ≡ 15) → Dec (w ≡ 16) → Width w
    go lo hi (yes e) b c = subst Width (sym e) w32
    go lo hi (no a) (yes e) c = subst Width (sym e) w64
    go lo hi (no a) (no b) (yes e) = subst Width (sym e) w128
    go lo hi (no a) (no b) (no c) = let e : 17 ≡ w = omega arith in subst Width e w256

pub cap_bounds : {w : ℕ} → Width w → (1 ≤ cap w) × (cap w ≤ 76)
unfolding cap
cap_bounds w32 = (omega arith, omega arith)
cap_bounds w64 = (omega arith, omega arith)
cap_bounds w128 = (omega arith, omega arith)
cap_bounds w256 = (omega arith, omega arith)

-- the greatest p − s, plus 256, and the greatest scale, plus 128, of some decimals
pub record Extent : Type 0 where
  pub ahead : ℕ
  pub scale : ℕ

-- the decimal that has them, held to the cap
abbrev pub decimal_at : ℕ → Extent → DataType
decimal_at w e = plain (decimal w (min (cap w) (e.ahead + e.scale - 256)) e.scale)

abbrev pub widen : Extent → Extent → Extent
widen d e = record { ahead = max d.ahead e.ahead; scale = max d.scale e.scale }

-- of decimals that a sheet may carry
pub record Real (w : ℕ) (e : Extent) : Type 0 where
  pub low : 128 ≤ e.ahead
  pub high : e.ahead ≤ 255
  pub held : e.scale ≤ cap w + 128
  pub digits : 257 ≤ e.ahead + e.scale

-- precision and scale of two decimals of one width
joined : (w p s q t : ℕ) → p ≤ cap w → s < 256 → t < 256 → s ≤ cap w + 128 → t ≤ cap w + 128
    → get_wider_decimal_type (decimal w p s) (decimal w q t) ≡ decimal w (min (cap w) (max (p + 256 - s) (q + 256 - t) + max s t - 256)) (max s t)
unfolding get_wider_decimal_type
joined w p s q t hp hs ht ks kt =
    let e : ((s + 128) % 256 + 128) % 256 ≡ s = omega arith in
    let e' : ((t + 128) % 256 + 128) % 256 ≡ t = omega arith in
    let l = decimal w p s in
    let r = decimal w q t in
    let c : min (cap w + 128) (wider_scale l r) ≡ max s t = rw (e, e') (omega arith) in
    let d : min (cap w) (wider_precision l r) ≡ min (cap w) (max (p + 256 - s) (q + 256 - t) + max s t - 256) = rw (e, e') in
    ap₂ (decimal w) d c

-- the same decimal twice
twice : (k p s q t : ℕ) → p ≤ k → s ≤ p + 256 → q ≡ p → t ≡ s → min k (max (p + 256 - s) (q + 256 - t) + max s t - 256) ≡ p
twice k p s q t h b e d = rw (e, d) (omega arith)

-- what the rules come to
numeric_comes : {w : ℕ} → Width w → (p s q t : ℕ) → binary_numeric_coercion (decimal w p s) (decimal w q t)
    ≡ cond (same_figures (decimal w p s) (decimal w q t)) (Some (decimal w p s)) (Some (get_wider_decimal_type (decimal w p s) (decimal w q t)))
unfolding binary_numeric_coercion decimal_coercion is_decimal between
numeric_comes w32 p s q t = refl
numeric_comes w64 p s q t = refl
numeric_comes w128 p s q t = refl
numeric_comes w256 p s q t = refl

coercion_comes : {w : ℕ} → Width w → (m : Rules) (p s q t : ℕ) (j : Figures) → binary_numeric_coercion (decimal w p s) (decimal w q t) ≡ Some j
    → coercion (for_list m) (plain (decimal w p s)) (plain (decimal w q t))
    ≡ cond (equal (plain (decimal w p s)) (plain (decimal w q t))) (Some (plain (decimal w p s))) (Some (plain j))
unfolding coercion coerce_in count first_of
coercion_comes w32 m p s q t j e = rw e
coercion_comes w64 m p s q t j e = rw e
coercion_comes w128 m p s q t j e = rw e
coercion_comes w256 m p s q t j e = rw e

module _ (w p s q t : ℕ) (hp : p ≤ cap w) (hs : s < 256) (ht : t < 256) (ks : s ≤ cap w + 128) (kt : t ≤ cap w + 128) where
  same_figures_lem : p ≡ q → (s + 128) % 256 ≡ (t + 128) % 256
      → decimal w p s ≡ decimal w (min (cap w) (max (p + 256 - s) (q + 256 - t) + max s t - 256)) (max s t)
  same_figures_lem e d =
      let d' : t ≡ s = omega arith in
      ap₂ (decimal w) (sym (twice (cap w) p s q t hp (omega arith) (sym e) d')) (omega arith)

  same_test : same_figures (decimal w p s) (decimal w q t) ≡ true
      → decimal w p s ≡ decimal w (min (cap w) (max (p + 256 - s) (q + 256 - t) + max s t - 256)) (max s t)
  same_test h =
      let r = and_snd (eqb w w) _ h in
      same_figures_lem (eqb-true p q (and_fst (eqb p q) _ r)) (eqb-true ((s + 128) % 256) ((t + 128) % 256) (and_snd (eqb p q) _ r))

  numeric_answer : Width w → binary_numeric_coercion (decimal w p s) (decimal w q t)
      ≡ Some (decimal w (min (cap w) (max (p + 256 - s) (q + 256 - t) + max s t - 256)) (max s t))
  numeric_answer v =
      numeric_comes v p s q t
      ∙ by_test (same_figures (decimal w p s) (decimal w q t)) (λ e. ap {B = Option Figures} Some (same_test e))
      (λ e. ap {B = Option Figures} Some (joined w p s q t hp hs ht ks kt))

  -- the list rule for them, whatever the mask
  decimal_answer : Width w → (m : Rules) → coercion (for_list m) (plain (decimal w p s)) (plain (decimal w q t))
      ≡ Some (plain (decimal w (min (cap w) (max (p + 256 - s) (q + 256 - t) + max s t - 256)) (max s t)))
  decimal_answer v m =
      coercion_comes v m p s q t _ (numeric_answer v)
      ∙ by_test (equal (plain (decimal w p s)) (plain (decimal w q t)))
      (λ e.
      let u = equal_plain (plain (decimal w p s)) (decimal w q t) e in
      ap (λ (g : Figures). Some (plain g))
      (same_figures_lem (ap (λ (x : DataType). x.shape.figure) u) (ap (λ (x : DataType). x.shape.scale) u)))
      (λ e. refl)

-- what the cap cuts off is not seen again
pub hit : (k x y : ℕ) → k + 256 ≤ x + y → min k (x + y - 256) ≡ k
hit k x y h = omega arith

over : (k x y s d : ℕ) → k + 256 ≤ x + s → k + 256 ≤ max x y + max s d
over k x y s d h = omega arith

over' : (k x y s d : ℕ) → k + 256 ≤ y + d → k + 256 ≤ max x y + max s d
over' k x y s d h = omega arith

clamp : (k a s c d : ℕ) → 257 ≤ a + s → 257 ≤ c + d → s ≤ 256 → d ≤ 256
    → min k (max (min k (a + s - 256) + 256 - s) (min k (c + d - 256) + 256 - d) + max s d - 256) ≡ min k (max a c + max s d - 256)
clamp k a s c d h i p q = go (dec_le (a + s) (k + 256)) (dec_le (c + d) (k + 256))
  where
    x : ℕ
    x = min k (a + s - 256) + 256 - s

    y : ℕ
    y = min k (c + d - 256) + 256 - d

    cut : k + 256 ≤ max x y + max s d → k + 256 ≤ max a c + max s d
        → min k (max x y + max s d - 256) ≡ min k (max a c + max s d - 256)
    cut u v = hit k (max x y) (max s d) u ∙ sym (hit k (max a c) (max s d) v)

    go : Dec (a + s ≤ k + 256) → Dec (c + d ≤ k + 256) → min k (max x y + max s d - 256) ≡ min k (max a c + max s d - 256)
    go (yes u) (yes v) =
        let e : x ≡ a = omega arith in
        let e' : y ≡ c = omega arith in
        rw (e, e')
    go (no u) v = cut (over k x y s d (omega arith)) (over k a c s d (omega arith))
    go (yes u) (no v) = cut (over' k x y s d (omega arith)) (over' k a c s d (omega arith))

extent : {a b c d : ℕ} → a ≡ b → c ≡ d → ◌≡◌ {A = Extent} (record { ahead = a; scale = c }) (record { ahead = b; scale = d })
extent e d = λ i. record { ahead = e i; scale = d i }

-- a member by its extent, which its width holds
pub record Within (w : ℕ) (t : DataType) : Type 0 where
  pub extent : Extent
  pub real : Real w extent
  pub fits : extent.ahead + extent.scale ≤ cap w + 256
  pub is : t ≡ decimal_at w extent

pub member_extent : (w : ℕ) (t : DataType) → Member (decimals w) t → Within w t
unfolding decimal_right
member_extent w t (decimal_of v p s h r b) =
    let lo = leb-true 1 p (all_at _ 0 r) in
    let hi = leb-true p (cap w) (all_at _ 1 r) in
    let over = leb-true (biased s) (p + 128) (all_at _ 2 r) in
    let under = leb-true (p + 1) (biased s) (all_at _ 3 r) in
    let e : p ≡ min (cap w) (p + 256 - biased s + biased s - 256) = omega arith in
    let d : s ≡ ((s + 128) % 256 + 128) % 256 = omega arith in
    record {
      extent = record { ahead = p + 256 - biased s; scale = biased s };
      real = record { low = omega arith; high = omega arith; held = omega arith; digits = omega arith };
      fits = omega arith;
      is = ap₂ (λ (x y : ℕ). plain (record { kind = w; figure = x; scale = y })) e d;
    }

width_category : {w : ℕ} → Width w → (p s : ℕ)
    → category_number (category_of (plain (record { kind = w; figure = p; scale = s })).shape (plain (record { kind = w; figure = p; scale = s })).parts) ≡ category_number numeric
unfolding category_of between
width_category w32 p s = refl
width_category w64 p s = refl
width_category w128 p s = refl
width_category w256 p s = refl

module _ (w : ℕ) (known : is_decimal w ≡ true) where
  extent_member : (e : Extent) → Real w e → Member (decimals w) (decimal_at w e)
  unfolding decimal_right
  extent_member e r =
      let c = cap_bounds (width w known) in
      let p = min (cap w) (e.ahead + e.scale - 256) in
      let s = e.scale in
      let low : 128 ≤ e.ahead = r.low in
      let high : e.ahead ≤ 255 = r.high in
      let held : s ≤ cap w + 128 = r.held in
      let digits : 257 ≤ e.ahead + s = r.digits in
      let d : ((s + 128) % 256 + 128) % 256 ≡ s = omega arith in
      decimal_of w p ((s + 128) % 256) known
      (rw d
      (all_cons _ (le-leb 1 p (omega arith))
      (all_cons _ (le-leb p (cap w) (omega arith)) (all_cons _ (le-leb s (p + 128) (omega arith)) (all_cons _ (le-leb (p + 1) s (omega arith)) all_nil)))))
      (omega arith)

  solid : (e : Extent) → is_null (decimal_at w e) ≡ false
  solid e = go (width w known)
    where
      go : {w : ℕ} → Width w → eqb w 1 ≡ false
      go w32 = refl
      go w64 = refl
      go w128 = refl
      go w256 = refl

  answer : (m : Rules) (d e : Extent) → Real w d → Real w e → coercion (for_list m) (decimal_at w d) (decimal_at w e) ≡ Some (decimal_at w (widen d e))
  answer m d e g h =
      let c = cap_bounds (width w known) in
      let ga = g.digits in
      let ha = h.digits in
      let gs = g.held in
      let hs = h.held in
      decimal_answer w (min (cap w) (d.ahead + d.scale - 256)) d.scale (min (cap w) (e.ahead + e.scale - 256)) e.scale
      (omega arith) (omega arith) (omega arith) gs hs (width w known) m
      ∙ ap (λ (p : ℕ). Some (plain (decimal w p (max d.scale e.scale))))
      (clamp (cap w) d.ahead d.scale e.ahead e.scale ga ha (omega arith) (omega arith))

  closed : (d e : Extent) → Real w d → Real w e → Real w (widen d e)
  closed d e g h =
      record {
        low = omega (arith, g.low);
        high = omega (arith, g.high, h.high);
        held = omega (arith, g.held, h.held);
        digits = omega (arith, g.digits);
      }

  pub decimals_coded : Coded (decimals w) (decimal_at w) (Real w) widen
  decimals_coded =
      record {
        code = λ t a. let c = member_extent w t a in (c.extent, (c.real, c.is));
        back = extent_member;
        solid = λ e r. solid e;
        answers = answer;
        closed = closed;
        comm = λ d e g h. extent (omega arith) (omega arith);
        assoc = λ c d e g h i. extent (omega arith) (omega arith);
        idem = λ e g. extent {a = max e.ahead e.ahead} {b = e.ahead} {c = max e.scale e.scale} {d = e.scale} (omega arith) (omega arith);
      }

  pub decimals_joins : Joins (decimals w)
  decimals_joins = coded_joins (decimals w) (decimal_at w) (Real w) widen decimals_coded

  pub decimals_category : Categorised (decimals w) numeric
  decimals_category =
      record {
        is = λ t a.
            let c = member_extent w t a in
            ap (λ (t : DataType). category_number (category_of t.shape t.parts)) c.is
            ∙ width_category (width w known) (min (cap w) (c.extent.ahead + c.extent.scale - 256)) ((c.extent.scale + 128) % 256);
      }
