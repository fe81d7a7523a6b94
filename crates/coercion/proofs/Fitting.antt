-- The types of a family, and Null, may be listed in a sheet. Assumes nothing.
use mathlib.Core.Path.{◌≡◌, refl}
use mathlib.Core.Bool.{Bool, true, false, ◌&&◌}
use Prim.Native.Nat.{ℕ, ◌<◌, ◌≤◌}
use native.Mathlib.Omega.{arith}
use lib.Dec.{ltb}
use borrow.Author.Tests.{ltb-true, leb-true}
use Rattle.sheet.specs.Booleans.{all_of, between}
use Rattle.sheet.specs.Kind.{is_kind, is_decimal, cap, sized, last_unit, parts_right}
use Rattle.sheet.specs.Refusals.{decimal_right, figure_right, size_right, figures_right}
use Rattle.sheet.proofs.Booleans.{and_fst, and_snd, all_at, all_cons, all_nil}
use Rattle.coercion.specs.Data.{DataType, plain, of_kind}
use Rattle.coercion.specs.declared.Figures.{Figures}
use Rattle.coercion.specs.Families.{Family, integers, strings, timestamps, decimals, Member, decimal_of, InFamily, null, member}
use Rattle.coercion.proofs.Tables.{below, at}
use Rattle.coercion.proofs.Ranked.{integer_at, string_at, timestamp_at, Numbered, integers_numbered, strings_numbered, timestamps_numbered}
use Rattle.coercion.proofs.Decimals.{Width, w32, w64, w128, w256, width, cap_bounds}

-- figures that a listed type may have, and that are bytes
pub record Fits (g : Figures) : Type 0 where
  pub known : is_kind g.kind ≡ true
  pub filled : parts_right g.kind 0 ≡ true
  pub figures : figures_right g.kind g.figure g.scale 0 false false ≡ true
  pub figure : g.figure < 256
  pub scale : g.scale < 256

abbrev fitting : Figures → Bool
fitting g =
    is_kind g.kind
    && (parts_right g.kind 0 && (figures_right g.kind g.figure g.scale 0 false false && (ltb g.figure 256 && ltb g.scale 256)))

fits_of : (g : Figures) → fitting g ≡ true → Fits g
fits_of g h =
    let a = is_kind g.kind in
    let b = parts_right g.kind 0 in
    let c = figures_right g.kind g.figure g.scale 0 false false in
    let d = ltb g.figure 256 in
    let e = ltb g.scale 256 in
    let h₁ = and_snd a (b && (c && (d && e))) h in
    let h₂ = and_snd b (c && (d && e)) h₁ in
    let h₃ = and_snd c (d && e) h₂ in
    record {
      known = and_fst a (b && (c && (d && e))) h;
      filled = and_fst b (c && (d && e)) h₁;
      figures = and_fst c (d && e) h₂;
      figure = ltb-true g.figure 256 (and_fst d e h₃);
      scale = ltb-true g.scale 256 (and_snd d e h₃);
    }

-- a type that is figures which fit
abbrev pub Fitted : DataType → Type 0
Fitted t = (g : Figures) × (Fits g × (t ≡ plain g))

numbered_fits : (f : Family) (figuresAt : ℕ → Figures) (n : ℕ) → Numbered f figuresAt n → below (λ r. fitting (figuresAt r)) n ≡ true
    → (t : DataType) → Member f t → Fitted t
numbered_fits f figuresAt n own h t m =
    let c = own.code t m in
    (figuresAt c.0, (fits_of (figuresAt c.0) (at (λ r. fitting (figuresAt r)) n h c.0 c.1.0), c.1.1))

record Shaped (w : ℕ) : Type 0 where
  known : is_kind w ≡ true
  filled : parts_right w 0 ≡ true
  figures : (p s : ℕ) → decimal_right (cap w) p s ≡ true → figures_right w p s 0 false false ≡ true

shaped : {w : ℕ} → Width w → Shaped w
unfolding is_kind between parts_right figures_right figure_right is_decimal size_right sized
shaped w32 = record { known = refl; filled = refl; figures = λ p s r. all_cons _ r (all_cons _ refl (all_cons _ refl (all_cons _ refl all_nil))) }
shaped w64 = record { known = refl; filled = refl; figures = λ p s r. all_cons _ r (all_cons _ refl (all_cons _ refl (all_cons _ refl all_nil))) }
shaped w128 = record { known = refl; filled = refl; figures = λ p s r. all_cons _ r (all_cons _ refl (all_cons _ refl (all_cons _ refl all_nil))) }
shaped w256 = record { known = refl; filled = refl; figures = λ p s r. all_cons _ r (all_cons _ refl (all_cons _ refl (all_cons _ refl all_nil))) }

decimal_fits : (w : ℕ) (t : DataType) → Member (decimals w) t → Fitted t
unfolding decimal_right
decimal_fits w t (decimal_of v p s h r b) =
    let k = shaped (width w h) in
    let c : p ≤ cap w = leb-true p (cap w) (all_at _ 1 r) in (
      record { kind = w; figure = p; scale = s },
      (record { known = k.known; filled = k.filled; figures = k.figures p s r; figure = omega (arith, (cap_bounds (width w h)).1); scale = b }, refl),
    )

member_fits : (f : Family) (t : DataType) → Member f t → Fitted t
unfolding is_kind between parts_right figures_right figure_right decimal_right is_decimal cap last_unit size_right sized all_of
member_fits integers = numbered_fits integers integer_at 9 integers_numbered refl
member_fits strings = numbered_fits strings string_at 3 strings_numbered refl
member_fits timestamps = numbered_fits timestamps timestamp_at 4 timestamps_numbered refl
member_fits (decimals w) = decimal_fits w

pub in_fits : (f : Family) (t : DataType) → InFamily f t → Fitted t
unfolding is_kind between parts_right figures_right figure_right is_decimal last_unit size_right sized all_of
in_fits f t null = (of_kind 1, (fits_of (of_kind 1) refl, refl))
in_fits f t (member a) = member_fits f t a
