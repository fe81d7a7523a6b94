-- The common type of decimals of one width: the least type that holds them, or (cap, the greatest scale) where none
-- does. Assumes nothing.
use mathlib.Core.Path.{◌≡◌, refl, ap, ap₂, sym, subst, ◌∙◌}
use mathlib.Core.Bool.{Bool, true, false, ◌||◌}
use mathlib.Core.List.{List, [], ◌∷◌}
use Prim.Native.Nat.{ℕ, ◌+◌, ◌-◌, ◌%◌, ◌<◌, ◌≤◌, min, max}
use native.Mathlib.Omega.{arith}
use native.Mathlib.Decide.{dec_le}
use lib.Dec.{leb}
use borrow.Author.Tests.{leb-true, le-leb}
use Rattle.sheet.specs.Kind.{is_decimal, cap}
use Rattle.sheet.specs.Refusals.{biased}
use Rattle.sheet.proofs.Booleans.{never, and_fst, and_snd}
use Rattle.coercion.specs.Data.{DataType, plain}
use Rattle.coercion.specs.Numbers.{decimal}
use Rattle.coercion.specs.Rules.{is_null}
use Rattle.coercion.specs.Families.{decimals, Member, holds, decimal_holds, HoldsAll, Greatest, Listed, here, later, Common, least, outgrown, InFamily, null, member, AllIn, SomeIn, null_type}
use Rattle.coercion.proofs.Joins.{join, all, Joins, null_join, join_null, member_all}
use Rattle.coercion.proofs.Codes.{joined}
use Rattle.coercion.proofs.Decimals.{width, cap_bounds, Extent, decimal_at, widen, Real, Within, member_extent, hit, decimals_coded, decimals_joins}
use Rattle.coercion.proofs.Leasts.{holds_null}

-- one extent does not go past another
pub record Covers (e d : Extent) : Type 0 where
  pub scale : d.scale ≤ e.scale
  pub ahead : d.ahead ≤ e.ahead

-- the stored scale of an extent
abbrev stored : Extent → ℕ
stored e = (e.scale + 128) % 256

or_true : (a b : Bool) → b ≡ true → (a || b) ≡ true
or_true true b h = refl
or_true false b h = h

-- the figures of a type, by its extent
record Figured (t : DataType) (e : Extent) : Type 0 where
  precision : t.shape.figure + 256 ≡ e.ahead + e.scale
  scale : biased t.shape.scale ≡ e.scale

module _ (w : ℕ) (known : is_decimal w ≡ true) where
  laws : Joins (decimals w)
  laws = decimals_joins w known

  small : (e : Extent) → Real w e → e.scale < 256
  small e r = omega (arith, (cap_bounds (width w known)).1, r.held)

  back : (e : Extent) → Real w e → biased (stored e) ≡ e.scale
  back e r = omega (arith, small e r)

  figured : (t : DataType) (a : Within w t) → Figured t a.extent
  figured t a =
      let e = a.extent in
      let p : t.shape.figure ≡ min (cap w) (e.ahead + e.scale - 256) = ap (λ (x : DataType). x.shape.figure) a.is in
      let s : t.shape.scale ≡ stored e = ap (λ (x : DataType). x.shape.scale) a.is in
      record { precision = omega (arith, a.fits, a.real.digits); scale = ap biased s ∙ back e a.real }

  solid : (t : DataType) (a : Within w t) → is_null t ≡ false
  solid t a = ap is_null a.is ∙ (decimals_coded w known).solid a.extent a.real

  -- "A decimal (p,s) holds (q,t) where t ≤ s and q − t ≤ p − s"
  held : (t u : DataType) (a : Within w t) (b : Within w u) → Covers b.extent a.extent → holds (decimals w) u t ≡ true
  unfolding holds
  held t u a b c =
      let x = figured t a in
      let y = figured u b in
      let l : biased t.shape.scale ≤ biased u.shape.scale = omega (arith, x.scale, y.scale, c.scale) in
      let r : t.shape.figure + biased u.shape.scale ≤ u.shape.figure + biased t.shape.scale =
      omega (arith, x.scale, y.scale, x.precision, y.precision, c.ahead) in
      or_true (is_null t) _
      (rw (le-leb (biased t.shape.scale) (biased u.shape.scale) l)
      (le-leb (t.shape.figure + biased u.shape.scale) (u.shape.figure + biased t.shape.scale) r))

  covered : (t u : DataType) (a : Within w t) (b : Within w u) → holds (decimals w) u t ≡ true → Covers b.extent a.extent
  unfolding holds
  covered t u a b h =
      let x = figured t a in
      let y = figured u b in
      let first = leb (biased t.shape.scale) (biased u.shape.scale) in
      let second = leb (t.shape.figure + biased u.shape.scale) (u.shape.figure + biased t.shape.scale) in
      let d : decimal_holds u.shape.figure u.shape.scale t.shape.figure t.shape.scale ≡ true = rw (solid t a) at h in
      let l = leb-true (biased t.shape.scale) (biased u.shape.scale) (and_fst first second d) in
      let r = leb-true (t.shape.figure + biased u.shape.scale) (u.shape.figure + biased t.shape.scale) (and_snd first second d) in
      record { scale = omega (arith, x.scale, y.scale, l); ahead = omega (arith, x.scale, y.scale, x.precision, y.precision, l, r) }

  -- the extent of the decimals of a list
  record Reached (ts : List DataType) : Type 0 where
    extent : Extent
    real : Real w extent
    is : all ts ≡ decimal_at w extent
    over : (u : DataType) (b : Within w u) → Covers b.extent extent → HoldsAll (decimals w) u ts
    under : (u : DataType) (b : Within w u) → HoldsAll (decimals w) u ts → Covers b.extent extent
    listed : Listed (stored extent) ts
    greatest : (s : ℕ) → extent.scale ≤ biased s → Greatest s ts

  -- where there is none
  record Nulls (ts : List DataType) : Type 0 where
    is : all ts ≡ null_type
    over : (u : DataType) → HoldsAll (decimals w) u ts
    greatest : (s : ℕ) → Greatest s ts

  data Gathered (ts : List DataType) : Type 0 where
    some : Reached ts → Gathered ts
    none : Nulls ts → Gathered ts

  with_null : (ts : List DataType) → Gathered ts → Gathered (null_type ∷ ts)
  unfolding all
  with_null ts (some r) =
      some
      (record {
        extent = r.extent;
        real = r.real;
        is = null_join (all ts) ∙ r.is;
        over = λ u b c. (holds_null (decimals w) u, r.over u b c);
        under = λ u b h. r.under u b h.1;
        listed = later r.listed;
        greatest = λ s h. (λ e. never (sym e), r.greatest s h);
      })
  with_null ts (none r) =
      none
      (record {
        is = null_join (all ts) ∙ r.is;
        over = λ u. (holds_null (decimals w) u, r.over u);
        greatest = λ s. (λ e. never (sym e), r.greatest s);
      })

  scale_of : (t : DataType) (a : Within w t) (s : ℕ) → a.extent.scale ≤ biased s → biased t.shape.scale ≤ biased s
  scale_of t a s h = omega (arith, (figured t a).scale)

  -- the greatest scale is that of the first decimal or of a later one
  greater : (t : DataType) (ts : List DataType) (a : Within w t) (r : Reached ts) → Dec (r.extent.scale ≤ a.extent.scale)
      → Listed (stored (widen a.extent r.extent)) (t ∷ ts)
  greater t ts a r (yes h) =
      let e : a.extent.scale ≡ max a.extent.scale r.extent.scale = omega arith in
      here (solid t a) (ap (λ (x : DataType). x.shape.scale) a.is ∙ ap (λ (k : ℕ). (k + 128) % 256) e)
  greater t ts a r (no h) =
      let e : r.extent.scale ≡ max a.extent.scale r.extent.scale = omega arith in
      later (subst (λ (k : ℕ). Listed ((k + 128) % 256) ts) e r.listed)

  with_member : (t : DataType) (ts : List DataType) → Member (decimals w) t → Gathered ts → Gathered (t ∷ ts)
  unfolding all
  with_member t ts m (none r) =
      let a = member_extent w t m in
      some
      (record {
        extent = a.extent;
        real = a.real;
        is = ap (join t) r.is ∙ join_null (decimals w) laws t (member m) ∙ a.is;
        over = λ u b c. (held t u a b c, r.over u);
        under = λ u b h. covered t u a b h.0;
        listed = here (solid t a) (ap (λ (x : DataType). x.shape.scale) a.is);
        greatest = λ s h. (λ e. scale_of t a s h, r.greatest s);
      })
  with_member t ts m (some r) =
      let a = member_extent w t m in
      let x = a.extent in
      let y = r.extent in
      some
      (record {
        extent = widen x y;
        real = (decimals_coded w known).closed x y a.real r.real;
        is = ap₂ join a.is r.is ∙ joined (decimals w) (decimal_at w) (Real w) widen (decimals_coded w known) x y a.real r.real;
        over = λ u b c. (
          held t u a b (record { scale = omega (arith, c.scale); ahead = omega (arith, c.ahead) }),
          r.over u b (record { scale = omega (arith, c.scale); ahead = omega (arith, c.ahead) }),
        );
        under = λ u b h.
            let p = covered t u a b h.0 in
            let q = r.under u b h.1 in
            record { scale = omega (arith, p.scale, q.scale); ahead = omega (arith, p.ahead, q.ahead) };
        listed = greater t ts a r (dec_le y.scale x.scale);
        greatest = λ s h. (λ e. scale_of t a s (omega arith), r.greatest s (omega arith));
      })

  with_one : (t : DataType) (ts : List DataType) → InFamily (decimals w) t → Gathered ts → Gathered (t ∷ ts)
  with_one t ts null g = with_null ts g
  with_one t ts (member m) g = with_member t ts m g

  gathered : (ts : List DataType) → AllIn (decimals w) ts → Gathered ts
  unfolding all
  gathered [] a = none (record { is = refl; over = λ u. tt; greatest = λ s. tt })
  gathered (t ∷ ts) a = with_one t ts a.0 (gathered ts a.1)

  -- the least type, or no type of the width: the cap and "the greatest scale that is listed"
  pub decimals_common : (ts : List DataType) → AllIn (decimals w) ts → SomeIn (decimals w) ts → Common (decimals w) ts (all ts)
  decimals_common ts a s = go (gathered ts a)
    where
      own : Member (decimals w) (all ts)
      own = member_all (decimals w) laws ts a s

      decide : (r : Reached ts) → Dec (r.extent.ahead + r.extent.scale ≤ cap w + 256) → Common (decimals w) ts (all ts)
      decide r (yes h) =
          let b : Within w (all ts) = record { extent = r.extent; real = r.real; fits = h; is = r.is } in
          least
          (record {
            member = own;
            holds_them = r.over (all ts) b (record { scale = omega arith; ahead = omega arith });
            least = λ u m h. held (all ts) u b (member_extent w u m) (r.under u (member_extent w u m) h);
          })
      decide r (no h) =
          outgrown
          (record {
            none = λ u m k.
                let b = member_extent w u m in
                let c = r.under u b k in
                h (omega (arith, c.scale, c.ahead, b.fits));
            scale = stored r.extent;
            is =
                r.is
                ∙ ap (λ (p : ℕ). plain (decimal w p r.extent.scale)) (hit (cap w) r.extent.ahead r.extent.scale (omega arith));
            listed = r.listed;
            greatest = r.greatest (stored r.extent) (omega (arith, back r.extent r.real));
          })

      go : Gathered ts → Common (decimals w) ts (all ts)
      go (some r) = decide r (dec_le (r.extent.ahead + r.extent.scale) (cap w + 256))
      go (none r) = never (sym (laws.solid (all ts) own) ∙ ap is_null r.is)
