-- The list answer of a list of one family is its common type, whatever the mask. Assumes nothing.
use mathlib.Core.Path.{◌≡◌, refl, ap, sym, subst, ◌∙◌}
use mathlib.Core.Bool.{Bool, true, false, cond, beq}
use mathlib.Core.List.{List, [], ◌∷◌}
use Rattle.std.specs.Prelude.{Option, Some}
use Prim.Native.Nat.{◌+◌, ◌≤◌}
use native.Mathlib.Omega.{arith}
use borrow.Author.Tests.{eqb-true, le-leb}
use Rattle.sheet.specs.Booleans.{all_of, between}
use Rattle.sheet.specs.Types.{Zone, absent, present, Fields, end, field}
use Rattle.sheet.proofs.Booleans.{never, and_fst, and_snd, all_at}
use Rattle.coercion.specs.declared.Rules.{Rules}
use Rattle.coercion.specs.Data.{DataType, plain, of_kind, for_list}
use Rattle.coercion.specs.declared.Figures.{Figures}
use Rattle.coercion.specs.Rules.{is_null}
use Rattle.coercion.specs.Same.{same_zone, same_shape, same_fields, same_type, equal}
use Rattle.coercion.specs.Answers.{Category, array, boolean, numeric, dateTime, composite, unknown, notSupported, category_of, category_number, is_category, has_category, as_number, categories_in, all_equal, fold_from, fold_types, type_union_resolution}
use Rattle.coercion.specs.Families.{Family, Member, integer, top, string, timestamp, decimal_of, InFamily, null, member, AllIn, null_type}
use Rattle.coercion.proofs.Joins.{join, all, Joins, null_join, join_null, member_join, in_all, assoc, idem}

-- an equation between values that a test chooses
pub by_test {ℓ} : {A : Type ℓ} (b : Bool) {x y z : A} → (b ≡ true → x ≡ z) → (b ≡ false → y ≡ z) → cond b x y ≡ z
by_test true p q = p refl
by_test false p q = q refl

no_zone : (z : Zone) → same_zone z absent ≡ true → z ≡ absent
unfolding same_zone
no_zone absent h = refl
no_zone (present z) h = never h

no_parts : (p : Fields) → same_fields true p end ≡ true → p ≡ end
unfolding same_fields
no_parts end h = refl
no_parts (field name nullable shape parts rest) h = never h

not_sorted : (b : Bool) → beq b false ≡ true → b ≡ false
not_sorted true h = never h
not_sorted false h = refl

-- a type that is equal to one of figures alone is that type
pub equal_plain : (t : DataType) (g : Figures) → equal t (plain g) ≡ true → t ≡ plain g
unfolding same_type same_shape
equal_plain t g h =
    let s = and_fst (same_shape t.shape (plain g).shape) (same_fields true t.parts end) h in
    let k = eqb-true t.shape.kind g.kind (all_at _ 0 s) in
    let u = eqb-true t.shape.figure g.figure (all_at _ 1 s) in
    let c = eqb-true t.shape.scale g.scale (all_at _ 2 s) in
    let z = eqb-true t.shape.size 0 (all_at _ 3 s) in
    let b = not_sorted t.shape.sorted (all_at _ 4 s) in
    let w = no_zone t.shape.zone (all_at _ 5 s) in
    let p = no_parts t.parts (and_snd (same_shape t.shape (plain g).shape) (same_fields true t.parts end) h) in
    λ i. record { shape = record { kind = k i; figure = u i; scale = c i; size = z i; sorted = b i; zone = w i }; parts = p i }

-- a member is its figures
member_plain : (f : Family) (t : DataType) → Member f t → (g : Figures) × (t ≡ plain g)
member_plain f t (integer k h) = (_, refl)
member_plain f t top = (_, refl)
member_plain f t (string k h) = (_, refl)
member_plain f t (timestamp u h) = (_, refl)
member_plain f t (decimal_of w p s h r b) = (_, refl)

pub in_plain : (f : Family) (t : DataType) → InFamily f t → (g : Figures) × (t ≡ plain g)
in_plain f t null = (of_kind 1, refl)
in_plain f t (member a) = member_plain f t a

-- the category of a family's members
pub record Categorised (f : Family) (c : Category) : Type 0 where
  pub is : (t : DataType) → Member f t → category_number (category_of t.shape t.parts) ≡ category_number c

as_number_lem : (b : Bool) → as_number b ≤ 1
as_number_lem true = omega arith
as_number_lem false = omega arith

-- one category is at most one of the five that are counted
counted : (c : Category)
    → as_number (is_category array c)
    + (as_number (is_category boolean c) + (as_number (is_category numeric c) + (as_number (is_category dateTime c) + as_number (is_category composite c)))) ≤ 1
counted array = omega arith
counted boolean = omega arith
counted numeric = omega arith
counted dateTime = omega arith
counted composite = omega arith
counted unknown = omega arith
counted notSupported = omega arith

module _ (f : Family) (laws : Joins f) where
  -- all the same
  same_all : (t : DataType) (ts : List DataType) → InFamily f t → AllIn f ts → all_equal t ts ≡ true → join t (all ts) ≡ t
  unfolding all
  same_all t [] b a h = join_null f laws t b
  same_all t (u ∷ us) b a h =
      let g = in_plain f t b in
      let e : u ≡ t = subst (λ (x : DataType). equal u x ≡ true → u ≡ x) (sym g.1) (equal_plain u g.0) (and_fst (equal u t) (all_equal t us) h) in
      ap (λ (x : DataType). join t (join x (all us))) e
      ∙ ap (join t) (same_all t us b a.1 (and_snd (equal u t) (all_equal t us) h))
      ∙ idem f laws t b

  -- the fold from a member
  fold_from_lem : (m : Rules) (c : DataType) (ts : List DataType) → Member f c → AllIn f ts → fold_from (for_list m) c ts ≡ Some (join c (all ts))
  unfolding fold_from all
  fold_from_lem m c [] b a = ap {B = Option DataType} Some (sym (join_null f laws c (member b)))
  fold_from_lem m c (t ∷ ts) b a = go t a.0 (λ x y. fold_from_lem m x ts y a.1)
    where
      go : (t : DataType) → InFamily f t → ((x : DataType) → Member f x → fold_from (for_list m) x ts ≡ Some (join x (all ts)))
          → fold_from (for_list m) c (t ∷ ts) ≡ Some (join c (all (t ∷ ts)))
      go t null r = r c b ∙ ap (λ (x : DataType). Some (join c x)) (sym (null_join (all ts)))
      go t (member d) r =
          rw (laws.solid t d)
          (rw (laws.answers m t c d b)
          (r (join t c) (laws.closed t c d b)
          ∙ ap {B = Option DataType} Some
          (ap (λ (x : DataType). join x (all ts)) (laws.comm t c d b) ∙ assoc f laws c t (all ts) (member b) (member d) (in_all f laws ts a.1))))

  fold_types_lem : (m : Rules) (ts : List DataType) → AllIn f ts → is_null (all ts) ≡ false → fold_types (for_list m) ts ≡ Some (all ts)
  unfolding fold_types all
  fold_types_lem m [] a h = never (sym h)
  fold_types_lem m (t ∷ ts) a h = go t a.0 h (fold_types_lem m ts a.1)
    where
      go : (t : DataType) → InFamily f t → is_null (all (t ∷ ts)) ≡ false → (is_null (all ts) ≡ false → fold_types (for_list m) ts ≡ Some (all ts))
          → fold_types (for_list m) (t ∷ ts) ≡ Some (all (t ∷ ts))
      go t null h r = r (ap is_null (sym (null_join (all ts))) ∙ h) ∙ ap {B = Option DataType} Some (sym (null_join (all ts)))
      go t (member d) h r = rw (laws.solid t d) (fold_from_lem m t ts d a.1)

  -- a list that begins with a member is not of Nulls alone
  apart : {A : Type 0} (t y : DataType) → Member f t → InFamily f y → is_null (join t y) ≡ true → A
  apart t y d b h = never (sym (laws.solid (join t y) (member_join f laws t y d b)) ∙ h)

  -- where there are Nulls alone, all are the same
  nulls : (ts : List DataType) → AllIn f ts → is_null (all ts) ≡ true → all_equal null_type ts ≡ true
  unfolding all same_type same_shape same_fields same_zone all_of
  nulls [] a h = refl
  nulls (t ∷ ts) a h = go t a.0 h (nulls ts a.1)
    where
      go : (t : DataType) → InFamily f t → is_null (all (t ∷ ts)) ≡ true → (is_null (all ts) ≡ true → all_equal null_type ts ≡ true) → all_equal null_type (t ∷ ts) ≡ true
      go t null h r = r (ap is_null (sym (null_join (all ts))) ∙ h)
      go t (member d) h r = apart t (all ts) d (in_all f laws ts a.1) h

  null_first : (t : DataType) (ts : List DataType) → InFamily f t → AllIn f ts → is_null (join t (all ts)) ≡ true → all_equal t ts ≡ true
  null_first t ts null a h = nulls ts a (ap is_null (sym (null_join (all ts))) ∙ h)
  null_first t ts (member d) a h = apart t (all ts) d (in_all f laws ts a) h

  module _ (c : Category) (one : Categorised f c) where
    -- no other category is in a list of the family
    no_other : (o : Category) (ts : List DataType) → is_category o c ≡ false → AllIn f ts → has_category o ts ≡ false
    unfolding has_category
    no_other o [] h a = refl
    no_other o (t ∷ ts) h a = go t a.0 (no_other o ts h a.1)
      where
        go : (t : DataType) → InFamily f t → has_category o ts ≡ false → has_category o (t ∷ ts) ≡ false
        go t null rest = rest
        go t (member d) rest = rw (laws.solid t d) (rw (one.is t d) (rw h rest))

    at_most : (o : Category) (ts : List DataType) → AllIn f ts → as_number (has_category o ts) ≤ as_number (is_category o c)
    at_most o ts a = go (is_category o c) refl
      where
        go : (b : Bool) → is_category o c ≡ b → as_number (has_category o ts) ≤ as_number b
        go true e = as_number_lem (has_category o ts)
        go false e = rw (no_other o ts e a) (omega arith)

    -- so there is at most one
    few : (ts : List DataType) → AllIn f ts → between 0 1 (categories_in ts) ≡ true
    unfolding between categories_in
    few ts a =
        rw (le-leb 0 (categories_in ts) (omega arith))
        (le-leb (categories_in ts) 1
        (omega (arith, counted c, at_most array ts a, at_most boolean ts a, at_most numeric ts a, at_most dateTime ts a, at_most composite ts a)))

    -- the list answer
    pub resolved : (m : Rules) (t : DataType) (ts : List DataType) → is_category notSupported c ≡ false → AllIn f (t ∷ ts)
        → type_union_resolution (for_list m) (t ∷ ts) ≡ Some (all (t ∷ ts))
    unfolding type_union_resolution all
    resolved m t ts h a =
        by_test (all_equal t ts) (λ e. ap {B = Option DataType} Some (sym (same_all t ts a.0 a.1 e)))
        (λ e. rw (no_other notSupported (t ∷ ts) h a) (rw (few (t ∷ ts) a) (fold_types_lem m (t ∷ ts) a (go (is_null (join t (all ts))) refl e))))
      where
        go : (b : Bool) → is_null (join t (all ts)) ≡ b → all_equal t ts ≡ false → is_null (join t (all ts)) ≡ false
        go false e n = e
        go true e n = never (sym n ∙ null_first t ts a.0 a.1 e)
