-- Types whose wrappers have their values, and the cores below. Assumes nothing.
use mathlib.Core.Path.{◌≡◌, refl, ap, sym, subst, ◌∙◌}
use Rattle.std.proofs.lemmas.Option.{same_Some, none-some}
use mathlib.Core.Bool.{Bool, true, false, cond, beq}
use mathlib.Core.List.{List, [], ◌∷◌}
use mathlib.Core.Logic.{◌⊎◌, inl, inr}
use Rattle.std.specs.Prelude.{None, Some}
use Prim.Native.Nat.{ℕ, ◌+◌}
use native.Mathlib.Omega.{arith}
use lib.Dec.{eqb, leb}
use borrow.Author.Tests.{eqb-true, leb-true}
use Rattle.sheet.specs.declared.kind.TheConstants as Kind
use Rattle.sheet.specs.Kind.{parts_right, is_decimal, last_unit, sized, is_wrapper}
use Rattle.sheet.specs.Booleans.{between, all_of, implies}
use Rattle.sheet.specs.Types.{Zone, absent, present, Shape, Fields, end, field, arity}
use Rattle.sheet.specs.Refusals.{figure_right, size_right, figures_right}
use Rattle.sheet.specs.Carried.{is_zoned, FieldRight, FieldsRight}
use Rattle.sheet.proofs.Booleans.{never, and_snd, all_at}
use Rattle.coercion.specs.Data.{DataType, of_kind, plain}
use Rattle.coercion.specs.Same.{same_shape, same_fields, same_type, alike}
use Rattle.coercion.specs.Wrappers.{value_in}
use Rattle.buffers.specs.Target.{type_of}
use Rattle.wrappers.specs.Ways.{wrappers_of, core_kind}

pub missing : {A : Type 0} {t : DataType} → None ≡ Some t → A
missing {t} e = absurd (none-some t e)

-- what a test rules out
pub implies_no : (b : Bool) → implies b false ≡ true → b ≡ false
implies_no true e = never e
implies_no false e = refl

pub absent_is : (z : Zone) → is_zoned z ≡ false → z ≡ absent
absent_is absent e = refl
absent_is (present z) e = never (sym e)

-- each wrapper on the way down has a value, and a Null at the end is the one that a sheet may carry
pub data Whole : Shape → Fields → Type 0 where
  bare : {s : Shape} {p : Fields} → is_wrapper s.kind ≡ false → (s.kind ≡ Kind.NULL → type_of s p ≡ plain (of_kind Kind.NULL)) → Whole s p
  wrap : {s : Shape} {p : Fields} (v : DataType) → is_wrapper s.kind ≡ true → value_in p ≡ Some v → Whole v.shape v.parts → Whole s p

-- the core
unfoldable pub core_in : {s : Shape} {p : Fields} → Whole s p → DataType
core_in {s} {p} (bare w e) = type_of s p
core_in (wrap v w e h) = core_in h

-- one of the two kinds
pub wrapper_is : (k : ℕ) → is_wrapper k ≡ true → (k ≡ Kind.DICTIONARY) ⊎ (k ≡ Kind.RUN_END_ENCODED)
wrapper_is k h = go (eqb k 37) refl
  where
    go : (b : Bool) → eqb k 37 ≡ b → (k ≡ 37) ⊎ (k ≡ 38)
    go true e = inl (eqb-true k 37 e)
    go false e = inr (eqb-true k 38 (rw e at h))

pub one_of_two : (b : Bool) → is_wrapper (cond b Kind.DICTIONARY Kind.RUN_END_ENCODED) ≡ true
one_of_two true = refl
one_of_two false = refl

-- a bare type has no wrapper, and is its own core
pub bare_wrappers : (s : Shape) (p : Fields) → is_wrapper s.kind ≡ false → wrappers_of s p ≡ []
unfolding wrappers_of
bare_wrappers s end h = refl
bare_wrappers s (field n b s₁ p₁ end) h = refl
bare_wrappers s (field n b s₁ p₁ (field n₂ b₂ s₂ p₂ q)) h = rw h

pub bare_core : (s : Shape) (p : Fields) → is_wrapper s.kind ≡ false → core_kind s p ≡ s.kind
unfolding core_kind
bare_core s end h = refl
bare_core s (field n b s₁ p₁ end) h = refl
bare_core s (field n b s₁ p₁ (field n₂ b₂ s₂ p₂ q)) h = rw h

-- a Null that a sheet may carry
module _ (s : Shape) (e : s.kind ≡ Kind.NULL) (p : Fields) (filled : parts_right s.kind (arity p) ≡ true)
    (figures : figures_right s.kind s.figure s.scale s.size s.sorted (is_zoned s.zone) ≡ true)
  where
    no_parts : p ≡ end
    unfolding parts_right between arity
    no_parts = go p (subst (λ (k : ℕ). parts_right k (arity p) ≡ true) e filled)
      where
        go : (p : Fields) → parts_right 1 (arity p) ≡ true → p ≡ end
        go end h = refl
        go (field n b s₁ p₁ q) h = absurd (omega (arith, eqb-true (1 + arity q) 0 h))

    null_figures : figures_right 1 s.figure s.scale s.size s.sorted (is_zoned s.zone) ≡ true
    null_figures = subst (λ (k : ℕ). figures_right k s.figure s.scale s.size s.sorted (is_zoned s.zone) ≡ true) e figures

    pub null_plain : type_of s p ≡ plain (of_kind Kind.NULL)
    unfolding figures_right figure_right size_right between all_of is_decimal last_unit sized
    null_plain =
        let tests = figure_right 1 s.figure s.scale ∷ size_right 1 s.size ∷ implies s.sorted false ∷ implies (is_zoned s.zone) false ∷ [] in
        let own = leb s.figure 0 ∷ eqb s.scale 0 ∷ [] in
        let f : s.figure ≡ 0 = omega (arith, leb-true s.figure 0 (all_at own 0 (all_at tests 0 null_figures))) in
        let c : s.scale ≡ 0 = eqb-true s.scale 0 (all_at own 1 (all_at tests 0 null_figures)) in
        let z : s.size ≡ 0 = eqb-true s.size 0 (all_at tests 1 null_figures) in
        let o = implies_no s.sorted (all_at tests 2 null_figures) in
        let g = absent_is s.zone (implies_no (is_zoned s.zone) (all_at tests 3 null_figures)) in
        λ i. record { shape = record { kind = e i; figure = f i; scale = c i; size = z i; sorted = o i; zone = g i }; parts = no_parts i }

pub two_parts : (k n : ℕ) → is_wrapper k ≡ true → parts_right k n ≡ true → n ≡ 2
unfolding parts_right between
two_parts k n w h = go (wrapper_is k w)
  where
    go : (k ≡ 37) ⊎ (k ≡ 38) → n ≡ 2
    go (inl e) = eqb-true n 2 (subst (λ (i : ℕ). parts_right i n ≡ true) e h)
    go (inr e) = eqb-true n 2 (subst (λ (i : ℕ). parts_right i n ≡ true) e h)

-- a type that a sheet may carry, whole if it is so as a wrapper
whole_if : (up : ℕ) (name : List ℕ) (nullable : Bool) (s : Shape) (p : Fields) → FieldRight up name nullable s p
    → (is_wrapper s.kind ≡ true → arity p ≡ 2 → Whole s p) → Whole s p
whole_if up name nullable s p h wrapped = go (is_wrapper s.kind) refl
  where
    go : (b : Bool) → is_wrapper s.kind ≡ b → Whole s p
    go true e = wrapped e (two_parts s.kind (arity p) e h.filled)
    go false e = bare e (λ n. null_plain s n p h.filled h.figures)

-- the types of a sheet
pub whole : (up : ℕ) (name : List ℕ) (nullable : Bool) (shape : Shape) (parts rest : Fields) → FieldsRight up (field name nullable shape parts rest) → Whole shape parts
unfolding arity
whole up name nullable shape end rest h = whole_if up name nullable shape end h.0 (λ e a. absurd (omega arith))
whole up name nullable shape (field n b s₁ p₁ end) rest h = whole_if up name nullable shape (field n b s₁ p₁ end) h.0 (λ e a. absurd (omega arith))
whole up name nullable shape (field n b s₁ p₁ (field n₂ b₂ s₂ p₂ q)) rest h =
    whole_if up name nullable shape (field n b s₁ p₁ (field n₂ b₂ s₂ p₂ q)) h.0 (λ e a. wrap (type_of s₂ p₂) e refl (whole shape.kind n₂ b₂ s₂ p₂ q h.1.0.1.1))

-- a wrapper stands about its value's wrappers, and has its value's core
pub wrap_wrappers : (s : Shape) (p : Fields) (v : DataType) → is_wrapper s.kind ≡ true → value_in p ≡ Some v → wrappers_of s p ≡ s.kind ∷ wrappers_of v.shape v.parts
unfolding wrappers_of
wrap_wrappers s end v w e = missing e
wrap_wrappers s (field n b s₁ p₁ end) v w e = missing e
wrap_wrappers s (field n b s₁ p₁ (field n₂ b₂ s₂ p₂ q)) v w e = rw w (ap (λ (t : DataType). s.kind ∷ wrappers_of t.shape t.parts) (same_Some _ _ e))

pub wrap_core : (s : Shape) (p : Fields) (v : DataType) → is_wrapper s.kind ≡ true → value_in p ≡ Some v → core_kind s p ≡ core_kind v.shape v.parts
unfolding core_kind
wrap_core s end v w e = missing e
wrap_core s (field n b s₁ p₁ end) v w e = missing e
wrap_core s (field n b s₁ p₁ (field n₂ b₂ s₂ p₂ q)) v w e = rw w (ap (λ (t : DataType). core_kind t.shape t.parts) (same_Some _ _ e))

-- the values of alike types are alike
fields_values : (p q : Fields) (v w : DataType) → value_in p ≡ Some v → value_in q ≡ Some w → same_fields false p q ≡ true → alike v w ≡ true
unfolding same_type same_fields
fields_values end q v w ev ew h = missing ev
fields_values (field n b s₁ p₁ end) q v w ev ew h = missing ev
fields_values (field n b s₁ p₁ (field n₂ b₂ s₂ p₂ p)) end v w ev ew h = missing ew
fields_values (field n b s₁ p₁ (field n₂ b₂ s₂ p₂ p)) (field m c t₁ q₁ end) v w ev ew h = missing ew
fields_values (field n b s₁ p₁ (field n₂ b₂ s₂ p₂ p)) (field m c t₁ q₁ (field m₂ c₂ t₂ q₂ q)) v w ev ew h =
    let own = true ∷ beq b c ∷ same_shape s₁ t₁ ∷ same_fields false p₁ q₁ ∷ same_fields false (field n₂ b₂ s₂ p₂ p) (field m₂ c₂ t₂ q₂ q) ∷ [] in
    let second = true ∷ beq b₂ c₂ ∷ same_shape s₂ t₂ ∷ same_fields false p₂ q₂ ∷ same_fields false p q ∷ [] in
    let e = all_at own 4 h in
    rw (sym (same_Some _ _ ev), sym (same_Some _ _ ew), all_at second 2 e) (all_at second 3 e)

pub alike_values : (l r v w : DataType) → value_in l.parts ≡ Some v → value_in r.parts ≡ Some w → alike l r ≡ true → alike v w ≡ true
unfolding same_type
alike_values l r v w ev ew h = fields_values l.parts r.parts v w ev ew (and_snd (same_shape l.shape r.shape) _ h)

pub core_kind_lem : {s : Shape} {p : Fields} (x : Whole s p) → core_kind s p ≡ (core_in x).shape.kind
unfolding core_in
core_kind_lem (bare {s} {p} w e) = bare_core s p w
core_kind_lem (wrap {s} {p} v w e x) = wrap_core s p v w e ∙ core_kind_lem x

-- the value of a wrapper, which has its core
pub record Inner {s : Shape} {p : Fields} (x : Whole s p) : Type 0 where
  pub value : DataType
  pub is : value_in p ≡ Some value
  pub whole : Whole value.shape value.parts
  pub core : core_in whole ≡ core_in x

pub inner : {s : Shape} {p : Fields} (x : Whole s p) → is_wrapper s.kind ≡ true → Inner x
unfolding core_in
inner (bare w e) h = never (sym w ∙ h)
inner (wrap v w e x) h = record { value = v; is = e; whole = x; core = refl }
