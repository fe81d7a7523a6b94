-- Types that are right, and the rules that make plain ones. Assumes nothing.
use mathlib.Core.Path.{◌≡◌, refl}
use mathlib.Core.Bool.{Bool, true, false, cond, ◌&&◌, ◌||◌}
use mathlib.Core.List.{List, []}
use Rattle.std.specs.Prelude.{Option, None, Some}
use Prim.Native.Nat.{ℕ, ◌<◌, ◌≤◌}
use native.Mathlib.Omega.{arith}
use lib.Dec.{eqb}
use borrow.Author.Tests.{eqb-true, leb-true, le-leb, ltb-true}
use Rattle.sheet.specs.declared.kind.TheConstants as Kind
use Rattle.sheet.specs.Kind.{is_kind, is_decimal, sized, last_unit, parts_right, names_parts, is_numeric, is_string, is_integer, is_date, is_time, is_span, one_is, with_kind}
use Rattle.sheet.specs.Booleans.{all_of, between, implies}
use Rattle.sheet.specs.Types.{Zone, absent, present, Shape, Fields, arity, zone_bytes}
use Rattle.sheet.specs.Refusals.{figure_right, size_right, figures_right}
use Rattle.sheet.specs.Carried.{Label, is_named, is_zoned, FieldRight, FieldsRight}
use Rattle.sheet.proofs.Booleans.{all_at, all_cons, all_nil, and_fst, and_snd}
use Rattle.coercion.specs.Data.{DataType, may_become, figures_of, plain, as_type, zoned, of_unit, of_kind}
use Rattle.coercion.specs.Same.{alike}
use Rattle.coercion.specs.Strings.{string_coercion, is_long_string, is_binary_or_string, binary_coercion}
use Rattle.coercion.specs.Times.{nanosecond, is_time_with_valid_unit, timeunit_coercion, zone_coercion, temporal_coercion, temporal_coercion_nonstrict_timezone}
use Rattle.coercion.specs.Numbers.{binary_numeric_coercion}
use Rattle.coercion.specs.Rules.{is_null, null_coercion, string_numeric_coercion, string_numeric_union_coercion, time_of_string, match_rule, string_temporal_coercion}
use Rattle.coercion.specs.Answers.{of_kind_type, string_number}
use Rattle.coercion.specs.declared.Figures.{Figures}
use Rattle.coercion.proofs.Maybe.{If, if_cond, if_else, cond_is}
use Rattle.coercion.proofs.NumbersRight.{Fits, Right, numeric_fits}
use Rattle.coercion.specs.declared.Question.{Question}

-- a field that is right, apart from what its parent allows it: its type
pub record OwnRight (shape : Shape) (parts : Fields) : Type 0 where
  pub known : is_kind shape.kind ≡ true
  pub filled : parts_right shape.kind (arity parts) ≡ true
  pub figures : figures_right shape.kind shape.figure shape.scale shape.size shape.sorted (is_zoned shape.zone) ≡ true
  pub byte : shape.scale < 256
  pub own_zone : Label (zone_bytes shape.zone)

-- a type that is right, with its parts
abbrev pub Sound : DataType → Type 0
Sound t = OwnRight t.shape t.parts × FieldsRight t.shape.kind t.parts

pub own_right : {up : ℕ} {name : List ℕ} {nullable : Bool} {shape : Shape} {parts : Fields} → FieldRight up name nullable shape parts → OwnRight shape parts
own_right h = record { known = h.known; filled = h.filled; figures = h.figures; byte = h.byte; own_zone = h.own_zone }

-- a type in a place where its name and its nullability may be: what a type is does not hang on its parent
pub field_right : {up : ℕ} {name : List ℕ} {nullable : Bool} {shape : Shape} {parts : Fields} → implies nullable (names_parts up) ≡ true
    → implies (is_named name) (names_parts up) ≡ true → Label name → OwnRight shape parts → FieldRight up name nullable shape parts
field_right null name label t =
    record {
      known = t.known;
      filled = t.filled;
      figures = t.figures;
      byte = t.byte;
      may_be_null = null;
      may_be_named = name;
      own_name = label;
      own_zone = t.own_zone;
    }

-- in the place of another type
pub renamed : {up : ℕ} {name : List ℕ} {nullable : Bool} {shape shape' : Shape} {parts parts' : Fields} → FieldRight up name nullable shape parts → OwnRight shape' parts'
    → FieldRight up name nullable shape' parts'
renamed h t = field_right h.may_be_null h.may_be_named h.own_name t

pub implies_true : (x : Bool) → implies x true ≡ true
implies_true true = refl
implies_true false = refl

-- where the parent allows any name and nullability
pub named : (up : ℕ) (name : List ℕ) (nullable : Bool) (shape : Shape) (parts : Fields) → names_parts up ≡ true → Label name → OwnRight shape parts
    → FieldRight up name nullable shape parts
named up name nullable shape parts n l t = field_right (rw n (implies_true nullable)) (rw n (implies_true (is_named name))) l t

pub empty_label : Label []
empty_label = record { short = omega arith; plain = λ i. omega arith }

-- without a name and not nullable, under any parent
pub unnamed : (up : ℕ) (shape : Shape) (parts : Fields) → OwnRight shape parts → FieldRight up [] false shape parts
unnamed up shape parts t = field_right {name = []} {nullable = false} refl refl empty_label t

pub figures_of_lem : (t : DataType) → Sound t → Right (figures_of t)
unfolding figures_right
figures_of_lem t h = record { figure = all_at _ 0 h.0.figures; byte = h.0.byte }

size_none : (k : ℕ) → size_right k 0 ≡ true
unfolding size_right
size_none k = cond_is (λ x. x ≡ true) (sized k) _ _ refl refl

plain_sound : (f : Figures) → Fits f → Sound (plain f)
unfolding figures_right arity
plain_sound f h = (
  record {
    known = all_at _ 0 h;
    filled = all_at _ 1 h;
    figures = all_cons _ (all_at _ 2 h) (all_cons _ (size_none f.kind) (all_cons _ refl (all_cons _ refl all_nil)));
    byte = ltb-true f.scale 256 (all_at _ 3 h);
    own_zone = empty_label;
  },
  tt,
)

as_sound : (o : Option Figures) → If Fits o → If Sound (as_type o)
as_sound None h = tt
as_sound (Some f) h = plain_sound f h

of_kind_sound : (o : Option ℕ) → If (λ k. Fits (of_kind k)) o → If Sound (of_kind_type o)
of_kind_sound None h = tt
of_kind_sound (Some k) h = plain_sound (of_kind k) h

-- a timestamp
timestamp_sound : (unit : ℕ) (zone : Zone) → unit ≤ 3 → Label (zone_bytes zone) → Sound (zoned (of_unit Kind.TIMESTAMP unit) zone)
unfolding is_kind between parts_right arity figures_right figure_right is_decimal last_unit size_right sized
timestamp_sound unit zone h l = (
  record {
    known = refl;
    filled = refl;
    figures = all_cons _ (all_cons _ (le-leb unit 3 h) (all_cons _ refl all_nil)) (all_cons _ refl (all_cons _ refl (all_cons _ (implies_true (is_zoned zone)) all_nil)));
    byte = omega arith;
    own_zone = l;
  },
  tt,
)

timestamp_unit : (t : DataType) → Sound t → eqb t.shape.kind Kind.TIMESTAMP ≡ true → t.shape.figure ≤ 3
unfolding figure_right is_decimal between last_unit
timestamp_unit t h e =
    let g : figure_right t.shape.kind t.shape.figure t.shape.scale ≡ true = (figures_of_lem t h).figure in
    let g' : figure_right Kind.TIMESTAMP t.shape.figure t.shape.scale ≡ true = rw (eqb-true t.shape.kind Kind.TIMESTAMP e) at g in
    leb-true t.shape.figure 3 (all_at _ 0 g')

zone_label : (z w : Zone) → Label (zone_bytes z) → Label (zone_bytes w) → Label (zone_bytes (zone_coercion z w))
zone_label absent w h k = k
zone_label (present z) w h k = h

temporal_fits : (k j : ℕ) → If Fits (temporal_coercion k j)
unfolding temporal_coercion all_of is_kind parts_right between figure_right is_decimal last_unit
temporal_fits k j =
    let P = If Fits in
    cond_is P (is_span k && is_span j) _ _ refl
    (cond_is P (with_kind Kind.DATE32 is_integer k j) _ _ refl
    (cond_is P (with_kind Kind.DATE64 is_integer k j) _ _ refl
    (cond_is P (with_kind Kind.DATE64 (λ i. eqb i Kind.DATE32) k j) _ _ refl
    (cond_is P (with_kind Kind.DATE32 is_time k j || with_kind Kind.DATE64 is_time k j) _ _ refl
    (cond_is P (with_kind Kind.TIMESTAMP is_date k j) _ _ refl tt)))))

string_fits : (k j : ℕ) → If (λ i. Fits (of_kind i)) (string_coercion k j)
unfolding string_coercion all_of is_kind parts_right between figure_right is_decimal last_unit
string_fits k j =
    let P = If (λ i. Fits (of_kind i)) in
    cond_is P (is_string k && is_string j) _ _
    (cond_is P (one_is Kind.UTF8_VIEW k j) _ _ refl (cond_is P (one_is Kind.LARGE_UTF8 k j) _ _ refl refl)) tt

binary_fits : (k j : ℕ) → If (λ i. Fits (of_kind i)) (binary_coercion k j)
unfolding binary_coercion all_of is_kind parts_right between figure_right is_decimal last_unit
binary_fits k j =
    let P = If (λ i. Fits (of_kind i)) in
    cond_is P (eqb k Kind.BINARY && eqb j Kind.BINARY) _ _ refl
    (cond_is P (eqb k Kind.LARGE_BINARY && eqb j Kind.LARGE_BINARY) _ _ refl
    (cond_is P (eqb k Kind.BINARY_VIEW && eqb j Kind.BINARY_VIEW) _ _ refl
    (cond_is P (with_kind Kind.BINARY_VIEW (λ i. eqb i Kind.LARGE_BINARY || is_binary_or_string i) k j) _ _ refl
    (cond_is P (with_kind Kind.LARGE_BINARY is_binary_or_string k j) _ _ refl
    (cond_is P (with_kind Kind.BINARY is_long_string k j) _ _ refl
    (cond_is P (with_kind Kind.BINARY (λ i. eqb i Kind.UTF8) k j) _ _ refl
    (cond_is P (with_kind Kind.BINARY (λ i. eqb i Kind.FIXED_SIZE_BINARY) k j) _ _ refl
    (cond_is P (with_kind Kind.BINARY_VIEW (λ i. eqb i Kind.FIXED_SIZE_BINARY) k j) _ _ refl tt))))))))

-- the plain rules
module _ (l r : DataType) (hl : Sound l) (hr : Sound r) where
  pub alike_sound : If Sound (cond (alike l r) (Some l) None)
  alike_sound = cond_is (If Sound) (alike l r) _ _ hl tt

  pub number_sound : If Sound (as_type (binary_numeric_coercion (figures_of l) (figures_of r)))
  number_sound = as_sound (binary_numeric_coercion (figures_of l) (figures_of r)) (numeric_fits (figures_of l) (figures_of r) (figures_of_lem l hl) (figures_of_lem r hr))

  pub string_sound : If Sound (of_kind_type (string_coercion l.shape.kind r.shape.kind))
  string_sound = of_kind_sound (string_coercion l.shape.kind r.shape.kind) (string_fits l.shape.kind r.shape.kind)

  pub binary_sound : If Sound (of_kind_type (binary_coercion l.shape.kind r.shape.kind))
  binary_sound = of_kind_sound (binary_coercion l.shape.kind r.shape.kind) (binary_fits l.shape.kind r.shape.kind)

  pub temporal_sound : If Sound (temporal_coercion_nonstrict_timezone l r)
  unfolding temporal_coercion_nonstrict_timezone
  temporal_sound =
      if_cond Sound (eqb l.shape.kind Kind.TIMESTAMP && eqb r.shape.kind Kind.TIMESTAMP) _ (as_type (temporal_coercion l.shape.kind r.shape.kind))
      (λ e. let u = timestamp_unit l hl (and_fst _ _ e) in
      let v = timestamp_unit r hr (and_snd (eqb l.shape.kind Kind.TIMESTAMP) (eqb r.shape.kind Kind.TIMESTAMP) e) in
      timestamp_sound (timeunit_coercion l.shape.figure r.shape.figure) (zone_coercion l.shape.zone r.shape.zone) (omega arith)
      (zone_label l.shape.zone r.shape.zone hl.0.own_zone hr.0.own_zone))
      (λ e. as_sound (temporal_coercion l.shape.kind r.shape.kind) (temporal_fits l.shape.kind r.shape.kind))

  pub null_sound : (mask : ℕ) → If Sound (null_coercion mask l r)
  unfolding null_coercion
  null_sound mask =
      let P = If Sound in
      cond_is P (is_null l) _ _ (cond_is P (may_become mask r.shape.kind) _ _ hr tt)
      (cond_is P (is_null r) _ _ (cond_is P (may_become mask l.shape.kind) _ _ hl tt) tt)

  pub numeric_sound : If Sound (string_numeric_coercion l r)
  unfolding string_numeric_coercion
  numeric_sound =
      let P = If Sound in
      cond_is P (is_numeric l.shape.kind && is_string r.shape.kind) _ _ hl (cond_is P (is_string l.shape.kind && is_numeric r.shape.kind) _ _ hr tt)

  numeric_union_sound : If Sound (string_numeric_union_coercion l r)
  unfolding string_numeric_union_coercion
  numeric_union_sound =
      let P = If Sound in
      cond_is P (is_string l.shape.kind && is_numeric r.shape.kind) _ _ hl (cond_is P (is_numeric l.shape.kind && is_string r.shape.kind) _ _ hr tt)

  pub string_number_sound : (q : Question) → If Sound (string_number q l r)
  string_number_sound Question.List = numeric_sound
  string_number_sound Question.Union = numeric_union_sound
  string_number_sound Question.Compare = numeric_sound

time_sound : (t : DataType) → Sound t → If Sound (time_of_string t)
time_sound t h =
    let P = If Sound in
    cond_is P (is_date t.shape.kind) _ _ h
    (cond_is P (is_time t.shape.kind) _ _ (cond_is P (is_time_with_valid_unit t.shape.kind t.shape.figure) _ _ h tt)
    (cond_is P (eqb t.shape.kind Kind.TIMESTAMP) _ _ (timestamp_sound nanosecond t.shape.zone (omega arith) h.0.own_zone) tt))

pub string_temporal_sound : (l r : DataType) → Sound l → Sound r → If Sound (string_temporal_coercion l r)
unfolding string_temporal_coercion
string_temporal_sound l r hl hr =
    if_else Sound (match_rule l r) (match_rule r l)
    (cond_is (If Sound) (is_string l.shape.kind) _ _ (time_sound r hr) tt) (cond_is (If Sound) (is_string r.shape.kind) _ _ (time_sound l hl) tt)
