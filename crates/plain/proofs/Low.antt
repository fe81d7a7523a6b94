-- The rules for types without parts say types of kinds without parts. Assumes nothing.
use mathlib.Core.Bool.{Bool, true, false, cond, ◌&&◌, ◌||◌}
use Rattle.std.specs.Prelude.{Option, None, Some}
use Prim.Native.Nat.{ℕ, ◌+◌, ◌<◌, max}
use native.Mathlib.Omega.{arith}
use lib.Dec.{eqb, leb}
use Rattle.sheet.specs.declared.kind.TheConstants as Kind
use Rattle.sheet.specs.Kind.{is_decimal, cap, is_numeric, is_integer, is_signed, is_string, is_date, is_time, is_span, one_is, with_kind}
use Rattle.sheet.specs.Booleans.{between}
use Rattle.coercion.specs.Data.{DataType, may_become, figures_of, as_type, and_then}
use Rattle.coercion.specs.Numbers.{decimal, digits_of, fraction_of, takes, wider_precision, same_figures, get_wider_decimal_type, get_wider_decimal_type_cross_variant, coerce_numeric_type_to_decimal, get_common_decimal_type, decimal_coercion, float_coercion, integer_coercion, numerical_coercion, binary_numeric_coercion}
use Rattle.coercion.specs.Times.{is_time_with_valid_unit, temporal_coercion, temporal_coercion_nonstrict_timezone}
use Rattle.coercion.specs.Strings.{is_long_string, is_binary_or_string, string_coercion, binary_coercion}
use Rattle.coercion.specs.Rules.{is_null, null_coercion, string_numeric_coercion, string_numeric_union_coercion, time_of_string, match_rule, string_temporal_coercion}
use Rattle.coercion.specs.Answers.{of_kind_type, string_number}
use Rattle.coercion.specs.declared.Figures.{Figures}
use Rattle.coercion.proofs.Maybe.{If, ◌also◌, done, if_first, if_else, cond_is}
use Rattle.coercion.specs.declared.Question.{Question}
use Rattle.coercion.specs.declared.Rules.{Rules}
use Rattle.plain.specs.Plain.{plain_rules, string_time}

abbrev pub Low : DataType → Type 0
Low t = t.shape.kind < 32

abbrev LowFigures : Figures → Type 0
LowFigures f = f.kind < 32

abbrev LowKind : ℕ → Type 0
LowKind k = k < 32

as_low : (o : Option Figures) → If LowFigures o → If Low (as_type o)
as_low None h = tt
as_low (Some f) h = h

of_kind_low : (o : Option ℕ) → If LowKind o → If Low (of_kind_type o)
of_kind_low None h = tt
of_kind_low (Some k) h = h

common_low : (d other : Figures) → LowFigures d → If LowFigures (get_common_decimal_type d other)
unfolding get_common_decimal_type coerce_numeric_type_to_decimal get_wider_decimal_type
common_low d other h = go (takes d.kind other.kind)
  where
    go : (b : Bool) → If LowFigures (and_then (cond b (Some (decimal d.kind (digits_of other.kind) (fraction_of other.kind + 128))) None) (λ o. Some (get_wider_decimal_type d o)))
    go true = h
    go false = tt

decimal_low : (l r : Figures) → LowFigures l → LowFigures r → If LowFigures (decimal_coercion l r)
unfolding decimal_coercion get_wider_decimal_type get_wider_decimal_type_cross_variant
decimal_low l r h k =
    let P = If LowFigures in
    cond_is P (is_decimal l.kind && is_decimal r.kind) _ _
    (cond_is P (eqb l.kind r.kind) _ _ h (cond_is P (leb (wider_precision l r) (cap (max l.kind r.kind))) _ _ (omega arith) tt))
    (cond_is P (is_decimal l.kind) _ _ (common_low l r h) (cond_is P (is_decimal r.kind) _ _ (common_low r l k) tt))

numerical_low : (k j : ℕ) → If LowFigures (numerical_coercion k j)
unfolding numerical_coercion
numerical_low k j =
    let P = If LowFigures in
    if_else LowFigures (float_coercion k j) (integer_coercion k j)
    (cond_is P (one_is Kind.FLOAT64 k j) _ _ (omega arith)
    (cond_is P (one_is Kind.FLOAT32 k j) _ _ (omega arith) (cond_is P (one_is Kind.FLOAT16 k j) _ _ (omega arith) tt)))
    (cond_is P (with_kind Kind.UINT64 is_signed k j) _ _ (omega arith)
    (cond_is P (one_is Kind.UINT64 k j) _ _ (omega arith)
    (cond_is P (one_is Kind.INT64 k j || with_kind Kind.UINT32 (between Kind.INT8 Kind.INT32) k j) _ _ (omega arith)
    (cond_is P (one_is Kind.UINT32 k j) _ _ (omega arith)
    (cond_is P (one_is Kind.INT32 k j || with_kind Kind.UINT16 (between Kind.INT8 Kind.INT16) k j) _ _ (omega arith)
    (cond_is P (one_is Kind.UINT16 k j) _ _ (omega arith)
    (cond_is P (one_is Kind.INT16 k j || with_kind Kind.UINT8 (λ i. eqb i Kind.INT8) k j) _ _ (omega arith)
    (cond_is P (one_is Kind.INT8 k j) _ _ (omega arith) (cond_is P (one_is Kind.UINT8 k j) _ _ (omega arith) tt)))))))))

numeric_low : (l r : Figures) → LowFigures l → LowFigures r → If LowFigures (binary_numeric_coercion l r)
unfolding binary_numeric_coercion
numeric_low l r h k =
    let P = If LowFigures in
    cond_is P (is_numeric l.kind && is_numeric r.kind) _ _
    (cond_is P (same_figures l r) _ _ h
    (if_else LowFigures (decimal_coercion l r) (numerical_coercion l.kind r.kind) (decimal_low l r h k) (numerical_low l.kind r.kind))) tt

times_low : (k j : ℕ) → If LowFigures (temporal_coercion k j)
unfolding temporal_coercion
times_low k j =
    let P = If LowFigures in
    cond_is P (is_span k && is_span j) _ _ (omega arith)
    (cond_is P (with_kind Kind.DATE32 is_integer k j) _ _ (omega arith)
    (cond_is P (with_kind Kind.DATE64 is_integer k j) _ _ (omega arith)
    (cond_is P (with_kind Kind.DATE64 (λ i. eqb i Kind.DATE32) k j) _ _ (omega arith)
    (cond_is P (with_kind Kind.DATE32 is_time k j || with_kind Kind.DATE64 is_time k j) _ _ (omega arith)
    (cond_is P (with_kind Kind.TIMESTAMP is_date k j) _ _ (omega arith) tt)))))

string_low : (k j : ℕ) → If LowKind (string_coercion k j)
unfolding string_coercion
string_low k j =
    let P = If LowKind in
    cond_is P (is_string k && is_string j) _ _
    (cond_is P (one_is Kind.UTF8_VIEW k j) _ _ (omega arith) (cond_is P (one_is Kind.LARGE_UTF8 k j) _ _ (omega arith) (omega arith))) tt

binary_low : (k j : ℕ) → If LowKind (binary_coercion k j)
unfolding binary_coercion
binary_low k j =
    let P = If LowKind in
    cond_is P (eqb k Kind.BINARY && eqb j Kind.BINARY) _ _ (omega arith)
    (cond_is P (eqb k Kind.LARGE_BINARY && eqb j Kind.LARGE_BINARY) _ _ (omega arith)
    (cond_is P (eqb k Kind.BINARY_VIEW && eqb j Kind.BINARY_VIEW) _ _ (omega arith)
    (cond_is P (with_kind Kind.BINARY_VIEW (λ i. eqb i Kind.LARGE_BINARY || is_binary_or_string i) k j) _ _ (omega arith)
    (cond_is P (with_kind Kind.LARGE_BINARY is_binary_or_string k j) _ _ (omega arith)
    (cond_is P (with_kind Kind.BINARY is_long_string k j) _ _ (omega arith)
    (cond_is P (with_kind Kind.BINARY (λ i. eqb i Kind.UTF8) k j) _ _ (omega arith)
    (cond_is P (with_kind Kind.BINARY (λ i. eqb i Kind.FIXED_SIZE_BINARY) k j) _ _ (omega arith)
    (cond_is P (with_kind Kind.BINARY_VIEW (λ i. eqb i Kind.FIXED_SIZE_BINARY) k j) _ _ (omega arith) tt))))))))

module _ (l r : DataType) (h : Low l) (g : Low r) where
  temporal_low : If Low (temporal_coercion_nonstrict_timezone l r)
  unfolding temporal_coercion_nonstrict_timezone
  temporal_low =
      cond_is (If Low) (eqb l.shape.kind Kind.TIMESTAMP && eqb r.shape.kind Kind.TIMESTAMP) _ (as_type (temporal_coercion l.shape.kind r.shape.kind)) (omega arith)
      (as_low (temporal_coercion l.shape.kind r.shape.kind) (times_low l.shape.kind r.shape.kind))

  null_low : (mask : ℕ) → If Low (null_coercion mask l r)
  unfolding null_coercion
  null_low mask =
      let P = If Low in
      cond_is P (is_null l) _ _ (cond_is P (may_become mask r.shape.kind) _ _ g tt) (cond_is P (is_null r) _ _ (cond_is P (may_become mask l.shape.kind) _ _ h tt) tt)

  either_low : (a b : Bool) → If Low (cond a (Some l) (cond b (Some r) None))
  either_low a b = cond_is (If Low) a _ _ h (cond_is (If Low) b _ _ g tt)

  number_low : (q : Question) → If Low (string_number q l r)
  unfolding string_numeric_coercion string_numeric_union_coercion
  number_low Question.List = either_low (is_numeric l.shape.kind && is_string r.shape.kind) (is_string l.shape.kind && is_numeric r.shape.kind)
  number_low Question.Union = either_low (is_string l.shape.kind && is_numeric r.shape.kind) (is_numeric l.shape.kind && is_string r.shape.kind)
  number_low Question.Compare = either_low (is_numeric l.shape.kind && is_string r.shape.kind) (is_string l.shape.kind && is_numeric r.shape.kind)

time_low : (t : DataType) → Low t → If Low (time_of_string t)
time_low t h =
    let P = If Low in
    cond_is P (is_date t.shape.kind) _ _ h
    (cond_is P (is_time t.shape.kind) _ _ (cond_is P (is_time_with_valid_unit t.shape.kind t.shape.figure) _ _ h tt)
    (cond_is P (eqb t.shape.kind Kind.TIMESTAMP) _ _ (omega arith) tt))

string_temporal_low : (l r : DataType) → Low l → Low r → If Low (string_temporal_coercion l r)
unfolding string_temporal_coercion
string_temporal_low l r h g =
    if_else Low (match_rule l r) (match_rule r l) (cond_is (If Low) (is_string l.shape.kind) _ _ (time_low r g) tt)
    (cond_is (If Low) (is_string r.shape.kind) _ _ (time_low l h) tt)

string_time_low : (q : Question) (l r : DataType) → Low l → Low r → If Low (string_time q l r)
string_time_low Question.List l r h g = tt
string_time_low Question.Union l r h g = string_temporal_low l r h g
string_time_low Question.Compare l r h g = string_temporal_low l r h g

pub plain_low : (rules : Rules) (l r : DataType) → Low l → Low r → If Low (plain_rules rules l r)
unfolding plain_rules
plain_low rules l r h g =
    let k = l.shape.kind in
    let j = r.shape.kind in
    if_first Low _
    (as_low (binary_numeric_coercion (figures_of l) (figures_of r)) (numeric_low (figures_of l) (figures_of r) h g)
    also temporal_low l r h g
    also of_kind_low (string_coercion k j) (string_low k j)
    also null_low l r h g rules.mask
    also number_low l r h g rules.question
    also string_time_low rules.question l r h g
    also of_kind_low (binary_coercion k j) (binary_low k j)
    also done)
