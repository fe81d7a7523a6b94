-- Numbers and decimals: the 14 functions of the source from `binary_numeric_coercion` on.
use Rattle.std.specs.Prelude.{ℕ, ◌+◌, ◌-◌, ◌%◌, min, max, Bool, cond, not, ◌&&◌, ◌||◌, eqb, leb}
use Rattle.std.specs.Prelude.{Option, None, Some}
use Rattle.sheet.specs.Booleans.{between}
use Rattle.sheet.specs.declared.kind.TheConstants as Kind
use Rattle.sheet.specs.Kind.{is_decimal, cap, is_numeric, is_signed, one_is, with_kind}
use Rattle.sheet.specs.Refusals.{biased}
use Rattle.coercion.specs.Data.{or_else, and_then, of_kind}
use Rattle.coercion.specs.declared.Figures.{Figures}

-- a decimal of a width's kind, from a precision and a scale plus 128
abbrev pub decimal : ℕ → ℕ → ℕ → Figures
decimal k p s = record { kind = k; figure = p; scale = (s + 128) % 256 }

-- p − s, plus 256, of a precision and a scale plus 128
abbrev pub ahead : ℕ → ℕ → ℕ
ahead p s = p + 256 - s

-- "The scale is the greater of the two scales"; "The precision is that scale plus the greater of the two whole parts,
-- p − s"
abbrev pub wider_scale : Figures → Figures → ℕ
wider_scale l r = max (biased l.scale) (biased r.scale)

abbrev pub wider_precision : Figures → Figures → ℕ
wider_precision l r =
    max (ahead l.figure (biased l.scale)) (ahead r.figure (biased r.scale)) + wider_scale l r - 256

-- `create_decimal32_type` to `create_decimal256_type`: "Precision and scale are held to the cap of the width"
abbrev pub create_decimal_type : ℕ → ℕ → ℕ → Figures
create_decimal_type k p s = decimal k (min (cap k) p) (min (cap k + 128) s)

-- `get_wider_decimal_type`: both of one width
unfoldable pub get_wider_decimal_type : Figures → Figures → Figures
get_wider_decimal_type l r = create_decimal_type l.kind (wider_precision l r) (wider_scale l r)

-- `get_wider_decimal_type_cross_variant`: "Two widths give the wider of the two, with the scale and precision of the
-- same formula"; "Two widths have no answer by this rule where that precision is above the cap of the wider"
unfoldable pub get_wider_decimal_type_cross_variant : Figures → Figures → Option Figures
get_wider_decimal_type_cross_variant l r =
    let k = max l.kind r.kind in
    cond (leb (wider_precision l r) (cap k)) (Some (decimal k (wider_precision l r) (wider_scale l r))) None

-- "An integer of 8, 16, 32 or 64 bits takes 3, 5, 10 or 20 digits, as in Spark's DecimalType.scala"; "Float32 becomes
-- (14,7) and Float64 (30,15), as in Spark, and Float16 becomes (6,3), which is the source's own"
abbrev pub digits_of : ℕ → ℕ
digits_of k =
    cond (one_is k Kind.INT8 Kind.UINT8) 3
    (cond (one_is k Kind.INT16 Kind.UINT16) 5
    (cond (one_is k Kind.INT32 Kind.UINT32) 10
    (cond (one_is k Kind.INT64 Kind.UINT64) 20
    (cond (eqb k Kind.FLOAT16) 6 (cond (eqb k Kind.FLOAT32) 14 30)))))

abbrev pub fraction_of : ℕ → ℕ
fraction_of k = cond (eqb k Kind.FLOAT16) 3 (cond (eqb k Kind.FLOAT32) 7 (cond (eqb k Kind.FLOAT64) 15 0))

-- whether a decimal of kind w takes a number of kind k: "Decimal32 takes integers of up to 16 bits and Float16";
-- "Decimal64 takes integers of up to 32 bits, Float16 and Float32"; "Decimal128 and Decimal256 take every integer and
-- float"
abbrev pub takes : ℕ → ℕ → Bool
takes w k =
    cond (eqb w Kind.DECIMAL32) (one_is k Kind.INT8 Kind.UINT8 || (one_is k Kind.INT16 Kind.UINT16 || eqb k Kind.FLOAT16))
    (cond (eqb w Kind.DECIMAL64) (between Kind.INT8 Kind.FLOAT32 k && not (one_is k Kind.INT64 Kind.UINT64)) (between Kind.INT8 Kind.FLOAT64 k))

-- `coerce_numeric_type_to_decimal32` to `256`: the decimal of kind w that a number of kind k takes
unfoldable pub coerce_numeric_type_to_decimal : ℕ → ℕ → Option Figures
coerce_numeric_type_to_decimal w k = cond (takes w k) (Some (decimal w (digits_of k) (fraction_of k + 128))) None

-- `get_common_decimal_type`
unfoldable pub get_common_decimal_type : Figures → Figures → Option Figures
get_common_decimal_type d other = and_then (coerce_numeric_type_to_decimal d.kind other.kind) (λ o. Some (get_wider_decimal_type d o))

-- `decimal_coercion`
unfoldable pub decimal_coercion : Figures → Figures → Option Figures
decimal_coercion l r =
    cond (is_decimal l.kind && is_decimal r.kind)
    (cond (eqb l.kind r.kind) (Some (get_wider_decimal_type l r)) (get_wider_decimal_type_cross_variant l r))
    (cond (is_decimal l.kind) (get_common_decimal_type l r) (cond (is_decimal r.kind) (get_common_decimal_type r l) None))

-- `numerical_coercion`, on kinds: floats first
abbrev pub float_coercion : ℕ → ℕ → Option Figures
float_coercion k j =
    cond (one_is Kind.FLOAT64 k j) (Some (of_kind Kind.FLOAT64))
    (cond (one_is Kind.FLOAT32 k j) (Some (of_kind Kind.FLOAT32)) (cond (one_is Kind.FLOAT16 k j) (Some (of_kind Kind.FLOAT16)) None))

-- and then integers
abbrev pub integer_coercion : ℕ → ℕ → Option Figures
integer_coercion k j =
    cond (with_kind Kind.UINT64 is_signed k j) (Some (decimal Kind.DECIMAL128 20 128))
    (cond (one_is Kind.UINT64 k j) (Some (of_kind Kind.UINT64))
    (cond (one_is Kind.INT64 k j || with_kind Kind.UINT32 (between Kind.INT8 Kind.INT32) k j) (Some (of_kind Kind.INT64))
    (cond (one_is Kind.UINT32 k j) (Some (of_kind Kind.UINT32))
    (cond (one_is Kind.INT32 k j || with_kind Kind.UINT16 (between Kind.INT8 Kind.INT16) k j) (Some (of_kind Kind.INT32))
    (cond (one_is Kind.UINT16 k j) (Some (of_kind Kind.UINT16))
    (cond (one_is Kind.INT16 k j || with_kind Kind.UINT8 (λ i. eqb i Kind.INT8) k j) (Some (of_kind Kind.INT16))
    (cond (one_is Kind.INT8 k j) (Some (of_kind Kind.INT8)) (cond (one_is Kind.UINT8 k j) (Some (of_kind Kind.UINT8)) None))))))))

unfoldable pub numerical_coercion : ℕ → ℕ → Option Figures
numerical_coercion k j = or_else (float_coercion k j) (integer_coercion k j)

abbrev pub same_figures : Figures → Figures → Bool
same_figures l r = eqb l.kind r.kind && (eqb l.figure r.figure && eqb l.scale r.scale)

-- `binary_numeric_coercion`
unfoldable pub binary_numeric_coercion : Figures → Figures → Option Figures
binary_numeric_coercion l r =
    cond (is_numeric l.kind && is_numeric r.kind)
    (cond (same_figures l r) (Some l) (or_else (decimal_coercion l r) (numerical_coercion l.kind r.kind)))
    None
