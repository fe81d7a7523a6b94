-- Null and string rules: `null_coercion`, `string_numeric_coercion`, `string_numeric_union_coercion`,
-- `string_temporal_coercion`.
use Rattle.std.specs.Prelude.{ℕ, Bool, cond, ◌&&◌, eqb}
use Rattle.std.specs.Prelude.{Option, None, Some}
use Rattle.sheet.specs.declared.kind.TheConstants as Kind
use Rattle.sheet.specs.Kind.{is_numeric, is_string, is_date, is_time}
use Rattle.coercion.specs.Data.{DataType, may_become, or_else, of_unit, zoned}
use Rattle.coercion.specs.Times.{nanosecond, is_time_with_valid_unit}

abbrev pub is_null : DataType → Bool
is_null t = eqb t.shape.kind Kind.NULL

-- `null_coercion`
unfoldable pub null_coercion : ℕ → DataType → DataType → Option DataType
null_coercion mask l r =
    cond (is_null l) (cond (may_become mask r.shape.kind) (Some r) None)
    (cond (is_null r) (cond (may_become mask l.shape.kind) (Some l) None) None)

-- `string_numeric_coercion`: "Compare and list keep the number against a string"
unfoldable pub string_numeric_coercion : DataType → DataType → Option DataType
string_numeric_coercion l r =
    cond (is_numeric l.shape.kind && is_string r.shape.kind) (Some l)
    (cond (is_string l.shape.kind && is_numeric r.shape.kind) (Some r) None)

-- `string_numeric_union_coercion`: "A union with a string keeps the string against a number"
unfoldable pub string_numeric_union_coercion : DataType → DataType → Option DataType
string_numeric_union_coercion l r =
    cond (is_string l.shape.kind && is_numeric r.shape.kind) (Some l)
    (cond (is_numeric l.shape.kind && is_string r.shape.kind) (Some r) None)

-- a time that a string may become
abbrev pub time_of_string : DataType → Option DataType
time_of_string t =
    cond (is_date t.shape.kind) (Some t)
    (cond (is_time t.shape.kind) (cond (is_time_with_valid_unit t.shape.kind t.shape.figure) (Some t) None)
    (cond (eqb t.shape.kind Kind.TIMESTAMP) (Some (zoned (of_unit Kind.TIMESTAMP nanosecond) t.shape.zone)) None))

-- `match_rule` of `string_temporal_coercion`
abbrev pub match_rule : DataType → DataType → Option DataType
match_rule l r = cond (is_string l.shape.kind) (time_of_string r) None

-- `string_temporal_coercion`
unfoldable pub string_temporal_coercion : DataType → DataType → Option DataType
string_temporal_coercion l r = or_else (match_rule l r) (match_rule r l)
