-- The kinds of a record, and what belongs to each. "Byte 0 is the kind, a number from 1 to 38." The numbers stand in
-- src/kind.rt.
use Rattle.std.specs.Prelude.{ℕ, Bool, cond, ◌||◌, ◌&&◌, eqb}
use Rattle.sheet.specs.Booleans.{between}
use Rattle.sheet.specs.declared.kind.TheConstants as Kind

-- a kind is one of 1 to 38
unfoldable pub is_kind : ℕ → Bool
is_kind k = between Kind.NULL Kind.RUN_END_ENCODED k

-- `is_decimal`: kinds 14 to 17
unfoldable pub is_decimal : ℕ → Bool
is_decimal k = between Kind.DECIMAL32 Kind.DECIMAL256 k

-- `is_numeric`: kinds 3–17
abbrev pub is_numeric : ℕ → Bool
is_numeric k = between Kind.INT8 Kind.DECIMAL256 k

abbrev pub is_integer : ℕ → Bool
is_integer k = between Kind.INT8 Kind.UINT64 k

abbrev pub is_signed : ℕ → Bool
is_signed k = between Kind.INT8 Kind.INT64 k

abbrev pub is_string : ℕ → Bool
is_string k = between Kind.UTF8 Kind.UTF8_VIEW k

abbrev pub is_date : ℕ → Bool
is_date k = between Kind.DATE32 Kind.DATE64 k

abbrev pub is_time : ℕ → Bool
is_time k = between Kind.TIME32 Kind.TIME64 k

-- Interval or Duration
abbrev pub is_span : ℕ → Bool
is_span k = between Kind.INTERVAL Kind.DURATION k

abbrev pub is_list : ℕ → Bool
is_list k = between Kind.LIST Kind.FIXED_SIZE_LIST k

-- "A wrapper is a Dictionary or a RunEndEncoded"
abbrev pub is_wrapper : ℕ → Bool
is_wrapper k = eqb k Kind.DICTIONARY || eqb k Kind.RUN_END_ENCODED

-- one side is of a kind, whatever the other is
abbrev pub one_is : ℕ → ℕ → ℕ → Bool
one_is x k j = eqb k x || eqb j x

-- one side is of a kind and the other of one for which a test holds, either way round
abbrev pub with_kind : ℕ → (ℕ → Bool) → ℕ → ℕ → Bool
with_kind x test k j = (eqb k x && test j) || (test k && eqb j x)

-- "Each width has a cap of its own: 9 for Decimal32, 18 for Decimal64, 38 for Decimal128 and 76 for Decimal256."
unfoldable pub cap : ℕ → ℕ
cap k = cond (eqb k Kind.DECIMAL32) 9 (cond (eqb k Kind.DECIMAL64) 18 (cond (eqb k Kind.DECIMAL128) 38 76))

-- "Only kinds 31 and 34 have a size, which may be 0."
unfoldable pub sized : ℕ → Bool
sized k = eqb k Kind.FIXED_SIZE_BINARY || eqb k Kind.FIXED_SIZE_LIST

-- "The units of kinds 20 to 22 and 24 are 0 second, 1 millisecond, 2 microsecond and 3 nanosecond."
-- "The units of an Interval are 0 YearMonth, 1 DayTime and 2 MonthDayNano."
-- The greatest unit, 0 for a kind that has none.
unfoldable pub last_unit : ℕ → ℕ
last_unit k = cond (between Kind.TIME32 Kind.TIMESTAMP k || eqb k Kind.DURATION) 3 (cond (eqb k Kind.INTERVAL) 2 0)

-- "Kinds 32 to 34 and 36 have one part each."
-- "A Dictionary has two parts, its index and its value, and RunEndEncoded has two, its run ends and its values."
-- "A Struct has as many parts as it has fields, and it may have none."
-- "All other kinds are without parts."
unfoldable pub parts_right : ℕ → ℕ → Bool
parts_right k n =
    cond (between Kind.LIST Kind.FIXED_SIZE_LIST k || eqb k Kind.MAP) (eqb n 1)
    (cond (between Kind.DICTIONARY Kind.RUN_END_ENCODED k) (eqb n 2) (eqb k Kind.STRUCT || eqb n 0))

-- "The parts of kinds 32 to 36 and 38 may be nullable and may have a name."
-- "Listed types and the parts of a Dictionary are neither nullable nor named."
unfoldable pub names_parts : ℕ → Bool
names_parts k = between Kind.LIST Kind.MAP k || eqb k Kind.RUN_END_ENCODED
