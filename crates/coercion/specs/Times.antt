-- Units and times: `timeunit_coercion`, `temporal_coercion`, `temporal_coercion_nonstrict_timezone`,
-- `is_time_with_valid_unit`.
use Rattle.std.specs.Prelude.{ℕ, max, Bool, cond, ◌&&◌, ◌||◌, eqb, leb}
use Rattle.std.specs.Prelude.{Option, None, Some}
use Rattle.sheet.specs.Booleans.{between}
use Rattle.sheet.specs.declared.kind.TheConstants as Kind
use Rattle.sheet.specs.Types.{Zone, absent, present}
use Rattle.sheet.specs.Kind.{is_integer, is_date, is_time, is_span, with_kind}
use Rattle.coercion.specs.Data.{DataType, of_kind, of_unit, zoned, as_type}
use Rattle.coercion.specs.declared.Figures.{Figures}

abbrev pub nanosecond : ℕ
nanosecond = 3

abbrev pub month_day_nano : ℕ
month_day_nano = 2

-- `timeunit_coercion`: "Two Timestamps take the finer of their units"; a finer unit has a greater number
abbrev pub timeunit_coercion : ℕ → ℕ → ℕ
timeunit_coercion u v = max u v

-- `temporal_coercion`, on kinds
unfoldable pub temporal_coercion : ℕ → ℕ → Option Figures
temporal_coercion k j =
    cond (is_span k && is_span j) (Some (of_unit Kind.INTERVAL month_day_nano))
    (cond (with_kind Kind.DATE32 is_integer k j) (Some (of_kind Kind.DATE32))
    (cond (with_kind Kind.DATE64 is_integer k j) (Some (of_kind Kind.DATE64))
    (cond (with_kind Kind.DATE64 (λ i. eqb i Kind.DATE32) k j) (Some (of_kind Kind.DATE64))
    (cond (with_kind Kind.DATE32 is_time k j || with_kind Kind.DATE64 is_time k j) (Some (of_unit Kind.TIMESTAMP nanosecond))
    (cond (with_kind Kind.TIMESTAMP is_date k j) (Some (of_unit Kind.TIMESTAMP nanosecond)) None)))))

-- "The zone is that of the left, if it has one, and else that of the right"
abbrev pub zone_coercion : Zone → Zone → Zone
zone_coercion (present z) w = present z
zone_coercion absent w = w

-- `temporal_coercion_nonstrict_timezone`
unfoldable pub temporal_coercion_nonstrict_timezone : DataType → DataType → Option DataType
temporal_coercion_nonstrict_timezone l r =
    cond (eqb l.shape.kind Kind.TIMESTAMP && eqb r.shape.kind Kind.TIMESTAMP)
    (Some (zoned (of_unit Kind.TIMESTAMP (timeunit_coercion l.shape.figure r.shape.figure)) (zone_coercion l.shape.zone r.shape.zone)))
    (as_type (temporal_coercion l.shape.kind r.shape.kind))

-- `is_time_with_valid_unit`: Time32 has seconds and milliseconds, Time64 microseconds and nanoseconds
unfoldable pub is_time_with_valid_unit : ℕ → ℕ → Bool
is_time_with_valid_unit k unit = (eqb k Kind.TIME32 && leb unit 1) || (eqb k Kind.TIME64 && between 2 3 unit)
