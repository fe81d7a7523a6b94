-- The rules for binaries and for times, which the source has for both orders of two kinds, for one order.
use Rattle.std.specs.Prelude.{ℕ, cond, ◌&&◌, ◌||◌, eqb, Option, None, Some}
use Rattle.sheet.specs.Booleans.{between}
use Rattle.sheet.specs.declared.kind.TheConstants as Kind
use Rattle.sheet.specs.Kind.{is_integer, is_date, is_span}
use Rattle.coercion.specs.Data.{of_kind, of_unit}
use Rattle.coercion.specs.Times.{nanosecond, month_day_nano}
use Rattle.coercion.specs.declared.Figures.{Figures}

abbrev pub ordered_binary : ℕ → ℕ → Option ℕ
ordered_binary k j =
    cond (eqb k Kind.BINARY && (eqb j Kind.UTF8 || (eqb j Kind.BINARY || eqb j Kind.FIXED_SIZE_BINARY))) (Some Kind.BINARY)
    (cond ((eqb k Kind.BINARY && between Kind.LARGE_UTF8 Kind.UTF8_VIEW j) || (eqb k Kind.LARGE_BINARY && between Kind.UTF8 Kind.LARGE_BINARY j)) (Some Kind.LARGE_BINARY)
    (cond (eqb k Kind.BINARY_VIEW && between Kind.UTF8 Kind.FIXED_SIZE_BINARY j) (Some Kind.BINARY_VIEW) None))

abbrev pub ordered_temporal : ℕ → ℕ → Option Figures
ordered_temporal k j =
    cond (is_span k && is_span j) (Some (of_unit Kind.INTERVAL month_day_nano))
    (cond (eqb k Kind.DATE32 && is_integer j) (Some (of_kind Kind.DATE32))
    (cond (eqb k Kind.DATE64 && (is_integer j || eqb j Kind.DATE32)) (Some (of_kind Kind.DATE64))
    (cond (is_date k && between Kind.TIME32 Kind.TIMESTAMP j) (Some (of_unit Kind.TIMESTAMP nanosecond)) None)))
