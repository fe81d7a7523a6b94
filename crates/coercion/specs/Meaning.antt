-- What the answers of the code say.
use Rattle.std.specs.Prelude.{ℕ, Bool, true, false}
use Rattle.std.specs.Prelude.{Option, None, Some}
use Rattle.sheet.specs.Types.{Fields, end, field}
use Rattle.sheet.specs.declared.kind.TheConstants as Kind
use Rattle.coercion.specs.Data.{DataType, of_unit, zoned}
use Rattle.coercion.specs.Times.{nanosecond}
use Rattle.coercion.specs.Answers.{Category, array, boolean, numeric, dateTime, composite, unknown, notSupported, category_of}
use Rattle.coercion.specs.declared.Side.{Side}
use Rattle.coercion.specs.declared.Moment.{Moment}

-- the side that an answer names
abbrev pub side_of : Option Side → DataType → DataType → Option DataType
side_of (Some Side.Left) l r = Some l
side_of (Some Side.Right) l r = Some r
side_of None l r = None

abbrev pub moment_of : Option Moment → DataType → DataType → Option DataType
moment_of (Some Moment.Left) l r = Some l
moment_of (Some Moment.Right) l r = Some r
moment_of (Some Moment.LeftNanoseconds) l r = Some (zoned (of_unit Kind.TIMESTAMP nanosecond) l.shape.zone)
moment_of (Some Moment.RightNanoseconds) l r = Some (zoned (of_unit Kind.TIMESTAMP nanosecond) r.shape.zone)
moment_of None l r = None

-- the bit of a category; Unknown and a type of no category have none
abbrev pub category_bit : Category → ℕ
category_bit array = 1
category_bit boolean = 2
category_bit numeric = 4
category_bit dateTime = 8
category_bit composite = 16
category_bit unknown = 0
category_bit notSupported = 0

abbrev pub is_supported : Category → Bool
is_supported array = true
is_supported boolean = true
is_supported numeric = true
is_supported dateTime = true
is_supported composite = true
is_supported unknown = true
is_supported notSupported = false

-- the category of a wrapper's value, its second part
abbrev pub value_category : Fields → Category
value_category end = notSupported
value_category (field n b s p end) = notSupported
value_category (field n b s p (field n₂ b₂ s₂ p₂ rest)) = category_of s₂ p₂
