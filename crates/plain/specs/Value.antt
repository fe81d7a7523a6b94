-- Types without parts, zone or order, by value.
use Rattle.std.specs.Prelude.{◌≡◌, ◌<◌, Bool, false, ◌&&◌, ltb}
use Rattle.std.specs.Prelude.{Option, None, Some}
use Rattle.sheet.specs.declared.kind.TheConstants as Kind
use Rattle.sheet.specs.Types.{absent, end}
use Rattle.sheet.specs.Carried.{FieldsRight}
use Rattle.sheet.specs.declared.Head.{Head}
use Rattle.coercion.specs.Data.{DataType, single}
use Rattle.plain.specs.Steps.{step_of}
use Rattle.plain.specs.declared.step.Step.{Step}
use Rattle.coercion.specs.declared.Figures.{Figures}
use Rattle.plain.specs.declared.value.PlainType.{PlainType}

-- a head of a kind without parts that is neither sorted nor zoned
abbrev pub is_plain : Head → Bool
is_plain h = ltb h.kind Kind.LIST && ltb h.flags 2

-- the value that such a head holds
abbrev pub plain_type_of : Head → PlainType
plain_type_of h = record { kind = h.kind; figure = h.figure; scale = h.scale; size = h.bytes_4_7 }

abbrev pub figures_in : PlainType → Figures
figures_in x = record { kind = x.kind; figure = x.figure; scale = x.scale }

-- the type that a value is
abbrev pub type_of_plain : PlainType → DataType
type_of_plain x =
    record {
      shape = record { kind = x.kind; figure = x.figure; scale = x.scale; size = x.size; sorted = false; zone = absent };
      parts = end;
    }

-- a type that a value is, and that may stand in a sheet
pub record Valued (x : PlainType) (t : DataType) : Type 0 where
  pub is : t ≡ type_of_plain x
  pub low : x.kind < Kind.LIST
  pub right : FieldsRight 0 (single t)

-- an answer fits a record
abbrev pub Holdable : Option PlainType → Type 0
Holdable (Some x) = x.size < 4294967296
Holdable None = Unit

-- an answer is the type, if there is one
abbrev pub JointIs : (PlainType → DataType → Type 0) → Option PlainType → Option DataType → Type 0
JointIs Is (Some x) None = ⊥
JointIs Is (Some x) (Some t) = Is x t
JointIs Is None None = Unit
JointIs Is None (Some t) = ⊥

-- what a step says of two values
pub record Says (step : Option Step) (x y : PlainType) (o : Option PlainType) : Type 0 where
  pub holdable : Holdable o
  pub means : JointIs (λ z t. t ≡ type_of_plain z) o (step_of step (type_of_plain x) (type_of_plain y))

-- what a rule says of two types, whatever types two values are
pub record Joins (coerce : DataType → DataType → Option DataType) (x y : PlainType) (o : Option PlainType) : Type 0 where
  pub holdable : Holdable o
  pub means : (l r : DataType) → Valued x l → Valued y r → JointIs Valued o (coerce l r)
