-- Types, what is asked of them, and answers that may be missing.
use Rattle.std.specs.Prelude.{ℕ, ◌+◌, ◌/◌, ◌%◌, ◌^◌, Bool, true, false, List, [], ◌∷◌, eqb}
use Rattle.std.specs.Prelude.{Option, None, Some}
use Rattle.sheet.specs.Types.{Zone, absent, Shape, Fields, end, field, count}
use Rattle.coercion.specs.declared.Figures.{Figures}
use Rattle.coercion.specs.declared.Question.{Question}
use Rattle.coercion.specs.declared.Rules.{Rules}

-- a type: a shape with its parts, and neither a name nor a nullability of its own
pub record DataType : Type 0 where
  pub shape : Shape
  pub parts : Fields

-- how many records a type takes
abbrev pub size : DataType → ℕ
size t = 1 + count t.parts

-- a type as a chain of one, without a name and not nullable: what stands in a list of types
abbrev pub single : DataType → Fields
single t = field [] false t.shape t.parts end

-- the types of a chain
unfoldable pub types_of : Fields → List DataType
types_of end = []
types_of (field name nullable shape parts rest) = record { shape = shape; parts = parts } ∷ types_of rest

-- "The question is kept as a value and handed down to every part", and with it what else is chosen: the same choices
-- for another question, and for a list
abbrev pub for_question : Question → Rules → Rules
for_question q rules = record rules { question = q }

abbrev pub for_list : Rules → Rules
for_list rules = for_question Question.List rules

-- a list looks at names, the other questions do not
abbrev pub is_list_question : Question → Bool
is_list_question Question.List = true
is_list_question Question.Union = false
is_list_question Question.Compare = false

-- "Bit k of the mask is set where Null may become kind k"
abbrev pub may_become : ℕ → ℕ → Bool
may_become mask k = eqb (mask / 2 ^ k % 2) 1

-- `or_else`
abbrev pub or_else : {A : Type 0} → Option A → Option A → Option A
or_else None b = b
or_else (Some a) b = Some a

-- `?`
abbrev pub and_then : {A B : Type 0} → Option A → (A → Option B) → Option B
and_then None f = None
and_then (Some a) f = f a

-- the first answer of rules that are tried in turn
unfoldable pub first_of : {A : Type 0} → List (Option A) → Option A
first_of [] = None
first_of (a ∷ as') = or_else a (first_of as')

-- the figures of a type
abbrev pub figures_of : DataType → Figures
figures_of t = record { kind = t.shape.kind; figure = t.shape.figure; scale = t.shape.scale }

-- a type that its figures make, with a zone and without parts
abbrev pub zoned : Figures → Zone → DataType
zoned f zone =
    record {
      shape = record { kind = f.kind; figure = f.figure; scale = f.scale; size = 0; sorted = false; zone = zone };
      parts = end;
    }

abbrev pub plain : Figures → DataType
plain f = zoned f absent

-- figures of a kind that has none, and of one that has a unit
abbrev pub of_kind : ℕ → Figures
of_kind k = record { kind = k; figure = 0; scale = 0 }

abbrev pub of_unit : ℕ → ℕ → Figures
of_unit k unit = record { kind = k; figure = unit; scale = 0 }

abbrev pub as_type : Option Figures → Option DataType
as_type None = None
as_type (Some f) = Some (plain f)
