-- Types that stand in a buffer, as the merge reads them.
use Rattle.std.specs.Prelude.{◌≡◌, ℕ, ◌+◌, ◌<◌, Bool, List, length}
use Rattle.sheet.specs.Types.{Shape, Fields, field, labels}
use Rattle.sheet.specs.Carried.{FieldsRight}
use Rattle.sheet.specs.Holds.{Leads}
use Rattle.coercion.specs.Data.{DataType}
use Rattle.coercion.specs.Same.{same_type}

-- a link leads to the chain t, whose figures are right; up is the kind of the record that its fields are parts of
pub record Source (s : List ℕ) (n floor link r o up : ℕ) (t : Fields) : Type 0 where
  pub leads : Leads s n floor link r o t
  pub right : FieldsRight up t
  pub short : o + length (labels t) < 65536

-- the type of a field
abbrev pub type_of : Shape → Fields → DataType
type_of shape parts = record { shape = shape; parts = parts }

-- what the test for sameness of two types says of whatever types stand at i and j
abbrev pub SameTypes : List ℕ → ℕ → ℕ → List ℕ → ℕ → ℕ → Bool → Bool → Type 0
SameTypes s n i t m j named e =
    (r o up : ℕ) (name : List ℕ) (nullable : Bool) (shape : Shape) (parts rest : Fields)
    (r' o' up' : ℕ) (name' : List ℕ) (nullable' : Bool) (shape' : Shape) (parts' rest' : Fields)
    → Source s n 0 i r o up (field name nullable shape parts rest) → Source t m 0 j r' o' up' (field name' nullable' shape' parts' rest')
    → e ≡ same_type named (type_of shape parts) (type_of shape' parts')
