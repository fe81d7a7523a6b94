-- What is claimed of the kind that is found for the type at a link: its category is the type's.
use Rattle.std.specs.Prelude.{◌≡◌, ℕ, Bool, List}
use Rattle.sheet.specs.Types.{Shape, Fields, field}
use Rattle.sheet.specs.Holds.{Leads}
use Rattle.coercion.specs.Answers.{own_category, category_of}

abbrev pub CoreFound : List ℕ → ℕ → ℕ → ℕ → Type 0
CoreFound s n link k =
    (floor i o : ℕ) (name : List ℕ) (nullable : Bool) (shape : Shape) (parts rest : Fields) → Leads s n floor link i o (field name nullable shape parts rest)
    → own_category k ≡ category_of shape parts
