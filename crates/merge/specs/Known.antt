-- What is known of where two types differ, by the number of a record of the first.
use Rattle.std.specs.Prelude.{◌≡◌, ℕ, Bool, cond, ◌&&◌, ◌||◌, List, eqb, ltb, Option, None, Some}
use Rattle.coercion.specs.Data.{DataType}
use Rattle.buffers.specs.Differ.{type_differs}
use Rattle.buffers.specs.Typed.{Typed}
use Rattle.buffers.specs.declared.Space.{Space}

-- a number that is known is that of the record at which two types first differ, the first of which is record l,
-- or 0 where they are the same
abbrev pub Differs : Option ℕ → Bool → ℕ → DataType → DataType → Type 0
Differs known named l x y = (d : ℕ) → known ≡ Some d → type_differs named l x y ≡ d

-- What two chains say of the types of the field at l and of record partner, where record p stands at the place
-- of l, and next follows l: nothing where partner is not at that place, or the difference is not past l; 0,
-- that they are the same, where it is past the field.
abbrev pub row_known : Option ℕ → ℕ → ℕ → ℕ → ℕ → Option ℕ
row_known None l next partner p = None
row_known (Some d) l next partner p = cond (eqb partner p && ltb l d) (Some (cond (eqb next 0 || ltb d next) d 0)) None

-- a number is that of the record at which two types first differ, of which something may be known
abbrev pub FirstDifference : Option ℕ → Bool → Space → List ℕ → ℕ → List ℕ → ℕ → ℕ → Type 0
FirstDifference known named space s l t r e = (x y : DataType) → Typed space s l x → Typed space t r y → Differs known named l x y → e ≡ type_differs named l x y

-- what is known of the names of two chains by where they differ, with their names or without
abbrev pub known_names : Bool → Option ℕ → Option ℕ
known_names named known = cond named known None
