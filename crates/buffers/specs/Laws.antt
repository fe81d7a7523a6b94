-- A law of the record at which two types differ.
use Rattle.std.specs.Prelude.{◌≡◌, ℕ, ◌<◌, Bool, eqb}
use Rattle.coercion.specs.Data.{DataType}
use Rattle.coercion.specs.Same.{same_type}
use Rattle.buffers.specs.Differ.{type_differs}

-- two types, the first of which begins at record i, differ at no record just where they are the same
abbrev pub DifferNowhere : Type 0
DifferNowhere = (named : Bool) (i : ℕ) (x y : DataType) → 0 < i → eqb (type_differs named i x y) 0 ≡ same_type named x y
