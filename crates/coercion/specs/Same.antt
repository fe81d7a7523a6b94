-- Sameness and alikeness of types.
use Rattle.std.specs.Prelude.{ℕ, Bool, true, false, cond, ◌&&◌, List, [], ◌∷◌, eqb}
use Rattle.std.specs.Bool.{beq}
use Rattle.sheet.specs.Booleans.{all_of, implies}
use Rattle.sheet.specs.Types.{Zone, absent, present, Shape, Fields, end, field}
use Rattle.sheet.specs.Names.{same_bytes}
use Rattle.coercion.specs.Data.{DataType}

unfoldable pub same_zone : Zone → Zone → Bool
same_zone absent absent = true
same_zone absent (present w) = false
same_zone (present z) absent = false
same_zone (present z) (present w) = same_bytes z w

-- "Alike compares kinds, figures, sizes, zones, the sorted bit and the nullability of parts"; here all but the last
unfoldable pub same_shape : Shape → Shape → Bool
same_shape a b =
    all_of
    (eqb a.kind b.kind
    ∷ eqb a.figure b.figure
    ∷ eqb a.scale b.scale
    ∷ eqb a.size b.size
    ∷ beq a.sorted b.sorted
    ∷ same_zone a.zone b.zone
    ∷ [])

-- two chains, with their names or without
unfoldable pub same_fields : Bool → Fields → Fields → Bool
same_fields named end end = true
same_fields named end (field name nullable shape parts rest) = false
same_fields named (field name nullable shape parts rest) end = false
same_fields named (field name nullable shape parts rest) (field name' nullable' shape' parts' rest') =
    all_of
    (implies named (same_bytes name name')
    ∷ beq nullable nullable'
    ∷ same_shape shape shape'
    ∷ same_fields named parts parts'
    ∷ same_fields named rest rest'
    ∷ [])

unfoldable pub same_type : Bool → DataType → DataType → Bool
same_type named l r = same_shape l.shape r.shape && same_fields named l.parts r.parts

-- `==`: "Equal compares the names and the nullability of parts as well"
abbrev pub equal : DataType → DataType → Bool
equal l r = same_type true l r

-- `equals_datatype`: "Alike leaves out the names of fields at every depth"
abbrev pub alike : DataType → DataType → Bool
alike l r = same_type false l r

-- a chain with its names, or with every name left out
abbrev pub seen : Bool → List ℕ → List ℕ
seen named name = cond named name []

unfoldable pub strip : Bool → Fields → Fields
strip named end = end
strip named (field name nullable shape parts rest) = field (seen named name) nullable shape (strip named parts) (strip named rest)

-- a type with the names of its parts, or without a name at any depth
abbrev pub shown : Bool → DataType → DataType
shown named t = record { shape = t.shape; parts = strip named t.parts }

abbrev pub nameless : DataType → DataType
nameless t = shown false t
