-- Where two types first differ, by the number of a record of the first. Records follow each other: a record's
-- parts stand behind it, and its next behind them.
use Rattle.std.specs.Prelude.{◌≡◌, ℕ, ◌+◌, ◌<◌, ◌≤◌, Bool, false, cond, List, [], ◌∷◌, eqb, ltb}
use Rattle.std.specs.Prelude.{Option, None, Some}
use Rattle.std.specs.Bool.{beq}
use Rattle.sheet.specs.Booleans.{all_of, implies}
use Rattle.sheet.specs.Types.{Shape, Fields, end, field, count}
use Rattle.sheet.specs.Names.{same_bytes}
use Rattle.coercion.specs.Data.{DataType}
use Rattle.coercion.specs.Same.{same_shape}
use Rattle.buffers.specs.Source.{Source, type_of}

-- the first of two records that is one; 0 is none
abbrev pub first_of : ℕ → ℕ → ℕ
first_of d e = cond (eqb d 0) e d

-- The record at which two chains first differ, with their names or without, where the first begins at record i:
-- 0 where the chains are the same, and up, the record whose parts they are, where one has more fields than the
-- other.
unfoldable pub fields_differ : Bool → ℕ → ℕ → Fields → Fields → ℕ
fields_differ named up i end end = 0
fields_differ named up i end (field name nullable shape parts rest) = up
fields_differ named up i (field name nullable shape parts rest) end = up
fields_differ named up i (field name nullable shape parts rest) (field name' nullable' shape' parts' rest') =
    cond (all_of (implies named (same_bytes name name') ∷ beq nullable nullable' ∷ same_shape shape shape' ∷ []))
    (first_of (fields_differ named i (i + 1) parts parts') (fields_differ named up (i + 1 + count parts) rest rest'))
    i

-- the same of two types, the first of which is record i
unfoldable pub type_differs : Bool → ℕ → DataType → DataType → ℕ
type_differs named i x y = cond (same_shape x.shape y.shape) (fields_differ named i (i + 1) x.parts y.parts) i

-- what the comparison of two types says of whatever types stand at i and j
abbrev pub DifferTypes : List ℕ → ℕ → ℕ → List ℕ → ℕ → ℕ → Bool → ℕ → Type 0
DifferTypes s n i t m j named e =
    (r o up : ℕ) (name : List ℕ) (nullable : Bool) (shape : Shape) (parts rest : Fields)
    (r' o' up' : ℕ) (name' : List ℕ) (nullable' : Bool) (shape' : Shape) (parts' rest' : Fields)
    → Source s n 0 i r o up (field name nullable shape parts rest) → Source t m 0 j r' o' up' (field name' nullable' shape' parts' rest')
    → e ≡ type_differs named i (type_of shape parts) (type_of shape' parts')

-- what the comparison of two chains says of whatever chains two links lead to, the first past floor; d is the
-- record whose parts they are
abbrev pub DifferChains : List ℕ → ℕ → ℕ → ℕ → List ℕ → ℕ → ℕ → Bool → ℕ → ℕ → Type 0
DifferChains s n floor i t m j named d e =
    (r o up : ℕ) (a : Fields) (r' o' up' : ℕ) (b : Fields) → Source s n floor i r o up a → Source t m 0 j r' o' up' b → e ≡ fields_differ named d i a b

-- a number that is known is that of the record at which two chains first differ, the first of which begins at
-- record l; one below l says nothing
abbrev pub RowsKnown : Option ℕ → Bool → ℕ → Fields → Fields → Type 0
RowsKnown known named l lf pf = (d : ℕ) → known ≡ Some d → 0 < l → l ≤ d → fields_differ named 0 l lf pf ≡ d

-- whether a number that is known is past record i
abbrev pub known_past : Option ℕ → ℕ → Bool
known_past None i = false
known_past (Some d) i = ltb i d
