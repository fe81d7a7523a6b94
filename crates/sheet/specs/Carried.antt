-- What a sheet may carry: the lists of types that have a spelling.
use Rattle.std.specs.Prelude.{◌≡◌, ℕ, ◌+◌, ◌<◌, ◌≤◌, Bool, true, false, List, [], ◌∷◌, length, get_or}
use Rattle.sheet.specs.Kind.{is_kind, parts_right, names_parts}
use Rattle.sheet.specs.Types.{Zone, absent, present, Shape, Fields, end, field, arity, count, zone_bytes, labels}
use Rattle.sheet.specs.Names.{names_differ}
use Rattle.sheet.specs.Booleans.{implies}
use Rattle.sheet.specs.Refusals.{figures_right}
use Rattle.sheet.specs.declared.limits.TheConstants.{MOST_RECORDS, MOST_LABEL_BYTES, LONGEST_LABEL}

-- "A label is a name or a zone: up to 255 bytes of any value."
pub record Label (l : List ℕ) : Type 0 where
  pub short : length l ≤ LONGEST_LABEL
  pub plain : (i : ℕ) → get_or l i 0 < 256

abbrev pub is_named : List ℕ → Bool
is_named [] = false
is_named (b ∷ bs) = true

abbrev pub is_zoned : Zone → Bool
is_zoned absent = false
is_zoned (present z) = true

-- a field of a record of kind up, 0 for a listed type
pub record FieldRight (up : ℕ) (name : List ℕ) (nullable : Bool) (shape : Shape) (parts : Fields) : Type 0 where
  pub known : is_kind shape.kind ≡ true
  pub filled : parts_right shape.kind (arity parts) ≡ true
  pub figures : figures_right shape.kind shape.figure shape.scale shape.size shape.sorted (is_zoned shape.zone) ≡ true
  pub byte : shape.scale < 256
  pub may_be_null : implies nullable (names_parts up) ≡ true
  pub may_be_named : implies (is_named name) (names_parts up) ≡ true
  pub own_name : Label name
  pub own_zone : Label (zone_bytes shape.zone)

abbrev pub FieldsRight : ℕ → Fields → Type 0
FieldsRight up end = Unit
FieldsRight up (field name nullable shape parts rest) =
    FieldRight up name nullable shape parts × (FieldsRight shape.kind parts × FieldsRight up rest)

-- "The number n counts the header too and lies between 1 and 1,024."
-- "The number m lies between 0 and 16,384."
-- "The fields of one Struct have names that differ."
pub record Carried (types : Fields) : Type 0 where
  pub few : 1 + count types ≤ MOST_RECORDS
  pub short : length (labels types) ≤ MOST_LABEL_BYTES
  pub right : FieldsRight 0 types
  pub differ : names_differ types ≡ true
