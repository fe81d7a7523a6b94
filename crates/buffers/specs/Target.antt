-- A type that is written at a target, and what is said of it.
use Rattle.std.specs.Prelude.{◌≡◌, ℕ, ◌+◌, ◌*◌, ◌<◌, ◌≤◌, Bool, false, List, ◌⊎◌, length, get_or}
use Rattle.std.specs.Prelude.{Option, None, Some}
use Rattle.sheet.specs.Types.{absent, present, Shape, Fields, end, field, labels, zone_bytes}
use Rattle.sheet.specs.Head.{head_at}
use Rattle.sheet.specs.Holds.{Stands}
use Rattle.sheet.specs.declared.Head.{Head}
use Rattle.coercion.specs.Data.{DataType, size}
pub use Rattle.buffers.specs.Source.{type_of}
use Rattle.buffers.specs.Region.{region, Kept, Held, Wrote, Named, Passes}
use Rattle.buffers.specs.declared.Space.{Space}
use Rattle.buffers.specs.declared.Place.{Place}
use Rattle.buffers.specs.declared.Target.{Target}
use Rattle.buffers.specs.Written.{Written}
use Rattle.std.specs.Prelude.{Ok, Err}
use Rattle.buffers.specs.declared.Failure.TheVariants.{NoType, Full}

-- how many label bytes a type has
abbrev pub letters : DataType → ℕ
letters t = length (zone_bytes t.shape.zone) + length (labels t.parts)

-- the place of a target: its record, and its labels with the name
abbrev pub place_of_target : Target → Place
place_of_target g = record { at = g.at; label = g.label }

-- the place past a target's record and its labels, with a zone of zlen bytes
abbrev pub past : Target → ℕ → Place
past g zlen = record { at = g.at + 1; label = g.label + g.name_len + zlen }

-- the field that a type makes at a target
abbrev pub field_for : Target → List ℕ → DataType → Fields
field_for g name t = field name g.nullable t.shape t.parts end

-- there is no room for z records and y label bytes after the name
abbrev pub NoRoom : Space → Target → ℕ → ℕ → Type 0
NoRoom space g z y = (space.n < g.at + z) ⊎ (space.m < g.label + g.name_len + y)

-- what an answer says: the type was written under whatever name stands there; there is none; or there is no room
abbrev pub Means : Space → List ℕ → List ℕ → Target → ℕ → ℕ → Written → Option DataType → Type 0
Means space w v g z y (Ok d) None = ⊥
Means space w v g z y (Ok d) (Some t) = (name : List ℕ) → Named space w g name → Wrote space v (place_of_target g) d (field_for g name t)
Means space w v g z y (Err NoType) None = Unit
Means space w v g z y (Err NoType) (Some t) = ⊥
Means space w v g z y (Err Full) m = NoRoom space g z y

-- what holds after a type was written at a target, or was not
pub record Writes (space : Space) (w v : List ℕ) (g : Target) (o : Written) : Type 0 where
  pub kept : Kept space w v g.at (g.label + g.name_len)
  pub passes : Passes space g o

-- a record without a zone that was written at a target, with a link to its parts, under whatever name stands there
pub record Laid (space : Space) (w v : List ℕ) (g : Target) (shape : Shape) (first : ℕ) : Type 0 where
  pub kept : Kept space w v g.at (g.label + g.name_len)
  pub stands : (name : List ℕ) → Named space w g name → Stands (region space v) space.n g.at g.label name g.nullable shape first 0

-- a plain type, of whatever kind and figures, that was written at a target
pub record LaidPlain (space : Space) (w v : List ℕ) (g : Target) (shape : Shape) (o : Written) : Type 0 where
  pub writes : Writes space w v g o
  pub means : Means space w v g 1 0 o (Some (type_of shape end))

-- a copy of the type at a link, whatever type stands there
pub record CopiedType (space : Space) (s w v : List ℕ) (link : ℕ) (g : Target) (o : Written) : Type 0 where
  pub writes : Writes space w v g o
  pub means : (floor r off up : ℕ) (name : List ℕ) (nullable : Bool) (shape : Shape) (parts rest : Fields) → Held space s floor link r off up (field name nullable shape parts rest)
      → Means space w v g (size (type_of shape parts)) (letters (type_of shape parts)) o (Some (type_of shape parts))

-- the shape of a type that has no zone
abbrev pub shape_for : ℕ → ℕ → ℕ → ℕ → Bool → Shape
shape_for kind figure scale size sorted = record { kind = kind; figure = figure; scale = scale; size = size; sorted = sorted; zone = absent }

-- a head with another next link
abbrev pub tied_to : ℕ → Head → Head
tied_to next h =
    record {
      kind = h.kind;
      flags = h.flags;
      figure = h.figure;
      scale = h.scale;
      bytes_4_7 = h.bytes_4_7;
      first = h.first;
      next = next;
      name = h.name;
      name_len = h.name_len;
      byte_15 = h.byte_15;
    }

-- a record of the second half got another next link, and nothing else has changed
pub record Tied (space : Space) (w v : List ℕ) (at next : ℕ) : Type 0 where
  pub long : length v ≡ length w
  pub below : (j : ℕ) → j < space.half + 16 * at → get_or v j 0 ≡ get_or w j 0
  pub above : (j : ℕ) → space.half + 16 * at + 16 ≤ j → get_or v j 0 ≡ get_or w j 0
  pub head : head_at (region space v) at ≡ tied_to next (head_at (region space w) at)

-- the shape of a type that has a zone
abbrev pub zoned_shape : ℕ → ℕ → List ℕ → Shape
zoned_shape kind figure zone = record { kind = kind; figure = figure; scale = 0; size = 0; sorted = false; zone = present zone }

-- a type with a zone that was written at a target
pub record LaidZoned (space : Space) (w v : List ℕ) (g : Target) (kind figure : ℕ) (zone : List ℕ) (o : Written) : Type 0 where
  pub writes : Writes space w v g o
  pub means : Means space w v g 1 (length zone) o (Some (type_of (zoned_shape kind figure zone) end))
