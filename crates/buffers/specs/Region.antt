-- The destination in the work space: records from its front, labels after the room of all records.
use Rattle.std.specs.Prelude.{◌≡◌, ℕ, ◌+◌, ◌*◌, ◌-◌, ◌/◌, ◌<◌, ◌≤◌, Bool, true, cond, ◌&&◌, List, ◌⊎◌, length, get_or, drop, ltb, eqb}
use Rattle.sheet.specs.Types.{Fields, field, count, labels}
use Rattle.sheet.specs.Types.{Shape, zone_bytes, own_labels}
use Rattle.sheet.specs.Names.{names_differ}
use Rattle.sheet.specs.Encode.{link_to, bit}
use Rattle.sheet.specs.Holds.{Span, Stands, Holds}
use Rattle.buffers.specs.Source.{Source}
use Rattle.sheet.specs.Head.{head_at, zoned_in, zone_len}
use Rattle.sheet.specs.declared.Head.{Head}
use Rattle.buffers.specs.declared.Space.{Space}
use Rattle.buffers.specs.declared.Place.{Place}
use Rattle.buffers.specs.declared.Target.{Target}
use Rattle.buffers.specs.Written.{Written}
use Rattle.std.specs.Prelude.{Ok, Err}
use Rattle.buffers.specs.declared.Failure.TheVariants.{NoType, Full}

-- a work space of two halves, each with room for the records and the labels of the sheet
pub record Room (w : List ℕ) (space : Space) : Type 0 where
  pub half : space.half ≡ 16 * space.n + space.m
  pub few : space.n ≤ 1024
  pub short : space.m ≤ 16384
  pub inside : 2 * space.half ≤ length w

-- the second half, where answers are written
abbrev pub region : Space → List ℕ → List ℕ
region space w = drop space.half w

-- nothing of w has changed but in the second half: records from a place on, and labels from a place on
pub record Kept (space : Space) (w v : List ℕ) (at label : ℕ) : Type 0 where
  pub long : length v ≡ length w
  pub below : (j : ℕ) → j < space.half + 16 * at → get_or v j 0 ≡ get_or w j 0
  pub between : (j : ℕ) → space.half + 16 * space.n ≤ j → j < space.half + (16 * space.n + label) → get_or v j 0 ≡ get_or w j 0
  pub above : (j : ℕ) → space.half + (16 * space.n + space.m) ≤ j → get_or v j 0 ≡ get_or w j 0

-- a chain that stands in one of the sources, within the room of a half
pub record Held (space : Space) (s : List ℕ) (floor link r o up : ℕ) (t : Fields) : Type 0 where
  pub source : Source s space.n floor link r o up t
  pub low : o + length (labels t) ≤ space.m
  pub differ : names_differ t ≡ true

-- a place in the destination that is within its room
pub record Inside (space : Space) (to : Place) : Type 0 where
  pub some : 0 < to.at
  pub records : to.at ≤ space.n
  pub letters : to.label ≤ space.m

-- the next place is not before the last
abbrev pub Grows : Space → Place → Written → Type 0
Grows space to (Ok d) = Inside space d × ((to.at ≤ d.at) × (to.label ≤ d.label))
Grows space to (Err NoType) = Unit
Grows space to (Err Full) = Unit

-- the next place is past a record
abbrev pub Further : Place → Written → Type 0
Further to (Ok d) = to.at < d.at
Further to (Err NoType) = Unit
Further to (Err Full) = Unit

-- there is no room for z records and y label bytes
abbrev pub Short : Space → Place → ℕ → ℕ → Type 0
Short space to z y = (space.n < to.at + z) ⊎ (space.m < to.label + y)

-- a chain was written at a place, up to the next
pub record Wrote (space : Space) (v : List ℕ) (to d : Place) (t : Fields) : Type 0 where
  pub records : d.at ≡ to.at + count t
  pub letters : d.label ≡ to.label + length (labels t)
  pub holds : Holds (region space v) space.n to.at to.label t

-- a link from record `link` on, in a chain whose first record is now number at
abbrev pub moved_link : ℕ → ℕ → ℕ → ℕ
moved_link x link at = cond (ltb link x && ltb (at + (x - link)) 65536) (at + (x - link)) 0

-- the offset of a label of len bytes whose place is o
abbrev pub moved_label : ℕ → ℕ → ℕ
moved_label o len = cond (eqb len 0) 0 o

-- the head of record `link` at a target: its own figures and zone, the target's name and nullability, its parts
-- after it, and a next record that is given
abbrev pub target_head : Head → ℕ → Target → ℕ → Head
target_head h link g next =
    record {
      kind = h.kind;
      flags = h.flags / 2 * 2 + bit g.nullable;
      figure = h.figure;
      scale = h.scale;
      bytes_4_7 = cond (zoned_in h) (moved_label (g.label + g.name_len) (zone_len h) + 65536 * zone_len h) h.bytes_4_7;
      first = moved_link h.first link g.at;
      next = next;
      name = moved_label g.label g.name_len;
      name_len = g.name_len;
      byte_15 = h.byte_15;
    }

-- a target within the room, whose name is there
pub record Ready (space : Space) (g : Target) : Type 0 where
  pub some : 0 < g.at
  pub records : g.at ≤ space.n
  pub letters : g.label + g.name_len ≤ space.m
  pub short : g.name_len ≤ 255

-- the name that stands at a target
pub record Named (space : Space) (w : List ℕ) (g : Target) (name : List ℕ) : Type 0 where
  pub long : length name ≡ g.name_len
  pub span : Span (region space w) (16 * space.n + g.label) name

-- what is said of a head that was copied: whatever field stands at its place, its shape stands at the target,
-- under whatever name stands there
abbrev pub HeadMeans : Space → List ℕ → List ℕ → List ℕ → Head → ℕ → Target → ℕ → Written → Type 0
HeadMeans space s w v h link g next (Ok d) =
    (d.at ≡ g.at + 1)
    × ((floor r o up : ℕ) (name : List ℕ) (nullable : Bool) (shape : Shape) (parts rest : Fields) → Held space s floor link r o up (field name nullable shape parts rest)
    → h ≡ head_at s link → (d.label ≡ g.label + g.name_len + length (zone_bytes shape.zone))
    × ((own : List ℕ) → Named space w g own → Stands (region space v) space.n g.at g.label own g.nullable shape (link_to (g.at + 1) parts) next))
HeadMeans space s w v h link g next (Err NoType) = ⊥
HeadMeans space s w v h link g next (Err Full) =
    (floor r o up : ℕ) (name : List ℕ) (nullable : Bool) (shape : Shape) (parts rest : Fields) → Held space s floor link r o up (field name nullable shape parts rest)
    → h ≡ head_at s link → space.m < g.label + g.name_len + length (zone_bytes shape.zone)

-- the next place is past the record and the name
abbrev pub Passes : Space → Target → Written → Type 0
Passes space g (Ok d) = Inside space d × ((g.at < d.at) × (g.label + g.name_len ≤ d.label))
Passes space g (Err NoType) = Unit
Passes space g (Err Full) = Unit

pub record CopiedHead (space : Space) (s w v : List ℕ) (h : Head) (link : ℕ) (g : Target) (next : ℕ) (o : Written) : Type 0 where
  pub kept : Kept space w v g.at (g.label + g.name_len)
  pub passes : Passes space g o
  pub means : HeadMeans space s w v h link g next o

-- the head of a record without a zone was copied as the last of its chain, whatever source it was read from
abbrev pub CopiedBare : Space → List ℕ → List ℕ → Head → ℕ → Target → Written → Type 0
CopiedBare space w v h link g o = (s : List ℕ) → CopiedHead space s w v h link g 0 o

-- what is said of a record that was copied: whatever field stands at its place, its record stands at the destination
abbrev pub CopyMeans : Space → List ℕ → List ℕ → ℕ → Place → Written → Type 0
CopyMeans space s v link to (Ok d) =
    (floor r o up : ℕ) (name : List ℕ) (nullable : Bool) (shape : Shape) (parts rest : Fields) → Held space s floor link r o up (field name nullable shape parts rest)
    → (d.at ≡ to.at + 1) × ((d.label ≡ to.label + length (own_labels name shape))
    × Stands (region space v) space.n to.at to.label name nullable shape (link_to (to.at + 1) parts) (link_to (to.at + 1 + count parts) rest))
CopyMeans space s v link to (Err NoType) = ⊥
CopyMeans space s v link to (Err Full) =
    (floor r o up : ℕ) (name : List ℕ) (nullable : Bool) (shape : Shape) (parts rest : Fields) → Held space s floor link r o up (field name nullable shape parts rest)
    → space.m < to.label + length (own_labels name shape)

pub record CopiedRecord (space : Space) (s w v : List ℕ) (link : ℕ) (to : Place) (o : Written) : Type 0 where
  pub kept : Kept space w v to.at to.label
  pub grows : Grows space to o
  pub further : Further to o
  pub means : CopyMeans space s v link to o

-- what is said of a chain that was copied
abbrev pub ChainMeans : Space → List ℕ → List ℕ → ℕ → Place → Written → Type 0
ChainMeans space s v link to (Ok d) = (floor r o up : ℕ) (t : Fields) → Held space s floor link r o up t → Wrote space v to d t
ChainMeans space s v link to (Err NoType) = ⊥
ChainMeans space s v link to (Err Full) = (floor r o up : ℕ) (t : Fields) → Held space s floor link r o up t → Short space to (count t) (length (labels t))

pub record CopiedChain (space : Space) (s w v : List ℕ) (link : ℕ) (to : Place) (o : Written) : Type 0 where
  pub kept : Kept space w v to.at to.label
  pub grows : Grows space to o
  pub means : ChainMeans space s v link to o
