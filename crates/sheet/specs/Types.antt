-- Type trees: what a sheet says, without its bytes.
use Rattle.std.specs.Prelude.{ℕ, ◌+◌, Bool, List, [], ◌++◌}

-- "A zone may be present and have no bytes, which is another type than one without a zone."
pub data Zone : Type 0 where
  absent : Zone
  present : List ℕ → Zone

-- What a record says of its type by itself: the kind; byte 2, a decimal's precision or a unit; byte 3, the scale as it
-- is stored; the size of kinds 31 and 34; the sorted bit; the zone.
pub record Shape : Type 0 where
  pub kind : ℕ
  pub figure : ℕ
  pub scale : ℕ
  pub size : ℕ
  pub sorted : Bool
  pub zone : Zone

-- A chain of records: each has a name, says whether it is nullable, has a type, which is a shape with its parts, and is
-- followed by the rest of the chain. The listed types of a sheet are a chain of fields without names, none nullable.
pub data Fields : Type 0 where
  end : Fields
  field : (name : List ℕ) (nullable : Bool) (shape : Shape) (parts rest : Fields) → Fields

-- how many fields a chain has: the number of parts of a type
unfoldable pub arity : Fields → ℕ
arity end = 0
arity (field name nullable shape parts rest) = 1 + arity rest

-- how many records a chain takes
unfoldable pub count : Fields → ℕ
count end = 0
count (field name nullable shape parts rest) = 1 + (count parts + count rest)

-- the bytes of a zone
abbrev pub zone_bytes : Zone → List ℕ
zone_bytes absent = []
zone_bytes (present z) = z

-- the labels of one record: "a record's name before its zone"
abbrev pub own_labels : List ℕ → Shape → List ℕ
own_labels name shape = name ++ zone_bytes shape.zone

-- "The labels stand in the order of the records, a record's name before its zone, without gaps, from 0 up to m."
unfoldable pub labels : Fields → List ℕ
labels end = []
labels (field name nullable shape parts rest) = own_labels name shape ++ (labels parts ++ labels rest)
