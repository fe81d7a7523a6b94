-- The one spelling of a list of types as bytes.
use Rattle.std.specs.Prelude.{ℕ, ◌+◌, ◌*◌, ◌/◌, ◌%◌, Bool, true, false, List, [], ◌∷◌, ◌++◌, length, replicate}
use Rattle.sheet.specs.Types.{Zone, absent, present, Shape, Fields, end, field, count, own_labels, labels}
use Rattle.sheet.specs.Head.{bytes_of}
use Rattle.sheet.specs.declared.Head.{Head}

-- "A link is the number of a record, and the link 0 ends a chain.": the link to a chain whose first record would be r
abbrev pub link_to : ℕ → Fields → ℕ
link_to r end = 0
link_to r (field name nullable shape parts rest) = r

-- "A label without bytes has the offset 0.": the offset of a label whose place is o
abbrev pub offset : ℕ → List ℕ → ℕ
offset o [] = 0
offset o (b ∷ bs) = o

abbrev pub bit : Bool → ℕ
bit false = 0
bit true = 1

abbrev pub zone_bit : Zone → ℕ
zone_bit absent = 0
zone_bit (present z) = 1

-- byte 1: bit 0 nullable, bit 1 sorted (Map), bit 2 zone present (Timestamp)
abbrev pub flags_of : Bool → Bool → Zone → ℕ
flags_of nullable sorted zone = bit nullable + (2 * bit sorted + 4 * zone_bit zone)

-- bytes 4–7: the size; or for a zone whose place is o its offset and its length
abbrev pub quad_of : ℕ → ℕ → Zone → ℕ
quad_of o size absent = size
quad_of o size (present z) = offset o z + 65536 * length z

-- the head of a record whose labels begin at o
abbrev pub head_of : ℕ → List ℕ → Bool → Shape → ℕ → ℕ → Head
head_of o name nullable shape first next =
    record {
      kind = shape.kind;
      flags = flags_of nullable shape.sorted shape.zone;
      figure = shape.figure;
      scale = shape.scale;
      bytes_4_7 = quad_of (o + length name) shape.size shape.zone;
      first = first;
      next = next;
      name = offset o name;
      name_len = length name;
      byte_15 = 0;
    }

-- the records of a chain from number r on, whose labels begin at o: a record, then its parts, then its next
unfoldable pub records : ℕ → ℕ → Fields → List ℕ
records r o end = []
records r o (field name nullable shape parts rest) =
    let i = o + length (own_labels name shape) in
    bytes_of (head_of o name nullable shape (link_to (r + 1) parts) (link_to (r + 1 + count parts) rest))
    ++ (records (r + 1) i parts ++ records (r + 1 + count parts) (i + length (labels parts)) rest)

-- "Record 0 is the header: n in bytes 0 and 1, m in bytes 2 and 3, and zeros in the other twelve."
abbrev pub header : ℕ → ℕ → List ℕ
header n m = n % 256 ∷ n / 256 ∷ m % 256 ∷ m / 256 ∷ replicate 12 0

-- "A sheet holds n records of sixteen bytes, and m label bytes behind them."
unfoldable pub encode : Fields → List ℕ
encode types = header (1 + count types) (length (labels types)) ++ (records 1 0 types ++ labels types)
