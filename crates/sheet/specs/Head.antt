-- The sixteen bytes of a record, field by field. "Each record behind the header says one type."
use Rattle.std.specs.Prelude.{ℕ, ◌+◌, ◌*◌, ◌/◌, ◌%◌, Bool, cond, List, [], ◌∷◌, length, get_or, ltb, eqb}
use Rattle.sheet.specs.declared.Head.{Head}

-- two bytes, the lower first
abbrev pub word : List ℕ → ℕ → ℕ
word s i = get_or s i 0 + 256 * get_or s (i + 1) 0

-- four bytes, the lowest first
abbrev pub quad_at : List ℕ → ℕ → ℕ
quad_at s i = word s i + 65536 * word s (i + 2)

-- eight bytes, the lowest first
abbrev pub eight_at : List ℕ → ℕ → ℕ
eight_at s i = quad_at s i + 4294967296 * quad_at s (i + 4)

-- the head that the sixteen bytes from i on hold
abbrev pub head_from : List ℕ → ℕ → Head
head_from s i =
    record {
      kind = get_or s i 0;
      flags = get_or s (i + 1) 0;
      figure = get_or s (i + 2) 0;
      scale = get_or s (i + 3) 0;
      bytes_4_7 = quad_at s (i + 4);
      first = word s (i + 8);
      next = word s (i + 10);
      name = word s (i + 12);
      name_len = get_or s (i + 14) 0;
      byte_15 = get_or s (i + 15) 0;
    }

-- the head that four numbers of 32 bits hold
abbrev pub by_quads : ℕ → ℕ → ℕ → ℕ → Head
by_quads a b c d =
    record {
      kind = a % 256;
      flags = a / 256 % 256;
      figure = a / 65536 % 256;
      scale = a / 16777216;
      bytes_4_7 = b;
      first = c % 65536;
      next = c / 65536;
      name = d % 65536;
      name_len = d / 65536 % 256;
      byte_15 = d / 16777216;
    }

-- a record past the end reads as zeros
abbrev pub blank : Head
blank = record { kind = 0; flags = 0; figure = 0; scale = 0; bytes_4_7 = 0; first = 0; next = 0; name = 0; name_len = 0; byte_15 = 0 }

-- the head of record r
unfoldable pub head_at : List ℕ → ℕ → Head
head_at s r = cond (ltb r (length s / 16)) (head_from s (16 * r)) blank

-- the sixteen bytes of a head
abbrev pub bytes_of : Head → List ℕ
bytes_of h =
    h.kind ∷ h.flags ∷ h.figure ∷ h.scale
    ∷ h.bytes_4_7 % 256 ∷ h.bytes_4_7 / 256 % 256 ∷ h.bytes_4_7 / 65536 % 256 ∷ h.bytes_4_7 / 16777216
    ∷ h.first % 256 ∷ h.first / 256 ∷ h.next % 256 ∷ h.next / 256
    ∷ h.name % 256 ∷ h.name / 256 ∷ h.name_len ∷ h.byte_15 ∷ []

-- "Byte 1 holds three flags: bit 0 says nullable, bit 1 says sorted, and bit 2 says that a zone is present."
abbrev pub nullable_in : Head → Bool
nullable_in h = eqb (h.flags % 2) 1

abbrev pub sorted_in : Head → Bool
sorted_in h = eqb (h.flags / 2 % 2) 1

abbrev pub zoned_in : Head → Bool
zoned_in h = eqb (h.flags / 4 % 2) 1

-- "Bytes 4 to 7 are the size of a FixedSizeBinary or FixedSizeList: 32 bits, signed, and not negative."
-- "Where a zone is present, bytes 4 and 5 are its offset and byte 6 is its length."
abbrev pub size_in : Head → ℕ
size_in h = cond (zoned_in h) 0 h.bytes_4_7

abbrev pub zone_at : Head → ℕ
zone_at h = h.bytes_4_7 % 65536

abbrev pub zone_len : Head → ℕ
zone_len h = h.bytes_4_7 / 65536 % 256

-- how many label bytes a record has
abbrev pub labelled : Head → ℕ
labelled h = h.name_len + cond (zoned_in h) (zone_len h) 0
