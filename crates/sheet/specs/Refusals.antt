-- The refusals 1 to 5. "Each condition is stated over any bytes, and by itself."
use Rattle.std.specs.Prelude.{ℕ, zero, suc, ◌+◌, ◌*◌, ◌-◌, ◌%◌, Bool, true, false, cond, not, ◌&&◌, ◌||◌, List, [], ◌∷◌, ◌++◌, length, take, drop, leb, ltb, eqb, Result, Ok, Err}
use Rattle.sheet.specs.Booleans.{all_of, one_of, implies}
use Rattle.sheet.specs.declared.kind.TheConstants as Kind
use Rattle.sheet.specs.Kind.{is_kind, is_decimal, cap, sized, last_unit, parts_right, names_parts}
use Rattle.sheet.specs.Types.{Fields, end, field, arity, count}
use Rattle.sheet.specs.Head.{head_at, nullable_in, sorted_in, zoned_in, size_in, zone_at, zone_len, labelled}
use Rattle.sheet.specs.Read.{records_of, labels_of, start, read}
use Rattle.sheet.specs.Names.{names_differ}
use Rattle.sheet.specs.declared.Head.{Head}
use Rattle.sheet.specs.declared.Refusal.{Refusal}
use Rattle.sheet.specs.declared.Refusal.TheVariants.{Torn, Kind, Chain, Figure, Label}
use Rattle.sheet.specs.declared.Sizes.{Sizes}
use Rattle.sheet.specs.declared.limits.TheConstants.{MOST_RECORDS, MOST_LABEL_BYTES}

abbrev pub all_zero : List ℕ → Bool
all_zero [] = true
all_zero (b ∷ bs) = eqb b 0 && all_zero bs

-- 1 torn: "fewer than 16 bytes, an n or m outside its limits, a length that is not 16·n + m,"
-- "a header whose other bytes are not all zero"
unfoldable pub torn : List ℕ → Bool
torn s =
    one_of
    (ltb (length s) 16
    ∷ ltb (records_of s) 1
    ∷ ltb MOST_RECORDS (records_of s)
    ∷ ltb MOST_LABEL_BYTES (labels_of s)
    ∷ not (eqb (length s) (16 * records_of s + labels_of s))
    ∷ not (all_zero (take 12 (drop 4 s)))
    ∷ [])

-- whether a record from number r on, of k records, passes a test
abbrev pub any_from : (ℕ → Bool) → ℕ → ℕ → Bool
any_from test r zero = false
any_from test r (suc k) = test r || any_from test (r + 1) k

-- 2 kind: "a record behind the header whose kind is not one of 1 to 38"
unfoldable pub bad_kind : List ℕ → Bool
bad_kind s = any_from (λ r. not (is_kind (head_at s r).kind)) 1 (records_of s - 1)

-- whether the links from record r on, and the numbers of parts, are those of the chain that was walked
unfoldable pub linked : List ℕ → ℕ → ℕ → Fields → Bool
linked s link r end = eqb link 0
linked s link r (field name nullable shape parts rest) =
    all_of
    (eqb link r
    ∷ parts_right (head_at s r).kind (arity parts)
    ∷ linked s (head_at s r).first (r + 1) parts
    ∷ linked s (head_at s r).next (r + 1 + count parts) rest
    ∷ [])

-- 3 chain: "a link, or a number of parts, that is not as the walk needs it"
unfoldable pub bad_chain : List ℕ → Bool
bad_chain s = not (all_of (linked s (start (records_of s)) 1 (read s) ∷ eqb (count (read s)) (records_of s - 1) ∷ []))

-- a record that a walk met, with the kind of the record that it is a part of, 0 for a listed type
pub record Met : Type 0 where
  pub number : ℕ
  pub up : ℕ

-- the records of a chain in the order of the walk, from number r on
unfoldable pub met : ℕ → ℕ → Fields → List Met
met up r end = []
met up r (field name nullable shape parts rest) =
    record { number = r; up = up } ∷ (met shape.kind (r + 1) parts ++ met up (r + 1 + count parts) rest)

-- the records of a sheet
abbrev pub walk : List ℕ → List Met
walk s = met 0 1 (read s)

-- the scale plus 128: "Byte 3 is the scale s of a decimal, a signed number of eight bits: 253 stands for −3."
abbrev pub biased : ℕ → ℕ
biased b = (b + 128) % 256

-- "A decimal has 1 ≤ p ≤ cap, a scale above 0 is at most p, and p − s is at most 127."
-- "Scales are compared as s + 128, which is never negative: p + 1 ≤ s + 128 ≤ p + 128."
unfoldable pub decimal_right : ℕ → ℕ → ℕ → Bool
decimal_right most p s = all_of (leb 1 p ∷ leb p most ∷ leb (biased s) (p + 128) ∷ leb (p + 1) (biased s) ∷ [])

-- bytes 2 and 3: a decimal's precision and scale, or a unit, or nothing
unfoldable pub figure_right : ℕ → ℕ → ℕ → Bool
figure_right k figure scale = cond (is_decimal k) (decimal_right (cap k) figure scale) (all_of (leb figure (last_unit k) ∷ eqb scale 0 ∷ []))

-- "Bytes 4 to 7 are the size of a FixedSizeBinary or FixedSizeList: 32 bits, signed, and not negative."
unfoldable pub size_right : ℕ → ℕ → Bool
size_right k size = cond (sized k) (ltb size 2147483648) (eqb size 0)

-- "The figures of a type are its precision and scale, or its unit, its size, and the flags sorted and zone present."
-- "Only a Map may be sorted." "Only a Timestamp may have a zone."
unfoldable pub figures_right : ℕ → ℕ → ℕ → ℕ → Bool → Bool → Bool
figures_right k figure scale size sorted zoned =
    all_of (figure_right k figure scale ∷ size_right k size ∷ implies sorted (eqb k Kind.MAP) ∷ implies zoned (eqb k Kind.TIMESTAMP) ∷ [])

-- a record's figures, its flags and its unused bits and bytes: "Bytes 12 to 14 always belong to 5, and byte 15 to 4."
unfoldable pub record_right : Head → ℕ → Bool
record_right h up =
    all_of
    (figures_right h.kind h.figure h.scale (size_in h) (sorted_in h) (zoned_in h)
    ∷ implies (nullable_in h) (names_parts up)
    ∷ ltb h.flags 8
    ∷ implies (zoned_in h) (ltb h.bytes_4_7 16777216)
    ∷ eqb h.byte_15 0
    ∷ [])

unfoldable pub any_wrong : List ℕ → List Met → Bool
any_wrong s [] = false
any_wrong s (r ∷ rs) = not (record_right (head_at s r.number) r.up) || any_wrong s rs

-- 4 figure: "a wrong precision, scale, unit or size, a flag where it may not be,"
-- "an unused bit or byte that is not zero"
unfoldable pub bad_figure : List ℕ → Bool
bad_figure s = any_wrong s (walk s)

-- a label of len bytes whose place is o: "A label without bytes has the offset 0."
abbrev pub placed : ℕ → ℕ → ℕ → Bool
placed o at len = eqb at (cond (eqb len 0) 0 o)

-- the labels of a record, which begin at o: the name, where one may be, and then the zone
unfoldable pub label_right : Head → ℕ → ℕ → Bool
label_right h up o =
    all_of
    (placed o h.name h.name_len
    ∷ implies (not (eqb h.name_len 0)) (names_parts up)
    ∷ implies (zoned_in h) (placed (o + h.name_len) (zone_at h) (zone_len h))
    ∷ [])

-- "The labels stand in the order of the records, a record's name before its zone, without gaps, from 0 up to m.":
-- whether those of the records are not so, from o on
unfoldable pub misplaced : List ℕ → ℕ → List Met → Bool
misplaced s o [] = not (eqb o (labels_of s))
misplaced s o (r ∷ rs) =
    not (label_right (head_at s r.number) r.up o) || misplaced s (o + labelled (head_at s r.number)) rs

-- 5 label: "a label out of its place or where none may be, two fields of one name in a Struct,"
-- "label bytes that no record claims"
unfoldable pub bad_label : List ℕ → Bool
bad_label s = one_of (misplaced s 0 (walk s) ∷ not (names_differ (read s)) ∷ [])

-- a condition with its number
pub record Condition : Type 0 where
  pub number : ℕ
  pub met : Bool

-- the conditions, in the order in which they are tried
abbrev pub conditions : List ℕ → List Condition
conditions s =
    record { number = 1; met = torn s }
    ∷ record { number = 2; met = bad_kind s }
    ∷ record { number = 3; met = bad_chain s }
    ∷ record { number = 4; met = bad_figure s }
    ∷ record { number = 5; met = bad_label s }
    ∷ []

-- the number of the first condition that is met, 0 where none is
abbrev pub first_met : List Condition → ℕ
first_met [] = 0
first_met (c ∷ cs) = cond c.met c.number (first_met cs)

-- "Where several conditions are met, the lowest number that applies is given.": the refusal number of bytes, 0 where
-- they are accepted
unfoldable pub refusal : List ℕ → ℕ
refusal s = first_met (conditions s)

-- what a check says: the refusal number, 0 for an accepted sheet, and the header's n and m where it is accepted
pub record Verdict : Type 0 where
  pub number : ℕ
  pub n : ℕ
  pub m : ℕ

unfoldable pub verdict : List ℕ → Verdict
verdict s =
    cond (eqb (refusal s) 0)
    (record { number = 0; n = records_of s; m = labels_of s })
    (record { number = refusal s; n = 0; m = 0 })

-- the refusal number for each refusal of the code
abbrev pub number_of : Refusal → ℕ
number_of Torn = 1
number_of Kind = 2
number_of Chain = 3
number_of Figure = 4
number_of Label = 5

-- what an answer of `check` says
abbrev pub meaning : Result Sizes Refusal → Verdict
meaning (Err r) = record { number = number_of r; n = 0; m = 0 }
meaning (Ok sizes) = record { number = 0; n = sizes.n; m = sizes.m }
