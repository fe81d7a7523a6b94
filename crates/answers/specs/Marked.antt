-- The marked cases: "Calls whose answers were fixed beforehand, each with every mask bit from 1 to 38 set."
-- The table stands here in bytes, and below it in types.
use Rattle.std.specs.Prelude.{◌≡◌, ℕ, ◌+◌, ◌*◌, ◌-◌, ◌^◌, ◌≤◌, Bool, true, false, List, [], ◌∷◌, ◌++◌, length, map, Option, None, Some}
use mathlib.Core.List.{Memᴰ}
use Rattle.sheet.specs.declared.kind.TheConstants as Kind
use Rattle.sheet.specs.Types.{present, Fields, end, field}
use Rattle.sheet.specs.Encode.{encode}
use Rattle.coercion.specs.Data.{DataType, single, plain, zoned, of_kind, of_unit}
use Rattle.coercion.specs.Numbers.{decimal}
use Rattle.coercion.specs.declared.Question.{Question}
use Rattle.answers.specs.Call.{Call, nothing, written, Outcome, outcome, cleared, at_front}
use Rattle.answers.specs.Listed.{listed}

-- the sixteen bytes of a header of n records without labels, and of a record of a kind, with bytes 2 and 3 and the
-- link to the next record
abbrev pub top : ℕ → List ℕ
top n = n ∷ 0 ∷ 0 ∷ 0 ∷ 0 ∷ 0 ∷ 0 ∷ 0 ∷ 0 ∷ 0 ∷ 0 ∷ 0 ∷ 0 ∷ 0 ∷ 0 ∷ 0 ∷ []

abbrev pub row : ℕ → ℕ → ℕ → ℕ → List ℕ
row kind figure scale next = kind ∷ 0 ∷ figure ∷ scale ∷ 0 ∷ 0 ∷ 0 ∷ 0 ∷ 0 ∷ 0 ∷ next ∷ 0 ∷ 0 ∷ 0 ∷ 0 ∷ 0 ∷ []

-- sheets of two types, each by its kind and its bytes 2 and 3, and of one
abbrev pub two : ℕ → ℕ → ℕ → ℕ → ℕ → ℕ → List ℕ
two k p s j q t = top 3 ++ (row k p s 2 ++ row j q t 0)

abbrev pub one : ℕ → ℕ → ℕ → Option (List ℕ)
one k p s = Some (top 2 ++ row k p s 0)

-- a header with labels, and a record with flags, the place of a zone, links and the place of a name
abbrev pub top_with : ℕ → ℕ → List ℕ
top_with n m = n ∷ 0 ∷ m ∷ 0 ∷ 0 ∷ 0 ∷ 0 ∷ 0 ∷ 0 ∷ 0 ∷ 0 ∷ 0 ∷ 0 ∷ 0 ∷ 0 ∷ 0 ∷ []

abbrev pub row_with : ℕ → ℕ → ℕ → ℕ → ℕ → ℕ → ℕ → ℕ → List ℕ
row_with kind flags zone zlen first next name name_len =
    kind ∷ flags ∷ 0 ∷ 0 ∷ zone ∷ 0 ∷ zlen ∷ 0 ∷ first ∷ 0 ∷ next ∷ 0 ∷ name ∷ 0 ∷ name_len ∷ 0 ∷ []

-- a question, the bytes of a sheet, and the bytes of the answer's sheet, or none
pub record Entry : Type 0 where
  pub question : Question
  pub sheet : List ℕ
  pub answer : Option (List ℕ)

abbrev pub entry : Question → List ℕ → Option (List ℕ) → Entry
entry question sheet answer = record { question = question; sheet = sheet; answer = answer }

-- the case of "all three" questions
abbrev pub all_three : List ℕ → Option (List ℕ) → List Entry → List Entry
all_three sheet answer rest = entry Question.List sheet answer ∷ entry Question.Union sheet answer ∷ entry Question.Compare sheet answer ∷ rest

-- Timestamp(second, "A") and Timestamp(second, "B"): "the later zone wins"
abbrev pub zones : List ℕ
zones = top_with 3 2 ++ (row_with 22 4 0 1 0 2 0 0 ++ (row_with 22 4 1 1 0 0 0 0 ++ (65 ∷ 66 ∷ [])))

abbrev pub later_zone : List ℕ
later_zone = top_with 2 1 ++ (row_with 22 4 0 1 0 0 0 0 ++ (66 ∷ []))

-- Struct(a: Int8 nullable, b: Int8) and Struct(b: Int8, a: Int8): "nullability goes by place, not with the name"
abbrev pub structs : List ℕ
structs =
    top_with 7 4
    ++ (row_with 35 0 0 0 2 4 0 0
    ++ (row_with 3 1 0 0 0 3 0 1
    ++ (row_with 3 0 0 0 0 0 1 1
    ++ (row_with 35 0 0 0 5 0 0 0 ++ (row_with 3 0 0 0 0 6 2 1 ++ (row_with 3 0 0 0 0 0 3 1 ++ (97 ∷ 98 ∷ 98 ∷ 97 ∷ [])))))))

abbrev pub by_place : List ℕ
by_place = top_with 4 2 ++ (row_with 35 0 0 0 2 0 0 0 ++ (row_with 3 1 0 0 0 3 0 1 ++ (row_with 3 0 0 0 0 0 1 1 ++ (98 ∷ 97 ∷ []))))

-- the table: the cases 1 to 12, the worked example, and two on a zone and on nullability; a scale of −3 is stored as
-- 253
abbrev pub table : List Entry
table =
    -- 1: none listed; list: none
    entry Question.List (top 1) None
    -- 2: Null, Null; list: Null
    ∷ entry Question.List (two 1 0 0 1 0 0) (one 1 0 0)
    -- 3: Binary, Null; list: none
    ∷ entry Question.List (two 28 0 0 1 0 0) None
    -- 4: UInt64, Int8; all three: Decimal128(20, 0)
    ∷ all_three (two 10 0 0 3 0 0) (one 16 20 0)
    -- 5: UInt32, Int8; all three: Int64
    (all_three (two 9 0 0 3 0 0) (one 6 0 0)
    -- 6: Decimal32(9, 2), Int64; all three: Int64
    (all_three (two 14 9 2 6 0 0) (one 6 0 0)
    -- 7: Decimal128(38, 0), Decimal128(38, 10); all three: Decimal128(38, 10)
    (all_three (two 16 38 0 16 38 10) (one 16 38 10)
    -- 8: Decimal32(9, 0), Decimal64(18, 9); all three: Decimal64(18, 9)
    (all_three (two 14 9 0 15 18 9) (one 15 18 9)
    -- 9: Decimal32(9, 0), Decimal64(18, 10); all three: none
    (all_three (two 14 9 0 15 18 10) None
    -- 10: Decimal128(5, −3), Decimal128(4, 0); all three: Decimal128(8, 0)
    (all_three (two 16 5 253 16 4 0) (one 16 8 0)
    -- 11: Utf8, Int32; union: Utf8; list, compare: Int32
    (entry Question.Union (two 25 0 0 5 0 0) (one 25 0 0)
    ∷ entry Question.List (two 25 0 0 5 0 0) (one 5 0 0)
    ∷ entry Question.Compare (two 25 0 0 5 0 0) (one 5 0 0)
    -- 12: Date32, Int8; compare: Date32; list: none
    ∷ entry Question.Compare (two 18 0 0 3 0 0) (one 18 0 0)
    ∷ entry Question.List (two 18 0 0 3 0 0) None
    -- worked example: Int64, Decimal128(7, 2); all three: Decimal128(22, 2)
    ∷ all_three (two 6 0 0 16 7 2) (one 16 22 2)
    -- zones and structs, in a list
    (entry Question.List zones (Some later_zone) ∷ entry Question.List structs (Some by_place) ∷ []))))))))

-- every mask bit from 1 to 38
abbrev pub full_mask : ℕ
full_mask = 2 ^ 39 - 2

-- an entry's call, with a lent output and a lent work space
abbrev pub call_with : Entry → List ℕ → List ℕ → Call
call_with e output work = record { question = e.question; sheet = e.sheet; mask = full_mask; output = output; work = work }

-- what is to be seen after it: none writes no output, a type stands at its front, and the work space is cleared as
-- far as twice the sheet
abbrev pub seen : List ℕ → List ℕ → List ℕ → Option (List ℕ) → Outcome
seen sheet output work None = record { reply = nothing; output = output; work = cleared sheet work }
seen sheet output work (Some bytes) = record { reply = written (length bytes); output = at_front bytes output; work = cleared sheet work }

abbrev pub expected : Entry → List ℕ → List ℕ → Outcome
expected e output work = seen e.sheet output work e.answer

-- lent memory that is long enough
pub record Enough (sheet o w : List ℕ) : Type 0 where
  pub output : length sheet ≤ length o
  pub work : 2 * length sheet ≤ length w

-- for each entry of the table, whatever output and work space are lent: the reply, every byte of the output and every
-- byte of the work space
abbrev pub MarkedCases : Type 0
MarkedCases =
    (e : Entry) → Memᴰ e table → (output work : List ℕ) → Enough e.sheet output work → outcome (call_with e output work) ≡ expected e output work

-- the same table in types
pub record Words : Type 0 where
  pub question : Question
  pub types : List DataType
  pub answer : Option DataType

abbrev pub kind : ℕ → DataType
kind k = plain (of_kind k)

-- a decimal of a width's kind; the scale is given plus 128
abbrev pub dec : ℕ → ℕ → ℕ → DataType
dec k p s = plain (decimal k p s)

-- a Timestamp in seconds with a zone of one byte; an Int8 under a name of one byte; a Struct
abbrev pub zoned_second : ℕ → DataType
zoned_second z = zoned (of_unit Kind.TIMESTAMP 0) (present (z ∷ []))

abbrev pub item : ℕ → Bool → Fields → Fields
item name nullable rest = field (name ∷ []) nullable (kind Kind.INT8).shape end rest

abbrev pub struct_of : Fields → DataType
struct_of fields = record { shape = (kind Kind.STRUCT).shape; parts = fields }

abbrev pub pair : Question → DataType → DataType → Option DataType → Words
pair question l r answer = record { question = question; types = l ∷ r ∷ []; answer = answer }

abbrev pub pairs : DataType → DataType → Option DataType → List Words → List Words
pairs l r answer rest = pair Question.List l r answer ∷ pair Question.Union l r answer ∷ pair Question.Compare l r answer ∷ rest

abbrev pub words : List Words
words =
    record { question = Question.List; types = []; answer = None }
    ∷ pair Question.List (kind Kind.NULL) (kind Kind.NULL) (Some (kind Kind.NULL))
    ∷ pair Question.List (kind Kind.BINARY) (kind Kind.NULL) None
    ∷ pairs (kind Kind.UINT64) (kind Kind.INT8) (Some (dec Kind.DECIMAL128 20 (128 + 0)))
    (pairs (kind Kind.UINT32) (kind Kind.INT8) (Some (kind Kind.INT64))
    (pairs (dec Kind.DECIMAL32 9 (128 + 2)) (kind Kind.INT64) (Some (kind Kind.INT64))
    (pairs (dec Kind.DECIMAL128 38 (128 + 0)) (dec Kind.DECIMAL128 38 (128 + 10)) (Some (dec Kind.DECIMAL128 38 (128 + 10)))
    (pairs (dec Kind.DECIMAL32 9 (128 + 0)) (dec Kind.DECIMAL64 18 (128 + 9)) (Some (dec Kind.DECIMAL64 18 (128 + 9)))
    (pairs (dec Kind.DECIMAL32 9 (128 + 0)) (dec Kind.DECIMAL64 18 (128 + 10)) None
    (pairs (dec Kind.DECIMAL128 5 (128 - 3)) (dec Kind.DECIMAL128 4 (128 + 0)) (Some (dec Kind.DECIMAL128 8 (128 + 0)))
    (pair Question.Union (kind Kind.UTF8) (kind Kind.INT32) (Some (kind Kind.UTF8))
    ∷ pair Question.List (kind Kind.UTF8) (kind Kind.INT32) (Some (kind Kind.INT32))
    ∷ pair Question.Compare (kind Kind.UTF8) (kind Kind.INT32) (Some (kind Kind.INT32))
    ∷ pair Question.Compare (kind Kind.DATE32) (kind Kind.INT8) (Some (kind Kind.DATE32))
    ∷ pair Question.List (kind Kind.DATE32) (kind Kind.INT8) None
    ∷ pairs (kind Kind.INT64) (dec Kind.DECIMAL128 7 (128 + 2)) (Some (dec Kind.DECIMAL128 22 (128 + 2)))
    (pair Question.List (zoned_second 65) (zoned_second 66) (Some (zoned_second 66))
    ∷ pair Question.List (struct_of (item 97 true (item 98 false end))) (struct_of (item 98 false (item 97 false end))) (Some (struct_of (item 98 true (item 97 false end))))
    ∷ []))))))))

-- a line of that table in bytes
abbrev pub sheet_of : Option DataType → Option (List ℕ)
sheet_of None = None
sheet_of (Some t) = Some (encode (single t))

abbrev pub spell : Words → Entry
spell w = entry w.question (encode (listed w.types)) (sheet_of w.answer)

-- the table in types is spelled as the table in bytes
abbrev pub MarkedSpelled : Type 0
MarkedSpelled = map spell words ≡ table
