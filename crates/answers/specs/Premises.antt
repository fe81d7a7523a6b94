-- That what the least-type theorem asks for can be had: in general, and at two lists whose calls are computed.
use Rattle.std.specs.Prelude.{◌≡◌, ℕ, ◌+◌, ◌*◌, ◌≤◌, false, length, replicate}
use mathlib.Core.List.{List, [], ◌∷◌, Perm, flatten}
use Rattle.sheet.specs.declared.kind.TheConstants as Kind
use Rattle.sheet.specs.Encode.{encode}
use Rattle.coercion.specs.Data.{DataType, plain, of_kind}
use Rattle.coercion.specs.Numbers.{decimal}
use Rattle.coercion.specs.Families.{Family, integers, decimals, AllIn, SomeIn, null_type}
use Rattle.coercion.specs.declared.Question.{Question}
use Rattle.answers.specs.Call.{Call, bad_mask}
use Rattle.answers.specs.Listed.{listed}
use Rattle.answers.specs.LeastType.{Asks, Answers, Calls, NonEmpty, Settles}

-- a call on a list of types, with the mask and the buffers that are wanted
pub record Asked (ts : List DataType) (mask : ℕ) (output work : List ℕ) : Type 0 where
  pub call : Call
  pub asks : Asks call ts
  pub masked : call.mask ≡ mask
  pub output_is : call.output ≡ output
  pub work_is : call.work ≡ work

-- every list of at most 1,023 types of a family can be asked, under every mask that 6 lets pass and over every output
-- and work space that 8 lets pass
abbrev pub EveryListAsked : Type 0
EveryListAsked =
    (f : Family) (ts : List DataType) → AllIn f ts → length ts ≤ 1023 → (mask : ℕ) → bad_mask mask ≡ false → (output work : List ℕ)
    → 16 * (1 + length ts) ≤ length output → 32 * (1 + length ts) ≤ length work → Asked ts mask output work

-- the calls that the theorem speaks of, for one cutting
pub record Cut (css : List (List DataType)) : Type 0 where
  pub answers : List DataType
  pub calls : Calls css answers
  pub last : Call
  pub asks : Asks last answers

-- each stretch of each cutting of such a list can be asked, and the list of their answers
abbrev pub EveryCutAsked : Type 0
EveryCutAsked =
    (f : Family) (types : List DataType) → AllIn f types → SomeIn f types → (css : List (List DataType)) → flatten css ≡ types → NonEmpty css
    → length types ≤ 1023 → Cut css

abbrev pub int8 : DataType
int8 = plain (of_kind Kind.INT8)

abbrev pub int16 : DataType
int16 = plain (of_kind Kind.INT16)

abbrev pub int64 : DataType
int64 = plain (of_kind Kind.INT64)

abbrev pub uint8 : DataType
uint8 = plain (of_kind Kind.UINT8)

abbrev pub uint32 : DataType
uint32 = plain (of_kind Kind.UINT32)

-- Decimal128(38, 0) and Decimal128(38, 10), which no Decimal128 holds
abbrev pub whole : DataType
whole = plain (decimal 16 38 128)

abbrev pub tenth : DataType
tenth = plain (decimal 16 38 138)

-- a list call on a sheet of these types, over buffers that are not clean
abbrev pub call_on : ℕ → List DataType → Call
call_on mask ts =
    record {
      question = Question.List;
      sheet = encode (listed ts);
      mask = mask;
      output = replicate 100 7;
      work = replicate 200 9;
    }

-- a call that is asked and answers
pub record Ran (mask : ℕ) (ts : List DataType) (t : DataType) : Type 0 where
  pub asks : Asks (call_on mask ts) ts
  pub answers : Answers (call_on mask ts) t

-- Int8, Null, UInt8, UInt32 in another order, cut in two, and the two answers swapped, each call with a mask of its
-- own: the theorem's type is Int64
abbrev pub some_integers : List DataType
some_integers = int8 ∷ null_type ∷ uint8 ∷ uint32 ∷ []

pub record IntegersRun : Type 0 where
  pub all_in : AllIn integers some_integers
  pub some_in : SomeIn integers some_integers
  pub ordered : Perm some_integers (uint8 ∷ int8 ∷ uint32 ∷ null_type ∷ [])
  pub first : Ran 0 (uint8 ∷ int8 ∷ []) int16
  pub second : Ran 549755813886 (uint32 ∷ null_type ∷ []) uint32
  pub last : Ran 64 (uint32 ∷ int16 ∷ []) int64
  pub is : (t : DataType) → Settles some_integers t → t ≡ int64

-- Decimal128(38, 0), Null, Decimal128(38, 10) so too, where Null is a stretch by itself: the theorem's type is
-- Decimal128(38, 10)
abbrev pub some_decimals : List DataType
some_decimals = whole ∷ null_type ∷ tenth ∷ []

pub record DecimalsRun : Type 0 where
  pub all_in : AllIn (decimals 16) some_decimals
  pub some_in : SomeIn (decimals 16) some_decimals
  pub ordered : Perm some_decimals (tenth ∷ whole ∷ null_type ∷ [])
  pub first : Ran 2 (tenth ∷ whole ∷ []) tenth
  pub second : Ran 0 (null_type ∷ []) null_type
  pub last : Ran 65536 (null_type ∷ tenth ∷ []) tenth
  pub is : (t : DataType) → Settles some_decimals t → t ≡ tenth
