-- The least-type theorem: one claim about every list of one family, every order of it and every cutting.
use Rattle.std.specs.Prelude.{◌≡◌, length, take}
use mathlib.Core.List.{List, [], ◌∷◌, Perm, flatten}
use Rattle.sheet.specs.Encode.{encode}
use Rattle.sheet.specs.Read.{read}
use Rattle.sheet.specs.Holds.{Plain}
use Rattle.coercion.specs.Data.{DataType, single, types_of}
use Rattle.coercion.specs.Families.{Family, Common, AllIn, SomeIn}
use Rattle.coercion.specs.declared.Question.{Question}
use Rattle.answers.specs.Call.{Call, refusal, written, outcome}

-- a list call on a sheet of these types; mask, output and work space are its own;
-- "The premise is that no call meets the condition of a refusal number."
pub record Asks (c : Call) (types : List DataType) : Type 0 where
  pub question : c.question ≡ Question.List
  pub bytes : Plain c.sheet
  pub unrefused : refusal c ≡ 0
  pub reads : types_of (read c.sheet) ≡ types

-- a call answers t: "The same answer is the same byte length that is reported and the same bytes of the one-type
-- sheet."
pub record Answers (c : Call) (t : DataType) : Type 0 where
  pub reply : (outcome c).reply ≡ written (length (encode (single t)))
  pub bytes : take (length (encode (single t))) (outcome c).output ≡ encode (single t)

-- the calls on the stretches, each with the type that it answers
pub data Calls : List (List DataType) → List DataType → Type 0 where
  end : Calls [] []
  call : {stretch : List DataType} {rest : List (List DataType)} {answer : DataType} {answers : List DataType}
      (c : Call) → Asks c stretch → Answers c answer → Calls rest answers → Calls (stretch ∷ rest) (answer ∷ answers)

-- "stretches that are not empty", from one to as many as there are types
abbrev pub NonEmpty : List (List DataType) → Type 0
NonEmpty [] = Unit
NonEmpty ([] ∷ css) = ⊥
NonEmpty ((t ∷ ts) ∷ css) = NonEmpty css

-- a call on each stretch answers a type
abbrev pub EachAnswers : List (List DataType) → Type 0
EachAnswers [] = Unit
EachAnswers (stretch ∷ rest) = ((c : Call) → Asks c stretch → (t : DataType) × Answers c t) × EachAnswers rest

-- What is claimed of a list `types` and its answer t, for each order of the list.
pub record Settles (types : List DataType) (t : DataType) : Type 0 where
  -- it is the answer "to a list call on the types in any order"
  pub in_any_order : (order : List DataType) → Perm types order → (c : Call) → Asks c order → Answers c t
  -- "wherever the types in any order are cut into stretches", "each stretch is answered by a list call of its own"
  pub in_stretches : (order : List DataType) → Perm types order → (cut : List (List DataType)) → flatten cut ≡ order → NonEmpty cut → EachAnswers cut
  -- and it is the answer "to a list call on the answers that the stretches got, in any order"
  pub again : (order : List DataType) → Perm types order → (cut : List (List DataType)) → flatten cut ≡ order → NonEmpty cut → (answers : List DataType)
      → Calls cut answers → (another : List DataType) → Perm answers another → (c : Call) → Asks c another → Answers c t

-- the least-type theorem, whole
abbrev pub LeastTypeTheorem : Type 0
LeastTypeTheorem = (f : Family) (types : List DataType) → AllIn f types → SomeIn f types → (t : DataType) × (Common f types t × Settles types t)

-- where a list is of two families, one type is the answer in both; as "A list of Decimal128(20,0) and Nulls alone fits
-- two families, and both say the same answer."
abbrev pub TwoFamilies : Type 0
TwoFamilies =
    (f g : Family) (types : List DataType) → AllIn f types → SomeIn f types → AllIn g types → SomeIn g types
    → (t : DataType) × (Common f types t × (Common g types t × Settles types t))
