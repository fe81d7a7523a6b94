-- A call, whatever it asks.
use Rattle.std.specs.Prelude.{◌≡◌, ℕ, ◌≤◌, Bool, true, cond, List, [], ◌∷◌, ◌++◌, map, length, eqb, Option, Some, Result, Ok, Err}
use Rattle.sheet.specs.Types.{Fields, count, labels}
use Rattle.sheet.specs.Read.{read}
use Rattle.sheet.specs.Names.{names_differ}
use Rattle.sheet.specs.Refusals.{Condition, first_met}
use Rattle.sheet.specs.Refusals as Sheet
use Rattle.coercion.specs.Data.{DataType, single, types_of}
use Rattle.coercion.specs.Answers.{answer_of}
use Rattle.coercion.specs.declared.Rules.{Rules}
use Rattle.answers.specs.Call.{bad_mask, bad_pair, bad_space, refused, Outcome, answered}
use Rattle.answers.specs.Code.{number_of}
use Rattle.answers.specs.declared.Refusal.{Refusal}

-- a refusal, and whether its condition is met
pub record Cause : Type 0 where
  pub refusal : Refusal
  pub met : Bool

-- the refusal of the first cause that is met
abbrev pub first_refusal : List Cause → Result Unit Refusal
first_refusal [] = Ok tt
first_refusal (x ∷ xs) = cond x.met (Err x.refusal) (first_refusal xs)

-- what is asked of an accepted sheet: the null mask, the causes of refusal that the call has of its own, and the answer
-- to the listed types
pub record Terms : Type 0 where
  pub mask : ℕ
  pub causes : List ℕ → List Cause
  pub answer : List DataType → Option DataType

-- 6 mask, the causes of its own and 8 space, in the order in which they are tried
abbrev pub later_causes : Terms → List ℕ → List ℕ → List ℕ → List Cause
later_causes terms sheet output work =
    record { refusal = Refusal.Mask; met = bad_mask terms.mask }
    ∷ (terms.causes sheet ++ (record { refusal = Refusal.Space; met = bad_space sheet output work } ∷ []))

abbrev pub condition_of : Cause → Condition
condition_of x = record { number = number_of x.refusal; met = x.met }

-- the refusal number of a call, 0 where it is answered
abbrev pub refusal_under : Terms → List ℕ → List ℕ → List ℕ → ℕ
refusal_under terms sheet output work =
    first_met (Sheet.conditions sheet ++ map condition_of (later_causes terms sheet output work))

-- everything that can be seen after a call
unfoldable pub outcome_under : Terms → List ℕ → List ℕ → List ℕ → Outcome
outcome_under terms sheet output work =
    cond (eqb (refusal_under terms sheet output work) 0)
    (answered sheet output work (terms.answer (types_of (read sheet))))
    (record { reply = refused (refusal_under terms sheet output work); output = output; work = work })

-- an answer has no more records, and no more label bytes, than the types that it answers
pub record NoLarger (answer : List DataType → Option DataType) : Type 0 where
  pub records : (types : Fields) (t : DataType) → names_differ types ≡ true → answer (types_of types) ≡ Some t
      → count (single t) ≤ count types
  pub letters : (types : Fields) (t : DataType) → names_differ types ≡ true → answer (types_of types) ≡ Some t
      → length (labels (single t)) ≤ length (labels types)

-- the terms of the three calls
abbrev pub terms_of : Rules → Terms
terms_of rules =
    record {
      mask = rules.mask;
      causes = λ sheet. record { refusal = Refusal.Pair; met = bad_pair rules.question sheet } ∷ [];
      answer = answer_of rules.question rules;
    }
