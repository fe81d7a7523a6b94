-- The laws of the two rules for wrappers, which the function of src/laws.rt promises. Quotations are of docs/RULES.md.
use Rattle.std.specs.Prelude.{◌≡◌, true, false, None}
use Rattle.sheet.specs.Carried.{FieldsRight}
use Rattle.coercion.specs.Data.{DataType, single, or_else, is_list_question}
use Rattle.coercion.specs.Wrappers.{dictionary_coercion, ree_coercion, wrapper_coercion}
use Rattle.coercion.specs.Answers.{coercion}
use Rattle.coercion.specs.declared.Rules.{Rules}
use Rattle.wrappers.specs.Ways.{is_null_core}
use Rattle.wrappers.specs.Walks.{crosses, chosen_kind}

-- what is said of the union or comparison of two types that a sheet may carry
abbrev OfPairs : (Rules → DataType → DataType → Type 0) → Type 0
OfPairs P =
    (rules : Rules) → is_list_question rules.question ≡ false → (l r : DataType) → FieldsRight 0 (single l) → FieldsRight 0 (single r) → P rules l r

-- the rule of the one wrapper that `chosen_kind` names has the answer of both rules in turn
abbrev pub OneWay : Type 0
OneWay =
    OfPairs (λ rules l r. or_else (dictionary_coercion (coercion rules) l r) (ree_coercion (coercion rules) l r)
    ≡ wrapper_coercion (chosen_kind rules.mask l r) (coercion rules) l r)

-- "Where a Dictionary meets run ends and neither core is Null, or both are, the rule for Dictionaries answers wherever
-- the rule for run ends does"
abbrev pub DictionaryFirst : Type 0
DictionaryFirst =
    OfPairs (λ rules l r. crosses l r ≡ true → is_null_core l ≡ is_null_core r
    → dictionary_coercion (coercion rules) l r ≡ None → ree_coercion (coercion rules) l r ≡ None)
