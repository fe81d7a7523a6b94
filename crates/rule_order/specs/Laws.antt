-- The law of the order of the rules, which the function of src/laws.rt promises.
use Rattle.std.specs.Prelude.{◌≡◌, true, cond, ◌&&◌, Option, Some}
use Rattle.sheet.specs.declared.kind.TheConstants as Kind
use Rattle.coercion.specs.Data.{DataType, is_list_question}
use Rattle.coercion.specs.Same.{same_type}
use Rattle.coercion.specs.Wrappers.{is_of}
use Rattle.coercion.specs.Nested.{map_coercion}
use Rattle.coercion.specs.Answers.{ask}
use Rattle.coercion.specs.declared.Rules.{Rules}
use Rattle.rule_order.specs.Order.{map_rule, turns_of}

-- What a question asks of two types is, where they are not equal (list) or alike (union and compare), what the merge's
-- order of the rules asks.
abbrev pub SameAnswers : Type 0
SameAnswers =
    (rules : Rules) (coerce : DataType → DataType → Option DataType) (l r : DataType)
    → ask rules.question rules coerce l r ≡ cond (same_type (is_list_question rules.question) l r) (Some l) (turns_of rules coerce l r)

-- and the rule for two maps, by their entries, is the source's
abbrev pub SameMaps : Type 0
SameMaps =
    (coerce : DataType → DataType → Option DataType) (l r : DataType) → (is_of Kind.MAP l && is_of Kind.MAP r) ≡ true
    → map_rule coerce l r ≡ map_coercion coerce l r
