-- Laws of the rules for types without parts.
use Rattle.std.specs.Prelude.{◌≡◌, ℕ, ◌<◌, Bool, true, cond, ◌&&◌, ◌||◌, get_or, eqb}
use Rattle.std.specs.Prelude.{None, Some}
use Rattle.sheet.specs.Booleans.{between}
use Rattle.sheet.specs.declared.kind.TheConstants as Kind
use Rattle.sheet.specs.Kind.{is_kind, is_numeric, is_string}
use Rattle.coercion.specs.Data.{DataType, is_list_question}
use Rattle.coercion.specs.Same.{same_type}
use Rattle.coercion.specs.Answers.{coercion}
use Rattle.coercion.specs.declared.Rules.{Rules}
use Rattle.plain.specs.Plain.{plain_answers, plain_rules}

-- Date, Time, Timestamp, Interval or Duration
abbrev pub is_timed : ℕ → Bool
is_timed k = between Kind.DATE32 Kind.DURATION k

-- the place, from 0 on, of the one rule for types without parts that two kinds pick
abbrev pub picked : ℕ → ℕ → ℕ
picked k j =
    cond (is_numeric k && is_numeric j) 0
    (cond (eqb k Kind.NULL || eqb j Kind.NULL) 3
    (cond (is_string k && is_string j) 2
    (cond ((is_string k || is_string j) && (is_numeric k || is_numeric j)) 4
    (cond ((is_string k || is_string j) && (is_timed k || is_timed j)) 5
    (cond (is_timed k || is_timed j) 1 6)))))

-- the rule that two kinds pick has the answer of all of them, tried in turn
abbrev pub PickedRule : Type 0
PickedRule =
    (rules : Rules) (l r : DataType) → is_kind l.shape.kind ≡ true → is_kind r.shape.kind ≡ true
    → get_or (plain_answers rules l r) (picked l.shape.kind r.shape.kind) None ≡ plain_rules rules l r

-- the common type of two types of kinds without parts: the left where the two are the same, with names in a list, and
-- else what the rules for types without parts say
abbrev pub PlainAnswer : Type 0
PlainAnswer =
    (rules : Rules) (l r : DataType) → l.shape.kind < Kind.LIST → r.shape.kind < Kind.LIST
    → coercion rules l r ≡ cond (same_type (is_list_question rules.question) l r) (Some l) (plain_rules rules l r)
