-- The rules for types without parts.
use Rattle.std.specs.Prelude.{List, [], ◌∷◌}
use Rattle.std.specs.Prelude.{Option, None}
use Rattle.coercion.specs.Data.{DataType, first_of, figures_of, as_type}
use Rattle.coercion.specs.Strings.{string_coercion, binary_coercion}
use Rattle.coercion.specs.Times.{temporal_coercion_nonstrict_timezone}
use Rattle.coercion.specs.Numbers.{binary_numeric_coercion}
use Rattle.coercion.specs.Rules.{null_coercion, string_temporal_coercion}
use Rattle.coercion.specs.Answers.{of_kind_type, string_number}
use Rattle.coercion.specs.declared.Question.{Question}
use Rattle.coercion.specs.declared.Rules.{Rules}

-- `string_temporal_coercion`, of which a list knows nothing
abbrev pub string_time : Question → DataType → DataType → Option DataType
string_time Question.List l r = None
string_time Question.Union l r = string_temporal_coercion l r
string_time Question.Compare l r = string_temporal_coercion l r

-- what each rule for types without parts says, in the order in which they are tried
abbrev pub plain_answers : Rules → DataType → DataType → List (Option DataType)
plain_answers rules l r =
    as_type (binary_numeric_coercion (figures_of l) (figures_of r))
    ∷ temporal_coercion_nonstrict_timezone l r
    ∷ of_kind_type (string_coercion l.shape.kind r.shape.kind)
    ∷ null_coercion rules.mask l r
    ∷ string_number rules.question l r
    ∷ string_time rules.question l r
    ∷ of_kind_type (binary_coercion l.shape.kind r.shape.kind)
    ∷ []

-- the rules for types without parts
unfoldable pub plain_rules : Rules → DataType → DataType → Option DataType
plain_rules rules l r = first_of (plain_answers rules l r)
