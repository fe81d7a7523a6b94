-- In a list the later zone wins. Assumes nothing.
use mathlib.Core.Path.{refl}
use Rattle.sheet.specs.Booleans.{all_of, between}
use Rattle.sheet.specs.Kind.{is_decimal}
use Rattle.sheet.specs.Types.{arity, count}
use Rattle.sheet.specs.Names.{same_bytes}
use Rattle.coercion.specs.Data.{first_of}
use Rattle.coercion.specs.Numbers as Numbers
use Rattle.coercion.specs.Times as Times
use Rattle.coercion.specs.Strings as Strings
use Rattle.coercion.specs.Rules as Plain
use Rattle.coercion.specs.Same as Same
use Rattle.coercion.specs.Wrappers as Wrappers
use Rattle.coercion.specs.Nested as Nested
use Rattle.coercion.specs.Answers as Answers
use Rattle.coercion.specs.Answers.{type_union_resolution}
use Rattle.coercion.specs.Laws.{LaterZone}

pub later_zone_lem : LaterZone
unfolding all_of between is_decimal arity count same_bytes first_of Same.same_zone Same.same_shape Same.same_fields Same.same_type Wrappers.wrapper_coercion
    Numbers.binary_numeric_coercion Nested.list_coercion Nested.map_coercion Times.temporal_coercion_nonstrict_timezone Strings.string_coercion
    Strings.binary_coercion Plain.null_coercion Plain.string_numeric_coercion Answers.coerce_in Answers.coercion Answers.category_of Answers.has_category
    Answers.categories_in Answers.fold_from Answers.fold_types type_union_resolution
later_zone_lem rules = refl
