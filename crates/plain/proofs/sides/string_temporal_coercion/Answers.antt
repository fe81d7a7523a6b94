use mathlib.Core.Path.{sym, ◌∙◌, ap}
use Rattle.sheet.specs.Kind.{is_string}
use Rattle.plain.proofs.Moments.{left_string, swapped_of}
use Rattle.plain.proofs.sides.string_temporal_coercion.Goals as goal

pub returns-then-is_string : goal.returns-then-is_string
returns-then-is_string c =
    λ l r e f g h. swapped_of _ _ c.map.ensures.cases l r ∙ c.time_of_string.ensures r l g h ∙ sym (left_string l r (ap is_string e ∙ sym c.is_string.ensures ∙ c.if-is_string.true))
