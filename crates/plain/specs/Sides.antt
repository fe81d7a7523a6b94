-- Which of two kinds is the number, where the other is a string.
use Rattle.std.specs.Prelude.{ℕ, cond, ◌&&◌, Option, None, Some}
use Rattle.sheet.specs.Kind.{is_numeric, is_string}
use Rattle.coercion.specs.declared.Side.{Side}

abbrev pub number_side : ℕ → ℕ → Option Side
number_side k j = cond (is_numeric k && is_string j) (Some Side.Left) (cond (is_string k && is_numeric j) (Some Side.Right) None)
