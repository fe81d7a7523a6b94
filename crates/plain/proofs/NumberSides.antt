-- The number of a number and a string, and the string. Assumes nothing.
use mathlib.Core.Path.{◌≡◌, refl}
use mathlib.Core.Bool.{Bool, true, false, cond, ◌&&◌}
use Rattle.std.specs.Prelude.{None, Some}
use Rattle.sheet.specs.Kind.{is_numeric, is_string}
use Rattle.coercion.specs.Data.{DataType}
use Rattle.coercion.specs.Rules.{string_numeric_coercion, string_numeric_union_coercion}
use Rattle.coercion.specs.Meaning.{side_of}
use Rattle.coercion.specs.declared.Side.{Side}
use Rattle.plain.specs.Sides.{number_side}

pub number_kept : (l r : DataType) → side_of (number_side l.shape.kind r.shape.kind) l r ≡ string_numeric_coercion l r
unfolding string_numeric_coercion
number_kept l r = go (is_numeric l.shape.kind && is_string r.shape.kind) (is_string l.shape.kind && is_numeric r.shape.kind)
  where
    go : (a b : Bool) → side_of (cond a (Some Side.Left) (cond b (Some Side.Right) None)) l r ≡ cond a (Some l) (cond b (Some r) None)
    go true b = refl
    go false true = refl
    go false false = refl

pub string_kept : (l r : DataType) → side_of (number_side r.shape.kind l.shape.kind) l r ≡ string_numeric_union_coercion l r
unfolding string_numeric_union_coercion
string_kept l r = go (is_numeric r.shape.kind) (is_string l.shape.kind) (is_string r.shape.kind) (is_numeric l.shape.kind)
  where
    go : (a b c d : Bool) → side_of (cond (a && b) (Some Side.Left) (cond (c && d) (Some Side.Right) None)) l r ≡ cond (b && a) (Some l) (cond (d && c) (Some r) None)
    go true true c d = refl
    go true false true true = refl
    go true false true false = refl
    go true false false true = refl
    go true false false false = refl
    go false true true true = refl
    go false true true false = refl
    go false true false true = refl
    go false true false false = refl
    go false false true true = refl
    go false false true false = refl
    go false false false true = refl
    go false false false false = refl
