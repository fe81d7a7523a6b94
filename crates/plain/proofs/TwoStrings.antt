-- Two strings, by one computed test over their kinds. Assumes nothing.
use mathlib.Core.Path.{◌≡◌, refl, ap}
use mathlib.Core.Bool.{Bool, true, false, cond, ◌&&◌}
use Rattle.std.specs.Prelude.{Option, None, Some}
use Prim.Native.Nat.{ℕ, max}
use native.Mathlib.Omega.{arith}
use lib.Dec.{eqb, leb}
use borrow.Author.Tests.{eqb-true, le-leb}
use Rattle.sheet.specs.Booleans.{between}
use Rattle.sheet.proofs.Booleans.{never}
use Rattle.sheet.specs.Kind.{is_string}
use Rattle.coercion.specs.Strings.{string_coercion}
use Rattle.coercion.proofs.Ranked.{kind_from}
use Rattle.coercion.proofs.Tables.{below2, at2}

abbrev same : Option ℕ → ℕ → Bool
same None n = false
same (Some k) n = eqb k n

is_same : (o : Option ℕ) (n : ℕ) → same o n ≡ true → o ≡ Some n
is_same None n h = never h
is_same (Some k) n h = ap {B = Option ℕ} Some (eqb-true k n h)

abbrev right : ℕ → ℕ → Bool
right k j = cond (leb 25 k && leb 25 j) (same (string_coercion k j) (max k j)) true

tabled : below2 right 28 ≡ true
unfolding between string_coercion
tabled = refl

pub string_max : (k j : ℕ) → is_string k ≡ true → is_string j ≡ true → string_coercion k j ≡ Some (max k j)
string_max k j h e =
    let p = kind_from 25 27 k h in
    let q = kind_from 25 27 j e in
    is_same _ _ (rw (le-leb 25 k p.0, le-leb 25 j q.0) at (at2 right 28 tabled k j (omega (arith, p.1)) (omega (arith, q.1))))

pub no_strings : (k j : ℕ) → is_string k && is_string j ≡ false → string_coercion k j ≡ None
unfolding string_coercion
no_strings k j h = rw h
