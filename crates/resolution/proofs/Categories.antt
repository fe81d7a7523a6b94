-- The bits of kinds; and a category that has none is Unknown, of a string or Null. Assumes nothing.
use mathlib.Core.Path.{◌≡◌, refl}
use mathlib.Core.Bool.{Bool, true, false, cond, not, ◌||◌}
use Prim.Native.Nat.{ℕ, ◌<◌, ◌≤◌}
use native.Mathlib.Omega.{arith}
use lib.Dec.{eqb, leb}
use borrow.Author.Tests.{eqb-true, le-leb}
use Rattle.sheet.specs.Booleans.{between}
use Rattle.sheet.specs.Kind.{is_numeric, is_string, is_date, is_time, is_span, is_list}
use Rattle.coercion.specs.Answers.{array, boolean, numeric, dateTime, composite, unknown, notSupported, own_category}
use Rattle.coercion.specs.Meaning.{category_bit, is_supported}
use Rattle.coercion.proofs.Tables.{below, at}

-- the bit of each kind of a range, by one computed test
abbrev in_range : ℕ → ℕ → ℕ → Bool
in_range low bit k = cond (leb low k) (eqb (category_bit (own_category k)) bit) true

of_range : (low bit high k : ℕ) → below (in_range low bit) high ≡ true → low ≤ k → k < high → category_bit (own_category k) ≡ bit
of_range low bit high k t h e = eqb-true _ _ (rw (le-leb low k h) at (at (in_range low bit) high t k e))

module _ (k : ℕ) where
  pub lists : 32 ≤ k → k < 35 → category_bit (own_category k) ≡ 1
  unfolding between
  lists h e = of_range 32 1 35 k refl h e

  pub booleans : k ≡ 2 → category_bit (own_category k) ≡ 2
  unfolding between
  booleans e = rw e

  pub numbers : 3 ≤ k → k < 18 → category_bit (own_category k) ≡ 4
  unfolding between
  numbers h e = of_range 3 4 18 k refl h e

  pub times : 18 ≤ k → k < 25 → category_bit (own_category k) ≡ 8
  unfolding between
  times h e = of_range 18 8 25 k refl h e

  pub composites : 35 ≤ k → k < 37 → category_bit (own_category k) ≡ 16
  unfolding between
  composites h e = of_range 35 16 37 k refl h e

  pub nulls : k < 2 → category_bit (own_category k) ≡ 0
  unfolding between
  nulls e = of_range 0 0 2 k refl (omega arith) e

  pub strings : 25 ≤ k → k < 32 → category_bit (own_category k) ≡ 0
  unfolding between
  strings h e = of_range 25 0 32 k refl h e

  pub others : 37 ≤ k → k < 256 → category_bit (own_category k) ≡ 0
  unfolding between
  others h e = of_range 37 0 256 k refl h e

pub ruleset kind_bits = (lists, booleans, numbers, times, composites, nulls, strings, others)

pub supported : (k : ℕ) → ((not (eqb (category_bit (own_category k)) 0) || is_string k) || eqb k 1) ≡ is_supported (own_category k)
supported k =
    go (is_numeric k) (eqb k 2) (is_list k) (is_string k) (eqb k 1) (is_date k || (is_time k || (eqb k 22 || is_span k))) (eqb k 35 || eqb k 36)
  where
    go : (n b l s u d c : Bool)
        → let t = cond n numeric (cond b boolean (cond l array (cond (s || u) unknown (cond d dateTime (cond c composite notSupported))))) in
        ((not (eqb (category_bit t) 0) || s) || u) ≡ is_supported t
    go true b l s u d c = refl
    go false true l s u d c = refl
    go false false true s u d c = refl
    go false false false true u d c = refl
    go false false false false true d c = refl
    go false false false false false true c = refl
    go false false false false false false true = refl
    go false false false false false false false = refl
