-- Two kinds of which one or both are integers, by one computed test over them. Assumes nothing.
use mathlib.Core.Path.{◌≡◌, refl, sym, ◌∙◌}
use mathlib.Core.Bool.{Bool, true, false, cond, ◌&&◌, ◌||◌}
use Rattle.std.specs.Prelude.{Option, None, Some}
use Prim.Native.Nat.{ℕ, ◌-◌, ◌<◌, ◌≤◌, min, max}
use native.Mathlib.Omega.{arith}
use lib.Dec.{eqb, leb}
use borrow.Author.Tests.{eqb-true, eq-eqb, le-leb, lt-leb, ne_eqb}
use Rattle.sheet.specs.Booleans.{between}
use Rattle.sheet.specs.Kind.{is_decimal, is_integer}
use Rattle.sheet.proofs.Booleans.{never, and_fst, and_snd}
use Rattle.coercion.specs.Data.{or_else, of_kind}
use Rattle.coercion.specs.Numbers.{decimal, decimal_coercion, integer_coercion, numerical_coercion, same_figures}
use Rattle.coercion.specs.declared.Figures.{Figures}
use Rattle.coercion.proofs.Ranked.{kind_from}
use Rattle.coercion.proofs.Tables.{below, below2, at, at2}

-- the integer of the lesser and the greater of two kinds
abbrev wider : ℕ → ℕ → Figures
wider low high =
    cond (leb high 6 || leb 7 low) (of_kind high) (cond (eqb high 10) (decimal 16 20 128) (of_kind (max low (high - 3))))

abbrev same : Option Figures → Figures → Bool
same None g = false
same (Some f) g = same_figures f g

is_same : (o : Option Figures) (g : Figures) → same o g ≡ true → o ≡ Some g
is_same None g h = never h
is_same (Some f) g h =
    let rest = and_snd (eqb f.kind g.kind) _ h in
    let k = eqb-true f.kind g.kind (and_fst _ _ h) in
    let p = eqb-true f.figure g.figure (and_fst _ _ rest) in
    let s = eqb-true f.scale g.scale (and_snd (eqb f.figure g.figure) _ rest) in
    λ i. Some (record { kind = k i; figure = p i; scale = s i })

integer_in : (k : ℕ) → is_integer k ≡ true → (3 ≤ k) × (k ≤ 10)
integer_in k h = kind_from 3 10 k h

-- the test: two kinds below 11 that are integers
abbrev right : ℕ → ℕ → Bool
right k j = cond (leb 3 k && leb 3 j) (same (integer_coercion k j) (wider (min k j) (max k j))) true

tabled : below2 right 11 ≡ true
unfolding between
tabled = refl

integers : (k j : ℕ) → is_integer k && is_integer j ≡ true → integer_coercion k j ≡ Some (wider (min k j) (max k j))
integers k j h =
    let p = integer_in k (and_fst (is_integer k) (is_integer j) h) in
    let q = integer_in j (and_snd (is_integer k) (is_integer j) h) in
    is_same _ _ (rw (le-leb 3 k p.0, le-leb 3 j q.0) at (at2 right 11 tabled k j (omega (arith, p.1)) (omega (arith, q.1))))

module _ (k j : ℕ) (h : is_integer k && is_integer j ≡ true) where
  pub signed : max k j ≤ 6 → integer_coercion k j ≡ Some (of_kind (max k j))
  signed p = integers k j h ∙ rw (le-leb (max k j) 6 p)

  pub unsigned : 6 < max k j → 7 ≤ min k j → integer_coercion k j ≡ Some (of_kind (max k j))
  unsigned p q = integers k j h ∙ rw (lt-leb (max k j) 6 p, le-leb 7 (min k j) q)

  pub beyond : 6 < max k j → min k j < 7 → max k j ≡ 10 → integer_coercion k j ≡ Some (decimal 16 20 128)
  beyond p q e = integers k j h ∙ rw (lt-leb (max k j) 6 p, lt-leb 7 (min k j) q, eq-eqb (max k j) 10 e)

  pub mixed : 6 < max k j → min k j < 7 → ¬ (max k j ≡ 10) → integer_coercion k j ≡ Some (of_kind (max (min k j) (max k j - 3)))
  mixed p q e = integers k j h ∙ rw (lt-leb (max k j) 6 p, lt-leb 7 (min k j) q, ne_eqb (max k j) 10 e)

pub ruleset wider_integers = (signed, unsigned, beyond, mixed)

-- a kind that is no integer is none of some integers
no_integer : (j : ℕ) → is_integer j ≡ false → (3 ≤ j) × (j ≤ 10) → ⊥
unfolding between
no_integer j h p = never (sym h ∙ rw (le-leb 3 j p.0, le-leb j 10 p.1))

unlike : (i j : ℕ) → 3 ≤ i → i ≤ 10 → is_integer j ≡ false → eqb j i ≡ false
unlike i j p q h = ne_eqb j i (λ e. no_integer j h (omega arith, omega arith))

outside : (lo hi j : ℕ) → 3 ≤ lo → hi ≤ 10 → is_integer j ≡ false → between lo hi j ≡ false
outside lo hi j p q h = go (between lo hi j) refl
  where
    go : (b : Bool) → between lo hi j ≡ b → b ≡ false
    go false e = refl
    go true e = let r = kind_from lo hi j e in absurd (no_integer j h (omega (arith, r.0), omega (arith, r.1)))

-- so 0 may stand in its place
module _ (k j : ℕ) (h : is_integer j ≡ false) where
  none_beside : (integer_coercion k j ≡ integer_coercion k 0) × (integer_coercion j k ≡ integer_coercion 0 k)
  unfolding between
  none_beside =
      rw (
        unlike 3 j (omega arith) (omega arith) h,
        unlike 4 j (omega arith) (omega arith) h,
        unlike 5 j (omega arith) (omega arith) h,
        unlike 6 j (omega arith) (omega arith) h,
        unlike 7 j (omega arith) (omega arith) h,
        unlike 8 j (omega arith) (omega arith) h,
        unlike 9 j (omega arith) (omega arith) h,
        unlike 10 j (omega arith) (omega arith) h,
        outside 3 4 j (omega arith) (omega arith) h,
        outside 3 5 j (omega arith) (omega arith) h,
        outside 3 6 j (omega arith) (omega arith) h,
      ) (refl, refl)

abbrev alone : ℕ → Bool
alone k = cond (leb 3 k) (same (integer_coercion k 0) (of_kind k) && same (integer_coercion 0 k) (of_kind k)) true

alone_tabled : below alone 11 ≡ true
unfolding between
alone_tabled = refl

alone_at : (k : ℕ) → is_integer k ≡ true → same (integer_coercion k 0) (of_kind k) && same (integer_coercion 0 k) (of_kind k) ≡ true
alone_at k h =
    let p = integer_in k h in rw (le-leb 3 k p.0) at (at alone 11 alone_tabled k (omega (arith, p.1)))

module _ (k j : ℕ) where
  pub left_integer : is_integer k ≡ true → is_integer j ≡ false → integer_coercion k j ≡ Some (of_kind k)
  left_integer h e = (none_beside k j e).0 ∙ is_same _ _ (and_fst (same (integer_coercion k 0) (of_kind k)) _ (alone_at k h))

  pub right_integer : is_integer k ≡ false → is_integer j ≡ true → integer_coercion k j ≡ Some (of_kind j)
  right_integer e h = (none_beside j k e).1 ∙ is_same _ _ (and_snd (same (integer_coercion j 0) (of_kind j)) _ (alone_at j h))

  pub no_integers : is_integer k ≡ false → is_integer j ≡ false → integer_coercion k j ≡ None
  unfolding between
  no_integers h e = (none_beside k j e).0 ∙ (none_beside 0 k h).1

pub ruleset one_integer = (left_integer, right_integer, no_integers)

-- of two integers neither is a decimal or a float
pub integers_alone : (l r : Figures) → is_integer l.kind && is_integer r.kind ≡ true
    → or_else (decimal_coercion l r) (numerical_coercion l.kind r.kind) ≡ integer_coercion l.kind r.kind
unfolding decimal_coercion numerical_coercion is_decimal between
integers_alone l r h =
    let p = integer_in l.kind (and_fst (is_integer l.kind) (is_integer r.kind) h) in
    let q = integer_in r.kind (and_snd (is_integer l.kind) (is_integer r.kind) h) in
    rw (
      lt-leb 14 l.kind (omega arith),
      lt-leb 14 r.kind (omega arith),
      ne_eqb l.kind 13 (λ e. omega arith),
      ne_eqb r.kind 13 (λ e. omega arith),
      ne_eqb l.kind 12 (λ e. omega arith),
      ne_eqb r.kind 12 (λ e. omega arith),
      ne_eqb l.kind 11 (λ e. omega arith),
      ne_eqb r.kind 11 (λ e. omega arith),
    )
