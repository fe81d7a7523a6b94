-- The rules for binaries and for times in both orders of two kinds, by one computed test over the kinds that they
-- name. Assumes nothing.
use mathlib.Core.Path.{◌≡◌, refl, ap, sym, ◌∙◌}
use mathlib.Core.Bool.{Bool, true, false, ◌&&◌}
use Rattle.std.specs.Prelude.{Option, None, Some}
use Rattle.std.specs.Option.{option_or}
use Prim.Native.Nat.{ℕ, ◌≤◌}
use native.Mathlib.Omega.{arith}
use lib.Dec.{eqb, leb}
use borrow.Author.Tests.{eqb-true, le-leb, ne_eqb}
use Rattle.sheet.specs.Booleans.{between}
use Rattle.sheet.proofs.Booleans.{never, and_fst, and_snd}
use Rattle.coercion.specs.Strings.{binary_coercion}
use Rattle.coercion.specs.Times.{temporal_coercion}
use Rattle.coercion.specs.Numbers.{same_figures}
use Rattle.coercion.specs.declared.Figures.{Figures}
use Rattle.coercion.proofs.Ranked.{kind_from}
use Rattle.coercion.proofs.Tables.{below2, at2}
use Rattle.plain.specs.Ordered.{ordered_binary, ordered_temporal}

-- a test of some kinds, for a kind that is not among them
module _ (low high k : ℕ) (h : between low high k ≡ false) where
  out : (low ≤ k) × (k ≤ high) → ⊥
  unfolding between
  out p = never (sym h ∙ rw (le-leb low k p.0, le-leb k high p.1))

  none_is : (i : ℕ) → low ≤ i → i ≤ high → eqb k i ≡ false
  none_is i p q = ne_eqb k i (λ e. out (omega arith, omega arith))

  none_in : (a b : ℕ) → low ≤ a → b ≤ high → between a b k ≡ false
  none_in a b p q = go (between a b k) refl
    where
      go : (t : Bool) → between a b k ≡ t → t ≡ false
      go false e = refl
      go true e = let r = kind_from a b k e in absurd (out (omega (arith, r.0), omega (arith, r.1)))

  none_within : (a b : ℕ) → low ≤ a → b ≤ high → (leb a k && leb k b) ≡ false
  unfolding between
  none_within a b p q = none_in a b p q

abbrev same_kind : Option ℕ → Option ℕ → Bool
same_kind None None = true
same_kind None (Some j) = false
same_kind (Some k) None = false
same_kind (Some k) (Some j) = eqb k j

is_same_kind : (a b : Option ℕ) → same_kind a b ≡ true → a ≡ b
is_same_kind None None h = refl
is_same_kind None (Some j) h = never h
is_same_kind (Some k) None h = never h
is_same_kind (Some k) (Some j) h = ap {B = Option ℕ} Some (eqb-true k j h)

abbrev binary_right : ℕ → ℕ → Bool
binary_right k j = same_kind (option_or (ordered_binary k j) (ordered_binary j k)) (binary_coercion k j)

binary_tabled : below2 binary_right 32 ≡ true
unfolding between binary_coercion
binary_tabled = refl

-- another kind is to them as 0 is
module _ (k j : ℕ) (h : between 25 31 k ≡ false) where
  binary_none : (binary_right k j ≡ binary_right 0 j) × (binary_right j k ≡ binary_right j 0)
  unfolding between binary_coercion
  binary_none =
      rw (
        none_is 25 31 k h 25 (omega arith) (omega arith),
        none_is 25 31 k h 26 (omega arith) (omega arith),
        none_is 25 31 k h 27 (omega arith) (omega arith),
        none_is 25 31 k h 28 (omega arith) (omega arith),
        none_is 25 31 k h 29 (omega arith) (omega arith),
        none_is 25 31 k h 30 (omega arith) (omega arith),
        none_is 25 31 k h 31 (omega arith) (omega arith),
        none_within 25 31 k h 25 27 (omega arith) (omega arith),
        none_within 25 31 k h 25 29 (omega arith) (omega arith),
        none_within 25 31 k h 25 31 (omega arith) (omega arith),
        none_within 25 31 k h 26 27 (omega arith) (omega arith),
      ) (refl, refl)

pub binaries : (k j : ℕ) → option_or (ordered_binary k j) (ordered_binary j k) ≡ binary_coercion k j
binaries k j = is_same_kind _ _ (go (between 25 31 k) (between 25 31 j) refl refl)
  where
    go : (a b : Bool) → between 25 31 k ≡ a → between 25 31 j ≡ b → binary_right k j ≡ true
    go true true e f =
        let p = kind_from 25 31 k e in let q = kind_from 25 31 j f in at2 binary_right 32 binary_tabled k j (omega (arith, p.1)) (omega (arith, q.1))
    go true false e f =
        let p = kind_from 25 31 k e in (binary_none j k f).1 ∙ at2 binary_right 32 binary_tabled k 0 (omega (arith, p.1)) (omega arith)
    go false true e f =
        let q = kind_from 25 31 j f in (binary_none k j e).0 ∙ at2 binary_right 32 binary_tabled 0 j (omega arith) (omega (arith, q.1))
    go false false e f = (binary_none k j e).0 ∙ (binary_none j 0 f).1 ∙ at2 binary_right 32 binary_tabled 0 0 (omega arith) (omega arith)

abbrev same_time : Option Figures → Option Figures → Bool
same_time None None = true
same_time None (Some g) = false
same_time (Some f) None = false
same_time (Some f) (Some g) = same_figures f g

is_same_time : (a b : Option Figures) → same_time a b ≡ true → a ≡ b
is_same_time None None h = refl
is_same_time None (Some g) h = never h
is_same_time (Some f) None h = never h
is_same_time (Some f) (Some g) h =
    let rest = and_snd (eqb f.kind g.kind) _ h in
    let k = eqb-true f.kind g.kind (and_fst _ _ h) in
    let p = eqb-true f.figure g.figure (and_fst _ _ rest) in
    let s = eqb-true f.scale g.scale (and_snd (eqb f.figure g.figure) _ rest) in
    λ i. Some (record { kind = k i; figure = p i; scale = s i })

abbrev time_right : ℕ → ℕ → Bool
time_right k j = same_time (option_or (ordered_temporal k j) (ordered_temporal j k)) (temporal_coercion k j)

time_tabled : below2 time_right 25 ≡ true
unfolding between temporal_coercion
time_tabled = refl

module _ (k j : ℕ) (h : between 3 24 k ≡ false) where
  time_none : (time_right k j ≡ time_right 0 j) × (time_right j k ≡ time_right j 0)
  unfolding between temporal_coercion
  time_none =
      rw (
        none_is 3 24 k h 18 (omega arith) (omega arith),
        none_is 3 24 k h 19 (omega arith) (omega arith),
        none_is 3 24 k h 22 (omega arith) (omega arith),
        none_within 3 24 k h 3 10 (omega arith) (omega arith),
        none_within 3 24 k h 18 19 (omega arith) (omega arith),
        none_within 3 24 k h 20 21 (omega arith) (omega arith),
        none_within 3 24 k h 20 22 (omega arith) (omega arith),
        none_within 3 24 k h 23 24 (omega arith) (omega arith),
      ) (refl, refl)

pub times : (k j : ℕ) → option_or (ordered_temporal k j) (ordered_temporal j k) ≡ temporal_coercion k j
times k j = is_same_time _ _ (go (between 3 24 k) (between 3 24 j) refl refl)
  where
    go : (a b : Bool) → between 3 24 k ≡ a → between 3 24 j ≡ b → time_right k j ≡ true
    go true true e f =
        let p = kind_from 3 24 k e in let q = kind_from 3 24 j f in at2 time_right 25 time_tabled k j (omega (arith, p.1)) (omega (arith, q.1))
    go true false e f =
        let p = kind_from 3 24 k e in (time_none j k f).1 ∙ at2 time_right 25 time_tabled k 0 (omega (arith, p.1)) (omega arith)
    go false true e f =
        let q = kind_from 3 24 j f in (time_none k j e).0 ∙ at2 time_right 25 time_tabled 0 j (omega arith) (omega (arith, q.1))
    go false false e f = (time_none k j e).0 ∙ (time_none j 0 f).1 ∙ at2 time_right 25 time_tabled 0 0 (omega arith) (omega arith)
