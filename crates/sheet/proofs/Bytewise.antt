-- Byte strings that are the same. Assumes nothing.
use mathlib.Core.Path.{◌≡◌, refl, ◌∙◌, ap, ap₂}
use mathlib.Core.Bool.{Bool, true, false, ◌&&◌}
use mathlib.Core.List.{List, [], ◌∷◌}
use Prim.Native.Nat.{ℕ, suc, ◌≤◌}
use lib.Dec.{eqb}
use lib.ListN.{length, drop, drop_of_length-le}
use borrow.Author.Tests.{eq-eqb, eqb-true}
use Rattle.sheet.specs.Names.{same_bytes}
use Rattle.sheet.proofs.Booleans.{and_fst, and_snd, never}

and_false : (b : Bool) → b && false ≡ false
and_false true = refl
and_false false = refl

-- strings are the same just where they are equal
pub same_self : (xs : List ℕ) → same_bytes xs xs ≡ true
unfolding same_bytes
same_self [] = refl
same_self (x ∷ xs) = rw (eq-eqb x x refl) (same_self xs)

pub same_equal : (xs ys : List ℕ) → same_bytes xs ys ≡ true → xs ≡ ys
unfolding same_bytes
same_equal [] [] h = refl
same_equal [] (y ∷ ys) h = never h
same_equal (x ∷ xs) [] h = never h
same_equal (x ∷ xs) (y ∷ ys) h =
    ap₂ ◌∷◌ (eqb-true x y (and_fst (eqb x y) _ h)) (same_equal xs ys (and_snd (eqb x y) _ h))

pub same_lengths : (xs ys : List ℕ) → (length xs ≡ length ys → ⊥) → same_bytes xs ys ≡ false
unfolding same_bytes
same_lengths [] [] n = absurd (n refl)
same_lengths [] (y ∷ ys) n = refl
same_lengths (x ∷ xs) [] n = refl
same_lengths (x ∷ xs) (y ∷ ys) n = ap (λ (b : Bool). eqb x y && b) (same_lengths xs ys (λ e. n (ap suc e))) ∙ and_false (eqb x y)

pub same_done : (a b : List ℕ) (i : ℕ) → length a ≤ i → length b ≤ i → same_bytes (drop i a) (drop i b) ≡ true
unfolding same_bytes
same_done a b i h k = ap₂ same_bytes (drop_of_length-le a {i = i} h) (drop_of_length-le b {i = i} k)
