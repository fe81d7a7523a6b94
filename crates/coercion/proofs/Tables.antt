-- A fact of every number below n, or of every two or three of them, by one computed test. Assumes nothing.
use mathlib.Core.Path.{◌≡◌}
use mathlib.Core.Bool.{Bool, true, ◌&&◌}
use Prim.Native.Nat.{ℕ, zero, suc, ◌<◌}
use native.Mathlib.Decide.{ℕ_discrete}
use native.Mathlib.Omega.{arith}
use Rattle.sheet.proofs.Booleans.{and_fst, and_snd}

-- the test passes at each number below n
abbrev pub below : (ℕ → Bool) → ℕ → Bool
below test zero = true
below test (suc n) = test n && below test n

abbrev pub below2 : (ℕ → ℕ → Bool) → ℕ → Bool
below2 test n = below (λ i. below (λ j. test i j) n) n

abbrev pub below3 : (ℕ → ℕ → ℕ → Bool) → ℕ → Bool
below3 test n = below (λ i. below2 (λ j k. test i j k) n) n

pub at : (test : ℕ → Bool) (n : ℕ) → below test n ≡ true → (i : ℕ) → i < n → test i ≡ true
at test zero h i p = absurd (omega arith)
at test (suc n) h i p = go (ℕ_discrete i n) (at test n (and_snd (test n) (below test n) h) i)
  where
    go : Dec (i ≡ n) → (i < n → test i ≡ true) → test i ≡ true
    go (yes e) r = rw e (and_fst (test n) (below test n) h)
    go (no ne) r = r (omega arith)

pub at2 : (test : ℕ → ℕ → Bool) (n : ℕ) → below2 test n ≡ true → (i j : ℕ) → i < n → j < n → test i j ≡ true
at2 test n h i j p q = at (λ j. test i j) n (at (λ i. below (λ j. test i j) n) n h i p) j q

pub at3 : (test : ℕ → ℕ → ℕ → Bool) (n : ℕ) → below3 test n ≡ true → (i j k : ℕ) → i < n → j < n → k < n → test i j k ≡ true
at3 test n h i j k p q r = at2 (λ j k. test i j k) n (at (λ i. below2 (λ j k. test i j k) n) n h i p) j k q r
