-- Answers that may be missing: what holds of one if there is one. Assumes nothing.
use mathlib.Core.Path.{◌≡◌, refl, subst}
use mathlib.Core.Bool.{Bool, true, false, cond}
use mathlib.Core.List.{List, [], ◌∷◌}
use Rattle.std.specs.Prelude.{Option, None, Some}
use Rattle.coercion.specs.Data.{or_else, and_then, first_of}

-- one of two, by a test
pub cond_when {ℓ κ} : {A : Type ℓ} (P : A → Type κ) (b : Bool) (x y : A) → (b ≡ true → P x) → (b ≡ false → P y) → P (cond b x y)
cond_when P true x y h k = h refl
cond_when P false x y h k = k refl

pub cond_is {ℓ κ} : {A : Type ℓ} (P : A → Type κ) (b : Bool) (x y : A) → P x → P y → P (cond b x y)
cond_is P b x y h k = cond_when P b x y (λ e. h) (λ e. k)

-- P holds of the answer, if there is one
abbrev pub If {ℓ} : {A : Type 0} → (A → Type ℓ) → Option A → Type ℓ
If P None = Unit
If P (Some a) = P a

-- functions that agree where P holds
pub then_same : {A B : Type 0} (P : A → Type 0) (o : Option A) (f g : A → Option B) → If P o → ((a : A) → P a → f a ≡ g a) → and_then o f ≡ and_then o g
then_same P None f g h k = refl
then_same P (Some a) f g h k = k a h

-- what holds of what is made of an answer
pub if_then {ℓ} : {A B : Type 0} (P : A → Type 0) (Q : B → Type ℓ) (o : Option A) (f : A → Option B) → If P o → ((a : A) → P a → If Q (f a)) → If Q (and_then o f)
if_then P Q None f h k = tt
if_then P Q (Some a) f h k = k a h

pub if_cond {ℓ} : {A : Type 0} (P : A → Type ℓ) (b : Bool) (x y : Option A) → (b ≡ true → If P x) → (b ≡ false → If P y) → If P (cond b x y)
if_cond P b x y h k = cond_when (If P) b x y h k

pub if_else {ℓ} : {A : Type 0} (P : A → Type ℓ) (x y : Option A) → If P x → If P y → If P (or_else x y)
if_else P None y h k = k
if_else P (Some a) y h k = h

infixr 20 ◌also◌
-- P holds of each answer of a list that is there
pub data IfAll {ℓ} {A : Type 0} (P : A → Type ℓ) : List (Option A) → Type ℓ where
  done : IfAll P []
  ◌also◌ : {o : Option A} {os : List (Option A)} → If P o → IfAll P os → IfAll P (o ∷ os)

pub if_first {ℓ} : {A : Type 0} (P : A → Type ℓ) (os : List (Option A)) → IfAll P os → If P (first_of os)
unfolding first_of
if_first P [] done = tt
if_first P (o ∷ os) (h also hs) = if_else P o (first_of os) h (if_first P os hs)

-- P of an answer that is there
pub if_some {ℓ} : {A : Type 0} (P : A → Type ℓ) (o : Option A) (a : A) → If P o → o ≡ Some a → P a
if_some P o a h e = subst (λ x. If P x) e h

-- what holds of every answer
pub if_weak {ℓ κ} : {A : Type 0} (P : A → Type ℓ) (Q : A → Type κ) (o : Option A) → If P o → ((a : A) → P a → Q a) → If Q o
if_weak P Q None h k = tt
if_weak P Q (Some a) h k = k a h

pub if_both {ℓ κ} : {A : Type 0} (P : A → Type ℓ) (Q : A → Type κ) (o : Option A) → If P o → If Q o → If (λ a. P a × Q a) o
if_both P Q None h k = tt
if_both P Q (Some a) h k = (h, k)
