-- The refusal number is the lowest of the conditions that are met. Assumes nothing.
use mathlib.Core.Path.{◌≡◌, refl}
use mathlib.Core.Bool.{Bool, true, false, cond}
use mathlib.Core.List.{List, [], ◌∷◌}
use Prim.Native.Nat.{ℕ, ◌<◌, ◌≤◌}
use native.Mathlib.Omega.{arith}
use Rattle.sheet.specs.Refusals.{Condition, conditions, first_met, refusal}
use Rattle.sheet.specs.Laws.{Applies, here, later, Lowest}

-- numbers that rise, from above one
abbrev pub From : ℕ → List Condition → Type 0
From n [] = Unit
From n (c ∷ cs) = (n < c.number) × From c.number cs

pub above : {k : ℕ} (n : ℕ) (cs : List Condition) → From n cs → Applies cs k → n < k
above n [] f a = elim a [ ]
above n (c ∷ cs) f (here e) = f.0
above n (c ∷ cs) f (later a) = omega (arith, f.0, above c.number cs f.1 a)

pub least : {k : ℕ} (n : ℕ) (cs : List Condition) → From n cs → Applies cs k → first_met cs ≤ k
least n [] f a = elim a [ ]
least {k} n (c ∷ cs) f (here e) = let g : first_met (c ∷ cs) ≡ c.number = rw e in omega arith
least {k} n (c ∷ cs) f (later a) = go c.met (least c.number cs f.1 a)
  where
    go : (b : Bool) → first_met cs ≤ k → cond b c.number (first_met cs) ≤ k
    go true h = omega (arith, above c.number cs f.1 a)
    go false h = h

-- a condition that applies makes the number of the first that is met one of them
pub some : {k : ℕ} (n : ℕ) (cs : List Condition) → From n cs → Applies cs k → n < first_met cs
some n [] f a = elim a [ ]
some n (c ∷ cs) f (here e) = let g : first_met (c ∷ cs) ≡ c.number = rw e in omega (arith, f.0)
some n (c ∷ cs) f (later a) = go c.met (some c.number cs f.1 a)
  where
    go : (b : Bool) → c.number < first_met cs → n < cond b c.number (first_met cs)
    go true h = f.0
    go false h = omega (arith, f.0, h)

pub found : (n : ℕ) (cs : List Condition) → From n cs → 0 < first_met cs → Applies cs (first_met cs)
found n [] f h = absurd (omega arith)
found n (c ∷ cs) f h = go c.met refl h (found c.number cs f.1)
  where
    go : (b : Bool) → c.met ≡ b → 0 < cond b c.number (first_met cs) → (0 < first_met cs → Applies cs (first_met cs)) → Applies (c ∷ cs) (cond b c.number (first_met cs))
    go true e h a = here e
    go false e h a = later (a h)

rising : (s : List ℕ) → From 0 (conditions s)
rising s = (omega arith, (omega arith, (omega arith, (omega arith, (omega arith, tt)))))

-- the refusal number is that of a condition that is met, and no condition with a lower number is
pub lowest : Lowest
unfolding refusal
lowest s =
    let cs = conditions s in
    let r = rising s in
    (found 0 cs r, λ k a. (some 0 cs r a, least 0 cs r a))
