-- An array that is filled place by place, and marks of the numbers that were met. Assumes nothing.
use mathlib.Core.Path.{◌≡◌, refl, ap, sym, ◌∙◌}
use mathlib.Core.Bool.{Bool, true, false}
use mathlib.Core.List.{List}
use Prim.Native.Nat.{ℕ, ◌+◌, ◌/◌, ◌<◌, ◌≤◌}
use native.Mathlib.Omega.{arith}
use lib.Dec.{eqb}
use lib.ListN.{length, length-take, take, get_or, set}
use lib.Seq.{get_or-set_same, get_or-set_other}
use borrow.Author.Tests.{eqb-true, eqb-false}
use borrow.Author.Count.{below_more}
use Rattle.std.specs.Prelude.{Option, None, Some, Ok}
use Rattle.std.proofs.lemmas.List.{get_or-take}
use Rattle.sheet.proofs.Booleans.{never}
use Rattle.refusals.specs.RepeatedNames.{First, FindsEqual}

-- an array that holds f below i, and one place more
pub filled_more : (f : ℕ → ℕ) (xs : List ℕ) (i x : ℕ) → i < length xs → x ≡ f i → ((j : ℕ) → j < i → get_or xs j 0 ≡ f j)
    → (j : ℕ) → j < i + 1 → get_or (set xs i x) j 0 ≡ f j
filled_more f xs i x h e p =
    below_more (λ j. get_or (set xs i x) j 0 ≡ f j) i
    (λ j l. get_or-set_other xs i j x 0 (λ q. omega arith) ∙ p j l)
    (get_or-set_same xs i x 0 h ∙ e)

-- the first k differ, and so do one more, where the next is none of them
pub differ_more : {A : Type 0} (f : ℕ → A) (k : ℕ) (x : A) → x ≡ f k → ((i : ℕ) → i < k → f i ≡ x → ⊥) → FindsEqual f k (Ok None) → FindsEqual f (k + 1) (Ok None)
differ_more f k x e n d a b l h q = go (eqb b k) refl
  where
    go : (c : Bool) → eqb b k ≡ c → ⊥
    go true g = let i : b ≡ k = eqb-true b k g in n a (omega arith) (q ∙ ap f i ∙ sym e)
    go false g = let i : b ≡ k → ⊥ = eqb-false b k g in d a b l (omega arith) q

-- the keys of the first i numbers are marked
abbrev pub Marked : List ℕ → List Bool → ℕ → Type 0
Marked xs marks i = (j : ℕ) → j < i → get_or marks (get_or xs j 0 / 524288) false ≡ true

-- a number whose key is not marked is none of those that were met
pub unmet : (xs : List ℕ) (marks : List Bool) (i x q : ℕ) → q ≡ x / 524288 → Marked xs marks i → get_or marks q false ≡ false
    → (k : ℕ) → k < i → get_or xs k 0 ≡ x → ⊥
unmet xs marks i x q e m f k l g = never (sym f ∙ ap (λ (a : ℕ). get_or marks a false) (e ∙ ap (λ (a : ℕ). a / 524288) (sym g)) ∙ m k l)

-- a number that was looked for among the first i and not found is none of them
pub unfound : (xs : List ℕ) (x i : ℕ) (r : Option ℕ) → i ≤ length xs → First (λ k. get_or (take i xs) k 0) x (length (take i xs)) r → r ≡ None
    → (k : ℕ) → k < i → get_or xs k 0 ≡ x → ⊥
unfound xs x i (Some j) h f e k l q = cc
unfound xs x i None h f e k l q = f k (omega (arith, length-take {A = ℕ})) (get_or-take i xs k 0 l ∙ q)

pub marked_more : (xs : List ℕ) (marks : List Bool) (i q : ℕ) → q < length marks → q ≡ get_or xs i 0 / 524288 → Marked xs marks i
    → Marked xs (set marks q true) (i + 1)
marked_more xs marks i q h e m =
    below_more (λ j. get_or (set marks q true) (get_or xs j 0 / 524288) false ≡ true) i (λ j l. kept (get_or xs j 0 / 524288) (m j l))
    (ap (λ (a : ℕ). get_or (set marks q true) a false) (sym e) ∙ get_or-set_same marks q true false h)
  where
    kept : (a : ℕ) → get_or marks a false ≡ true → get_or (set marks q true) a false ≡ true
    kept a p = go (eqb a q) refl
      where
        go : (c : Bool) → eqb a q ≡ c → get_or (set marks q true) a false ≡ true
        go true g = ap (λ (b : ℕ). get_or (set marks q true) b false) (eqb-true a q g) ∙ get_or-set_same marks q true false h
        go false g = get_or-set_other marks q a true false (eqb-false a q g) ∙ p
