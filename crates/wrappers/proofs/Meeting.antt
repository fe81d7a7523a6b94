-- Wrappers about a value and about Null: whichever of two that differ comes off first, the walk tells the same.
-- Assumes nothing.
use mathlib.Core.Path.{◌≡◌, refl, ap, sym, ◌∙◌}
use mathlib.Core.Bool.{Bool, true, false, cond, ◌&&◌, ◌||◌, or-true}
use mathlib.Core.List.{List, [], ◌∷◌}
use Prim.Native.Nat.{ℕ}
use lib.Dec.{eqb}
use borrow.Author.Tests.{eq-eqb, ne_eqb, eqb-false}
use Rattle.sheet.specs.declared.kind.TheConstants as Kind
use Rattle.sheet.proofs.Booleans.{never}
use Rattle.coercion.specs.Data.{may_become}
use Rattle.coercion.proofs.Maybe.{cond_when}
use Rattle.wrappers.specs.Ways.{allows, meets}

module _ (mask : ℕ) where
  none_met : (ns : List ℕ) → meets mask [] ns ≡ false
  unfolding meets
  none_met [] = refl
  none_met (n ∷ ns) = refl

  module _ (k n : ℕ) (ks ns : List ℕ) where
    -- two of a kind come off together
    meets_both : eqb k n ≡ true → meets mask (k ∷ ks) (n ∷ ns) ≡ meets mask ks ns
    unfolding meets
    meets_both e = rw e

    -- of two that differ, Null's comes off
    pub meets_off : eqb k n ≡ false → meets mask (k ∷ ks) (n ∷ ns) ≡ meets mask (k ∷ ks) ns
    unfolding meets
    meets_off e = rw e

  -- what is met with a wrapper more about Null is met without it
  less : (ns : List ℕ) → ((x : ℕ) (ks : List ℕ) → meets mask ks ns ≡ true → meets mask (x ∷ ks) ns ≡ true)
      → (ks : List ℕ) (n : ℕ) → meets mask ks (n ∷ ns) ≡ true → meets mask ks ns ≡ true
  less ns more [] n h = never (sym (none_met (n ∷ ns)) ∙ h)
  less ns more (k ∷ ks) n h = go (eqb k n) refl
    where
      go : (b : Bool) → eqb k n ≡ b → meets mask (k ∷ ks) ns ≡ true
      go true e = more k ks (sym (meets_both k n ks ns e) ∙ h)
      go false e = sym (meets_off k n ks ns e) ∙ h

  -- and with a wrapper more about the value
  more : (ns : List ℕ) (x : ℕ) (ks : List ℕ) → meets mask ks ns ≡ true → meets mask (x ∷ ks) ns ≡ true
  unfolding meets
  more [] x ks h = rw h (or-true (may_become mask x))
  more (n ∷ ns) x ks h =
      let left = less ns (more ns) ks n h in
      cond_when (λ b. b ≡ true) (eqb x n) (meets mask ks ns) (meets mask (x ∷ ks) ns) (λ e. left) (λ e. more ns x ks left)

  -- of two that differ, either may come off
  meets_cross : (k n : ℕ) (ks ns : List ℕ) → eqb k n ≡ false → meets mask (k ∷ ks) (n ∷ ns) ≡ meets mask ks (n ∷ ns) || meets mask (k ∷ ks) ns
  meets_cross k n ks ns e = meets_off k n ks ns e ∙ go (meets mask ks (n ∷ ns)) refl
    where
      go : (b : Bool) → meets mask ks (n ∷ ns) ≡ b → meets mask (k ∷ ks) ns ≡ b || meets mask (k ∷ ks) ns
      go true h = more ns k ks (less ns (more ns) ks n h)
      go false h = refl

  -- what the kinds of two cores and the wrappers about them tell, where neither is Null the answer for the cores
  unfoldable pub judged : Bool → ℕ → List ℕ → ℕ → List ℕ → Bool
  judged answer a ks b ns =
      cond (eqb a Kind.NULL) (cond (eqb b Kind.NULL) true (may_become mask b || meets mask ns ks))
      (cond (eqb b Kind.NULL) (may_become mask a || meets mask ks ns) answer)

  module _ (answer : Bool) (a : ℕ) (ks : List ℕ) (b : ℕ) (ns : List ℕ) where
    pub judged_turned : judged answer a ks b ns ≡ judged answer b ns a ks
    unfolding judged
    judged_turned = go (eqb a Kind.NULL) (eqb b Kind.NULL) _ _ _
      where
        go : (p q x y z : Bool) → cond p (cond q true x) (cond q y z) ≡ cond q (cond p true y) (cond p x z)
        go true true x y z = refl
        go true false x y z = refl
        go false true x y z = refl
        go false false x y z = refl

    pub judged_same : (k : ℕ) → judged answer a (k ∷ ks) b (k ∷ ns) ≡ judged answer a ks b ns
    unfolding judged
    judged_same k = rw (meets_both k k ks ns (eq-eqb k k refl), meets_both k k ns ks (eq-eqb k k refl))

    pub judged_cross : (k n : ℕ) → eqb k n ≡ false → judged answer a (k ∷ ks) b (n ∷ ns) ≡ judged answer a ks b (n ∷ ns) || judged answer a (k ∷ ks) b ns
    unfolding judged
    judged_cross k n e =
        rw (meets_cross k n ks ns e, meets_cross n k ns ks (ne_eqb n k (λ q. eqb-false k n e (sym q))))
        (go (eqb a Kind.NULL) (eqb b Kind.NULL) (may_become mask a) (may_become mask b) (meets mask ns (k ∷ ks)) (meets mask (n ∷ ns) ks) (meets mask ks (n ∷ ns)) _ answer)
      where
        twice : (u x y : Bool) → u || (x || y) ≡ (u || x) || (u || y)
        twice true x y = refl
        twice false x y = refl

        swapped : (u x y : Bool) → u || (x || y) ≡ (u || y) || (u || x)
        swapped true x y = refl
        swapped false true true = refl
        swapped false true false = refl
        swapped false false true = refl
        swapped false false false = refl

        go : (p q u v x y z w h : Bool)
            → cond p (cond q true (v || (x || y))) (cond q (u || (z || w)) h)
            ≡ cond p (cond q true (v || y)) (cond q (u || z) h) || cond p (cond q true (v || x)) (cond q (u || w) h)
        go true true u v x y z w h = refl
        go true false u v x y z w h = swapped v x y
        go false true u v x y z w h = twice u z w
        go false false u v x y z w true = refl
        go false false u v x y z w false = refl

    -- a wrapper less, where the other is its core
    pub judged_bare : (k : ℕ) → judged answer a (k ∷ ks) b [] ≡ judged answer a ks b [] || (eqb b Kind.NULL && may_become mask k)
    unfolding judged meets
    judged_bare k = rw (none_met ks) (go (eqb a Kind.NULL) (eqb b Kind.NULL) (may_become mask a) (may_become mask b) (may_become mask k) (allows mask ks) answer)
      where
        go : (p q u v x y h : Bool)
            → cond p (cond q true (v || false)) (cond q (u || (x || y)) h) ≡ cond p (cond q true (v || false)) (cond q (u || y) h) || (q && x)
        go true true u v x y h = refl
        go true false u true x y h = refl
        go true false u false x y h = refl
        go false true true v x y h = refl
        go false true false v true true h = refl
        go false true false v true false h = refl
        go false true false v false true h = refl
        go false true false v false false h = refl
        go false false u v x y true = refl
        go false false u v x y false = refl

  pub judged_core : (answer : Bool) (a b : ℕ) (ns : List ℕ) (k : ℕ) → judged answer a [] b (k ∷ ns) ≡ judged answer a [] b ns || (eqb a Kind.NULL && may_become mask k)
  judged_core answer a b ns k =
      judged_turned answer a [] b (k ∷ ns) ∙ judged_bare answer b ns a [] k
      ∙ ap (λ (t : Bool). t || (eqb a Kind.NULL && may_become mask k)) (judged_turned answer b ns a [])

  -- what wrappers and Nulls rule out, no answer for the cores brings back
  module _ (answer : Bool) (a : ℕ) (ks : List ℕ) (b : ℕ) (ns : List ℕ) where
    pub judged_refused : judged true a ks b ns ≡ false → judged answer a ks b ns ≡ false
    unfolding judged
    judged_refused = go (eqb a Kind.NULL) (eqb b Kind.NULL) _ _
      where
        go : (p q x y : Bool) → cond p (cond q true x) (cond q y true) ≡ false → cond p (cond q true x) (cond q y answer) ≡ false
        go true true x y h = h
        go true false x y h = h
        go false true x y h = h
        go false false x y h = never (sym h)

    -- and where they rule out nothing, the cores have none, whatever stands about them
    pub judged_spent : (is js : List ℕ) → judged true a ks b ns ≡ true → judged answer a ks b ns ≡ false → judged answer a is b js ≡ false
    unfolding judged
    judged_spent is js = go (eqb a Kind.NULL) (eqb b Kind.NULL) _ _ _ _
      where
        go : (p q x y z w : Bool) → cond p (cond q true x) (cond q y true) ≡ true → cond p (cond q true x) (cond q y answer) ≡ false
            → cond p (cond q true z) (cond q w answer) ≡ false
        go true true x y z w h g = g
        go true false x y z w h g = never (sym g ∙ h)
        go false true x y z w h g = never (sym g ∙ h)
        go false false x y z w h g = g
