-- The types that are known to leave a candidate as it is. Assumes nothing.
use mathlib.Core.Path.{◌≡◌, refl, ap, sym, subst, ◌∙◌}
use mathlib.Core.Bool.{Bool, true, false, cond, ◌&&◌}
use Rattle.std.specs.Prelude.{Some}
use mathlib.Core.Logic.{◌⊎◌, inl, inr, ⊎_elim}
use Prim.Native.Nat.{ℕ, ◌*◌, ◌/◌, ◌%◌, ◌^◌, ◌<◌, max}
use native.Mathlib.Decide.{ℕ_discrete}
use native.Mathlib.Nat.{zero-div}
use native.Mathlib.Omega.{arith}
use Rattle.std.proofs.lemmas.Nat.{pow_below}
use lib.Bits.{bit_or, or_shr, or_step}
use lib.Dec.{eqb}
use borrow.Author.Tests.{eq-eqb, ne_eqb, eqb-true}
use Rattle.sheet.proofs.Booleans.{and_fst, and_snd}
use Rattle.coercion.specs.Data.{may_become}
use Rattle.coercion.specs.Same.{same_type}
use Rattle.coercion.specs.Answers.{coercion}
use Rattle.coercion.proofs.Tables.{at2}
use Rattle.coercion.specs.declared.Rules.{Rules}
use Rattle.plain.specs.declared.value.PlainType.{PlainType}
use Rattle.plain.specs.Value.{type_of_plain, Joins}
use Rattle.plain.specs.Taken.{is_bare, taken_kinds}
use Rattle.plain.proofs.Valuing.{same_plain_types}

-- one bit, moved up
pub bit_moved : (k : ℕ) → k < 32 → 1 * 2 ^ k % 2 ^ 64 ≡ 2 ^ k
bit_moved k h = omega (arith, pow_below k 64 (omega arith))

abbrev one_if : Bool → ℕ
one_if b = cond b 1 0

-- one bit is no other
other : (j k : ℕ) → Bool
other j k = eqb (2 ^ j / 2 ^ k % 2) (one_if (eqb j k))

bit_other : (j k : ℕ) → j < 32 → k < 32 → 2 ^ j / 2 ^ k % 2 ≡ one_if (eqb j k)
unfolding other
bit_other j k h g = eqb-true _ _ (at2 other 32 refl j k h g)

bit_or_lem : (k a b : ℕ) → bit_or a b / 2 ^ k % 2 ≡ max (a / 2 ^ k % 2) (b / 2 ^ k % 2)
bit_or_lem k a b = ap (λ (x : ℕ). x % 2) (or_shr a b k) ∙ omega (arith, or_step (a / 2 ^ k) (b / 2 ^ k))

-- a kind of a set that got one more
one_more : (kinds j k : ℕ) → j < 32 → k < 32 → may_become (bit_or kinds (2 ^ j)) k ≡ true → (k ≡ j) ⊎ (may_become kinds k ≡ true)
one_more kinds j k h g e = go (ℕ_discrete k j)
  where
    go : Dec (k ≡ j) → (k ≡ j) ⊎ (may_become kinds k ≡ true)
    go (yes q) = inl q
    go (no q) = inr (eq-eqb (kinds / 2 ^ k % 2) 1 (omega (arith, eqb-true (bit_or kinds (2 ^ j) / 2 ^ k % 2) 1 e, bit_or_lem k kinds (2 ^ j), bit_other j k h g ∙ rest)))
      where
        rest : one_if (eqb j k) ≡ 0
        rest = ap one_if (ne_eqb j k (λ z. q (sym z)))

abbrev bare_type : ℕ → PlainType
bare_type k = record { kind = k; figure = 0; scale = 0; size = 0 }

pub bare_is : (x : PlainType) → is_bare x ≡ true → x ≡ bare_type x.kind
bare_is x h =
    let a = eqb-true x.figure 0 (and_fst (eqb x.figure 0) (eqb x.scale 0 && eqb x.size 0) h) in
    let r = and_snd (eqb x.figure 0) (eqb x.scale 0 && eqb x.size 0) h in
    let b = eqb-true x.scale 0 (and_fst (eqb x.scale 0) (eqb x.size 0) r) in
    let c = eqb-true x.size 0 (and_snd (eqb x.scale 0) (eqb x.size 0) r) in
    λ i. record { kind = x.kind; figure = a i; scale = b i; size = c i }

same_is : (x y : PlainType) → same_type true (type_of_plain x) (type_of_plain y) ≡ true → x ≡ y
same_is x y h =
    let t = same_plain_types x y true ∙ h in
    let r = and_snd (eqb x.kind y.kind) _ t in
    let q = and_snd (eqb x.figure y.figure) _ r in
    let a = eqb-true x.kind y.kind (and_fst _ _ t) in
    let b = eqb-true x.figure y.figure (and_fst _ _ r) in
    let c = eqb-true x.scale y.scale (and_fst _ _ q) in
    let d = eqb-true x.size y.size (and_snd (eqb x.scale y.scale) _ q) in
    λ i. record { kind = a i; figure = b i; scale = c i; size = d i }

-- the types of a set's kinds leave a candidate as it is
abbrev pub Absorbs : Rules → ℕ → PlainType → Type 0
Absorbs rules kinds c = (k : ℕ) → k < 32 → may_become kinds k ≡ true → Joins (coercion rules) (bare_type k) c (Some c)

pub absorbs_none : (rules : Rules) (c : PlainType) → Absorbs rules 0 c
absorbs_none rules c k h e = let z = eqb-true (0 / 2 ^ k % 2) 1 e in absurd (omega (arith, z, ap (λ (x : ℕ). x % 2) (zero-div (2 ^ k))))

module _ (rules : Rules) (kinds : ℕ) (x last next : PlainType) (low : x.kind < 32) (a : Absorbs rules kinds last) (j : Joins (coercion rules) x last (Some next)) where
  one_absorbed : last ≡ next → is_bare x ≡ true → Absorbs rules (bit_or kinds (2 ^ x.kind)) next
  one_absorbed e b k h m = ⊎_elim here there (one_more kinds x.kind k low h m)
    where
      here : k ≡ x.kind → Joins (coercion rules) (bare_type k) next (Some next)
      here q =
          subst (λ (c : PlainType). Joins (coercion rules) (bare_type k) c (Some next)) e
          (subst (λ (z : PlainType). Joins (coercion rules) z last (Some next)) (bare_is x b ∙ ap bare_type (sym q)) j)

      there : may_become kinds k ≡ true → Joins (coercion rules) (bare_type k) next (Some next)
      there q = subst (λ (c : PlainType). Joins (coercion rules) (bare_type k) c (Some c)) e (a k h q)

  pub absorbs_next : {r : ℕ} → r ≡ taken_kinds kinds x last next → Absorbs rules r next
  absorbs_next er = subst (λ (r : ℕ). Absorbs rules r next) (sym er) (go (same_type true (type_of_plain last) (type_of_plain next)) refl (is_bare x) refl)
    where
      go : (s : Bool) → same_type true (type_of_plain last) (type_of_plain next) ≡ s → (b : Bool) → is_bare x ≡ b → Absorbs rules (cond s (cond b (bit_or kinds (2 ^ x.kind)) kinds) 0) next
      go true es true eb = one_absorbed (same_is last next es) eb
      go true es false eb = subst (λ (c : PlainType). Absorbs rules kinds c) (same_is last next es) a
      go false es b eb = absorbs_none rules next
