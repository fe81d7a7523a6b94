-- Laws of the record at which two types first differ. Assumes nothing.
use mathlib.Core.Path.{◌≡◌, refl, ap, sym, ◌∙◌}
use mathlib.Core.Bool.{Bool, true, false, cond, ◌&&◌, beq}
use mathlib.Core.List.{List, [], ◌∷◌}
use mathlib.Core.Logic.{◌⊎◌, inl, inr}
use Prim.Native.Nat.{ℕ, ◌+◌, ◌<◌, ◌≤◌}
use native.Mathlib.Omega.{arith}
use lib.Dec.{eqb}
use borrow.Author.Tests.{ne_eqb, eqb-true, eqb-false}
use Rattle.sheet.specs.Booleans.{all_of, implies}
use Rattle.sheet.specs.Types.{Shape, Fields, end, field, count}
use Rattle.sheet.specs.Encode.{link_to}
use Rattle.sheet.specs.Names.{same_bytes}
use Rattle.sheet.proofs.Booleans.{and_true, all_at}
use Rattle.coercion.specs.Data.{DataType}
use Rattle.coercion.specs.Same.{same_shape, same_fields, same_type}
use Rattle.buffers.specs.Source.{type_of}
use Rattle.buffers.specs.Differ.{first_of, fields_differ, type_differs}

first_none : (d e : ℕ) (u v : Bool) → eqb d 0 ≡ u → eqb e 0 ≡ v → eqb (first_of d e) 0 ≡ (u && (v && true))
first_none d e true v p q = rw p (q ∙ sym (and_true v))
first_none d e false v p q = rw p p

-- a chain by the link to it
pub from_link : (named : Bool) (up : ℕ) {link : ℕ} (i : ℕ) (a b : Fields) → link ≡ link_to i a → fields_differ named up link a b ≡ fields_differ named up i a b
unfolding fields_differ
from_link named up i end end e = refl
from_link named up i end (field n c s p q) e = refl
from_link named up i (field n c s p q) b e = ap (λ (k : ℕ). fields_differ named up k (field n c s p q) b) e

module _ (named : Bool) where
  -- two chains that differ at no record are the same
  fields_same : (up i : ℕ) (a b : Fields) → 0 < up → 0 < i → eqb (fields_differ named up i a b) 0 ≡ same_fields named a b
  unfolding fields_differ same_fields all_of
  fields_same up i end end hu hi = refl
  fields_same up i end (field n c s p q) hu hi = ne_eqb up 0 (λ e. omega arith)
  fields_same up i (field n c s p q) end hu hi = ne_eqb up 0 (λ e. omega arith)
  fields_same up i (field n c s p q) (field n' c' s' p' q') hu hi =
      go (implies named (same_bytes n n')) (beq c c') (same_shape s s') (fields_differ named i (i + 1) p p') (fields_differ named up (i + 1 + count p) q q')
      (fields_same i (i + 1) p p' hi (omega arith)) (fields_same up (i + 1 + count p) q q' hu (omega arith))
    where
      none : eqb i 0 ≡ false
      none = ne_eqb i 0 (λ e. omega arith)

      go : (x y z : Bool) (d e : ℕ) {u v : Bool} → eqb d 0 ≡ u → eqb e 0 ≡ v
          → eqb (cond (x && (y && (z && true))) (first_of d e) i) 0 ≡ (x && (y && (z && (u && (v && true)))))
      go false y z d e f g = none
      go true false z d e f g = none
      go true true false d e f g = none
      go true true true d e {u} {v} f g = first_none d e u v f g

  pub type_same : (i : ℕ) (x y : DataType) → 0 < i → eqb (type_differs named i x y) 0 ≡ same_type named x y
  unfolding type_differs same_type
  type_same i x y h = go (same_shape x.shape y.shape)
    where
      go : (b : Bool) → eqb (cond b (fields_differ named i (i + 1) x.parts y.parts) i) 0 ≡ (b && same_fields named x.parts y.parts)
      go true = fields_same i (i + 1) x.parts y.parts h (omega arith)
      go false = ne_eqb i 0 (λ e. omega arith)

  -- the record is none, the one whose parts the chains are, or one of the first chain
  abbrev Within : ℕ → ℕ → Fields → ℕ → Type 0
  Within up i a d = (d ≡ 0) ⊎ ((d ≡ up) ⊎ ((i ≤ d) × (d < i + count a)))

  pub fields_within : (up i : ℕ) (a b : Fields) → Within up i a (fields_differ named up i a b)
  unfolding fields_differ count
  fields_within up i end end = inl refl
  fields_within up i end (field n c s p q) = inr (inl refl)
  fields_within up i (field n c s p q) end = inr (inl refl)
  fields_within up i (field n c s p q) (field n' c' s' p' q') =
      go (all_of (implies named (same_bytes n n') ∷ beq c c' ∷ same_shape s s' ∷ [])) (fields_within i (i + 1) p p') (fields_within up (i + 1 + count p) q q')
    where
      parts : (b : Bool) {d e : ℕ} → eqb d 0 ≡ b → Within i (i + 1) p d → Within up (i + 1 + count p) q e → Within up i (field n c s p q) (cond b e d)
      parts true h u (inl e) = inl e
      parts true h u (inr (inl e)) = inr (inl e)
      parts true h u (inr (inr e)) = inr (inr (omega arith, omega arith))
      parts false h (inl e) v = absurd (eqb-false _ _ h e)
      parts false h (inr (inl e)) v = inr (inr (omega arith, omega arith))
      parts false h (inr (inr e)) v = inr (inr (omega arith, omega arith))

      go : (own : Bool) {d e : ℕ} → Within i (i + 1) p d → Within up (i + 1 + count p) q e → Within up i (field n c s p q) (cond own (first_of d e) i)
      go true {d} u v = parts (eqb d 0) refl u v
      go false u v = inr (inr (omega arith, omega arith))

  -- two chains that differ at a record of the first do so whatever record has them for parts
  rows_differ : (up i : ℕ) (a b : Fields) → up < i → i ≤ fields_differ named up i a b → fields_differ named 0 i a b ≡ fields_differ named up i a b
  unfolding fields_differ
  rows_differ up i end end h le = refl
  rows_differ up i end (field n c s p q) h le = absurd (omega arith)
  rows_differ up i (field n c s p q) end h le = absurd (omega arith)
  rows_differ up i (field n c s p q) (field n' c' s' p' q') h le =
      go (all_of (implies named (same_bytes n n') ∷ beq c c' ∷ same_shape s s' ∷ [])) (eqb (fields_differ named i (i + 1) p p') 0) _ _ _ le (fields_within up (i + 1 + count p) q q')
      (rows_differ up (i + 1 + count p) q q' (omega arith))
    where
      go : (own b : Bool) (d e e₀ : ℕ) → i ≤ cond own (cond b e d) i → Within up (i + 1 + count p) q e → (i + 1 + count p ≤ e → e₀ ≡ e) → cond own (cond b e₀ d) i ≡ cond own (cond b e d) i
      go false b d e e₀ le w f = refl
      go true false d e e₀ le w f = refl
      go true true d e e₀ le (inl z) f = absurd (omega arith)
      go true true d e e₀ le (inr (inl z)) f = absurd (omega arith)
      go true true d e e₀ le (inr (inr z)) f = f z.0

  -- two types that differ within their parts
  pub parts_differ : (i d : ℕ) (x y : DataType) → type_differs named i x y ≡ d → i < d → fields_differ named 0 (i + 1) x.parts y.parts ≡ d
  unfolding type_differs
  parts_differ i d x y e lt = go (same_shape x.shape y.shape) e
    where
      go : (b : Bool) → cond b (fields_differ named i (i + 1) x.parts y.parts) i ≡ d → fields_differ named 0 (i + 1) x.parts y.parts ≡ d
      go true e = rows_differ i (i + 1) x.parts y.parts (omega arith) (omega arith) ∙ e
      go false e = absurd (omega arith)

  -- two rows, of which the first begins at record i
  module _ (i d : ℕ) (name : List ℕ) (nullable : Bool) (shape : Shape) (parts rest : Fields) (name' : List ℕ) (nullable' : Bool) (shape' : Shape) (parts' rest' : Fields)
      (e : fields_differ named 0 i (field name nullable shape parts rest) (field name' nullable' shape' parts' rest') ≡ d) (past : i < d) where
    abbrev tests : List Bool
    tests = implies named (same_bytes name name') ∷ beq nullable nullable' ∷ same_shape shape shape' ∷ []

    -- a difference past the record of the first row: its name is that of the other, where names count
    pub row_named : implies named (same_bytes name name') ≡ true
    unfolding fields_differ
    row_named = go (all_of tests) _ refl e
      where
        go : (own : Bool) (p : ℕ) → all_of tests ≡ own → cond own p i ≡ d → implies named (same_bytes name name') ≡ true
        go true p h e = all_at tests 0 h
        go false p h e = absurd (omega arith)

    -- the rows are the same but for their parts, and these differ at d, or what is behind them
    split : (type_differs named i (type_of shape parts) (type_of shape' parts') ≡ fields_differ named i (i + 1) parts parts')
        × (((fields_differ named i (i + 1) parts parts' ≡ 0) × (fields_differ named 0 (i + 1 + count parts) rest rest' ≡ d)) ⊎ (fields_differ named i (i + 1) parts parts' ≡ d))
    unfolding fields_differ type_differs
    split = go (all_of tests) refl e
      where
        place : (b : Bool) (p q : ℕ) → eqb p 0 ≡ b → cond b q p ≡ d → ((p ≡ 0) × (q ≡ d)) ⊎ (p ≡ d)
        place true p q h e = inl (eqb-true p 0 h, e)
        place false p q h e = inr e

        go : (own : Bool) {p q : ℕ} → all_of tests ≡ own → cond own (first_of p q) i ≡ d
            → (cond (same_shape shape shape') p i ≡ p) × (((p ≡ 0) × (q ≡ d)) ⊎ (p ≡ d))
        go true {p} {q} h e = (rw (all_at tests 2 h), place (eqb p 0) p q refl e)
        go false h e = absurd (omega arith)

    -- a difference behind the first row: its types are the same
    pub row_same : i + 1 + count parts ≤ d
        → (type_differs named i (type_of shape parts) (type_of shape' parts') ≡ 0) × (fields_differ named 0 (i + 1 + count parts) rest rest' ≡ d)
    row_same far = go split.1 (fields_within i (i + 1) parts parts')
      where
        go : ((fields_differ named i (i + 1) parts parts' ≡ 0) × (fields_differ named 0 (i + 1 + count parts) rest rest' ≡ d)) ⊎ (fields_differ named i (i + 1) parts parts' ≡ d)
            → Within i (i + 1) parts (fields_differ named i (i + 1) parts parts')
            → (type_differs named i (type_of shape parts) (type_of shape' parts') ≡ 0) × (fields_differ named 0 (i + 1 + count parts) rest rest' ≡ d)
        go (inl h) w = (split.0 ∙ h.0, h.1)
        go (inr h) (inl z) = absurd (omega arith)
        go (inr h) (inr (inl z)) = absurd (omega arith)
        go (inr h) (inr (inr z)) = absurd (omega arith)

    -- a difference in the first row: its types differ at it
    pub row_differs : d < i + 1 + count parts → type_differs named i (type_of shape parts) (type_of shape' parts') ≡ d
    row_differs near = go split.1 (fields_within 0 (i + 1 + count parts) rest rest')
      where
        go : ((fields_differ named i (i + 1) parts parts' ≡ 0) × (fields_differ named 0 (i + 1 + count parts) rest rest' ≡ d)) ⊎ (fields_differ named i (i + 1) parts parts' ≡ d)
            → Within 0 (i + 1 + count parts) rest (fields_differ named 0 (i + 1 + count parts) rest rest')
            → type_differs named i (type_of shape parts) (type_of shape' parts') ≡ d
        go (inr h) w = split.0 ∙ h
        go (inl h) (inl z) = absurd (omega arith)
        go (inl h) (inr (inl z)) = absurd (omega arith)
        go (inl h) (inr (inr z)) = absurd (omega arith)
