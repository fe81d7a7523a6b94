-- The kind of a type at a link, its parts, and the value of a wrapper. Assumes nothing.
use mathlib.Core.Path.{◌≡◌, refl, ap, sym, subst, ◌∙◌}
use mathlib.Core.Bool.{Bool, true, false, not}
use mathlib.Core.List.{List}
use Rattle.std.specs.Prelude.{Some}
use Prim.Native.Nat.{ℕ, ◌<◌, ◌≤◌}
use native.Mathlib.Omega.{arith}
use lib.ListN.{length, length-append}
use lib.Dec.{eqb}
use Rattle.sheet.specs.Kind.{parts_right, is_wrapper}
use Rattle.sheet.specs.Types.{Shape, Fields, end, field, arity, count, zone_bytes, labels}
use Rattle.sheet.specs.Head.{head_at}
use Rattle.sheet.specs.declared.Head.{Head}
use Rattle.coercion.specs.Data.{DataType, size}
use Rattle.coercion.specs.Wrappers.{value_in, is_of}
use Rattle.buffers.specs.Writes.{side}
use Rattle.buffers.specs.Target.{letters, type_of}
use Rattle.buffers.specs.Typed.{Chain, Typed}
use Rattle.buffers.specs.declared.Space.{Space}
use Rattle.buffers.proofs.Chained.{held_first, labels_sum}
use Rattle.buffers.proofs.Rows.{chain_typed, chain_next}
use Rattle.buffers.proofs.Fielding.{typed_reads}
use Rattle.wrappers.proofs.Cores.{two_parts}

-- the sides of a pair, the other way round
pub side_twice : (swap : Bool) (s w : List ℕ) → side (not (not swap)) s w ≡ side swap s w
side_twice true s w = refl
side_twice false s w = refl

-- the kind of a type, by its head
module _ {space : Space} {s : List ℕ} {link k : ℕ} (e : k ≡ (head_at s link).kind) where
  pub kind_of_lem : {t : DataType} → Typed space s link t → t.shape.kind ≡ k
  kind_of_lem a = (typed_reads a refl).kind ∙ sym e

  pub kind_is : {t : DataType} (x : ℕ) → Typed space s link t → is_of x t ≡ eqb k x
  kind_is x a = ap (λ (i : ℕ). eqb i x) (kind_of_lem a)

-- the parts of a type
module _ {space : Space} {s : List ℕ} {link : ℕ} {name : List ℕ} {nullable : Bool} {shape : Shape} {parts rest : Fields} (h : Head) (e : h ≡ head_at s link)
    (a : Chain space s link (field name nullable shape parts rest)) where
  pub chain_first : Chain space s h.first parts
  chain_first = record { floor = link; at = _; label = _; up = _; held = held_first a.held h e }

-- two parts
pub record Two (t : Fields) : Type 0 where
  pub n : List ℕ
  pub b : Bool
  pub s : Shape
  pub p : Fields
  pub n₂ : List ℕ
  pub b₂ : Bool
  pub s₂ : Shape
  pub p₂ : Fields
  pub is : t ≡ field n b s p (field n₂ b₂ s₂ p₂ end)

two_of : (t : Fields) → arity t ≡ 2 → Two t
unfolding arity
two_of end e = absurd (omega arith)
two_of (field n b s p end) e = absurd (omega arith)
two_of (field n b s p (field n₂ b₂ s₂ p₂ end)) e = record { n = n; b = b; s = s; p = p; n₂ = n₂; b₂ = b₂; s₂ = s₂; p₂ = p₂; is = refl }
two_of (field n b s p (field n₂ b₂ s₂ p₂ (field n₃ b₃ s₃ p₃ q))) e = absurd (omega arith)

-- a wrapper has two parts
pub typed_two : {space : Space} {s : List ℕ} {link k : ℕ} {t : DataType} → is_wrapper k ≡ true → t.shape.kind ≡ k → Typed space s link t → Two t.parts
typed_two {t = t} w e a = two_of t.parts (two_parts _ _ w (subst (λ (i : ℕ). parts_right i (arity t.parts) ≡ true) e a.chain.held.source.right.0.filled))

-- the second part of a type
pub record Value (space : Space) (s : List ℕ) (link : ℕ) (t : DataType) : Type 0 where
  pub type : DataType
  pub typed : Typed space s link type
  pub is : value_in t.parts ≡ Some type
  pub smaller : size type < size t
  pub shorter : letters type ≤ letters t

-- the value of a wrapper
pub value_of : {space : Space} {s : List ℕ} {link k v : ℕ} {t : DataType} → is_wrapper k ≡ true → t.shape.kind ≡ k → v ≡ (head_at s (head_at s link).first).next → Typed space s link t
    → Value space s v t
unfolding count labels
value_of {space} {s} {link} {k} {v} {t} w e ev a =
    let x = typed_two w e a in
    let q : Chain space s (head_at s link).first (field x.n x.b x.s x.p (field x.n₂ x.b₂ x.s₂ x.p₂ end))
    = subst (λ (f : Fields). Chain space s (head_at s link).first f) x.is (chain_first (head_at s link) refl a.chain) in
    let cs = ap (λ (f : Fields). count f) x.is in
    let ls = ap (λ (f : Fields). length (labels f)) x.is in
    let l₁ = labels_sum x.n x.b x.s x.p (field x.n₂ x.b₂ x.s₂ x.p₂ end) in
    let l₂ = labels_sum x.n₂ x.b₂ x.s₂ x.p₂ end in
    record {
      type = type_of x.s₂ x.p₂;
      typed = subst (λ (i : ℕ). Typed space s i (type_of x.s₂ x.p₂)) (sym ev) (chain_typed (chain_next q (head_at s (head_at s link).first) refl));
      is = ap value_in x.is;
      smaller = omega (arith, cs);
      shorter = omega (arith, ls, l₁, l₂, length-append x.n₂ (zone_bytes x.s₂.zone));
    }
