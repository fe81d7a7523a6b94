-- Equal types are the same, and alike types are the same but for names. Assumes nothing.
use mathlib.Core.Path.{◌≡◌, refl, sym, ◌∙◌, ap, ap₂}
use mathlib.Core.Bool.{Bool, true, false, ◌&&◌, beq}
use mathlib.Core.List.{List}
use Prim.Native.Nat.{ℕ, ◌+◌}
use native.Mathlib.Omega.{arith}
use borrow.Author.Tests.{eq-eqb, eqb-true}
use Rattle.sheet.specs.Booleans.{implies}
use Rattle.sheet.specs.Types.{Zone, absent, present, Shape, Fields, end, field, arity}
use Rattle.sheet.specs.Names.{same_bytes}
use Rattle.sheet.proofs.Booleans.{all_at, all_cons, all_nil, and_fst, and_snd, never}
use Rattle.sheet.proofs.Bytewise.{same_self, same_equal}
use Rattle.coercion.specs.Data.{DataType}
use Rattle.coercion.specs.Same.{same_zone, same_shape, same_fields, same_type, equal, alike, seen, strip, shown, nameless}

beq_true : (a b : Bool) → beq a b ≡ true → a ≡ b
beq_true true true h = refl
beq_true true false h = never h
beq_true false true h = never h
beq_true false false h = refl

beq_self : (a : Bool) → beq a a ≡ true
beq_self true = refl
beq_self false = refl

zone_equal : (z w : Zone) → same_zone z w ≡ true → z ≡ w
unfolding same_zone
zone_equal absent absent h = refl
zone_equal absent (present w) h = never h
zone_equal (present z) absent h = never h
zone_equal (present z) (present w) h = ap present (same_equal z w h)

zone_self : (z : Zone) → same_zone z z ≡ true
unfolding same_zone
zone_self absent = refl
zone_self (present z) = same_self z

shape_equal : (a b : Shape) → same_shape a b ≡ true → a ≡ b
unfolding same_shape
shape_equal a b h =
    let e₀ = eqb-true a.kind b.kind (all_at _ 0 h) in
    let e₁ = eqb-true a.figure b.figure (all_at _ 1 h) in
    let e₂ = eqb-true a.scale b.scale (all_at _ 2 h) in
    let e₃ = eqb-true a.size b.size (all_at _ 3 h) in
    let e₄ = beq_true a.sorted b.sorted (all_at _ 4 h) in
    let e₅ = zone_equal a.zone b.zone (all_at _ 5 h) in
    λ i. record { kind = e₀ i; figure = e₁ i; scale = e₂ i; size = e₃ i; sorted = e₄ i; zone = e₅ i }

shape_self : (a : Shape) → same_shape a a ≡ true
unfolding same_shape
shape_self a =
    all_cons _ (eq-eqb a.kind _ refl)
    (all_cons _ (eq-eqb a.figure _ refl)
    (all_cons _ (eq-eqb a.scale _ refl)
    (all_cons _ (eq-eqb a.size _ refl)
    (all_cons _ (beq_self a.sorted) (all_cons _ (zone_self a.zone) all_nil)))))

name_equal : (named : Bool) (n m : List ℕ) → implies named (same_bytes n m) ≡ true → seen named n ≡ seen named m
name_equal true n m h = same_equal n m h
name_equal false n m h = refl

name_same : (named : Bool) (n m : List ℕ) → seen named n ≡ seen named m → implies named (same_bytes n m) ≡ true
name_same true n m e = rw e (same_self m)
name_same false n m e = refl

-- two chains are the same just where what is looked at is equal
pub fields_equal : (named : Bool) (l r : Fields) → same_fields named l r ≡ true → strip named l ≡ strip named r
unfolding same_fields strip
fields_equal named end end h = refl
fields_equal named end (field name nullable shape parts rest) h = never h
fields_equal named (field name nullable shape parts rest) end h = never h
fields_equal named (field n b s p q) (field n' b' s' p' q') h =
    let e₀ = name_equal named n n' (all_at _ 0 h) in
    let e₁ = beq_true b b' (all_at _ 1 h) in
    let e₂ = shape_equal s s' (all_at _ 2 h) in
    let e₃ = fields_equal named p p' (all_at _ 3 h) in
    let e₄ = fields_equal named q q' (all_at _ 4 h) in
    cc

pub fields_same : (named : Bool) (l r : Fields) → strip named l ≡ strip named r → same_fields named l r ≡ true
unfolding same_fields strip
fields_same named end end e = refl
fields_same named end (field n b s p q) e = let z : ◌≡◌ {A = ℕ} 0 1 = cc in absurd (omega arith)
fields_same named (field n b s p q) end e = let z : ◌≡◌ {A = ℕ} 0 1 = cc in absurd (omega arith)
fields_same named (field n b s p q) (field n' b' s' p' q') e =
    let e₀ : seen named n ≡ seen named n' = cc in
    let e₁ : b ≡ b' = cc in
    let e₂ : s ≡ s' = cc in
    let e₃ : strip named p ≡ strip named p' = cc in
    let e₄ : strip named q ≡ strip named q' = cc in
    all_cons _ (name_same named n n' e₀)
    (all_cons _ (rw e₁ (beq_self b'))
    (all_cons _ (rw e₂ (shape_self s')) (all_cons _ (fields_same named p p' e₃) (all_cons _ (fields_same named q q' e₄) all_nil))))

pub strip_all : (t : Fields) → strip true t ≡ t
unfolding strip
strip_all end = refl
strip_all (field n b s p q) = ap₂ (λ (x y : Fields). field n b s x y) (strip_all p) (strip_all q)

pub type_equal : (named : Bool) (l r : DataType) → same_type named l r ≡ true → shown named l ≡ shown named r
unfolding same_type
type_equal named l r h =
    let e = shape_equal l.shape r.shape (and_fst _ _ h) in
    let f = fields_equal named l.parts r.parts (and_snd (same_shape l.shape r.shape) _ h) in
    λ i. record { shape = e i; parts = f i }

pub type_same : (named : Bool) (l r : DataType) → shown named l ≡ shown named r → same_type named l r ≡ true
unfolding same_type
type_same named l r e =
    let f : l.shape ≡ r.shape = ap (λ (t : DataType). t.shape) e in
    rw (ap₂ ◌&&◌ (ap (λ (s : Shape). same_shape s r.shape) f ∙ shape_self r.shape) (fields_same named l.parts r.parts (ap (λ (t : DataType). t.parts) e)))

-- `==` is equality
pub equal_same : (l r : DataType) → equal l r ≡ true → l ≡ r
equal_same l r h =
    let e = type_equal true l r h in
    let p = sym (strip_all l.parts) ∙ ap (λ (t : DataType). t.parts) e ∙ strip_all r.parts in
    λ i. record { shape = (e i).shape; parts = p i }

pub equal_self : (t : DataType) → equal t t ≡ true
equal_self t = type_same true t t refl

-- "Alike leaves out the names of fields at every depth", and nothing else
pub alike_nameless : (l r : DataType) → alike l r ≡ true → nameless l ≡ nameless r
alike_nameless l r h = type_equal false l r h

pub nameless_alike : (l r : DataType) → nameless l ≡ nameless r → alike l r ≡ true
nameless_alike l r e = type_same false l r e

pub alike_self : (t : DataType) → alike t t ≡ true
alike_self t = nameless_alike t t refl

pub equal_alike : (l r : DataType) → equal l r ≡ true → alike l r ≡ true
equal_alike l r h = nameless_alike l r (ap nameless (equal_same l r h))

-- alike types have as many parts
strip_arity : (named : Bool) (t : Fields) → arity (strip named t) ≡ arity t
unfolding strip arity
strip_arity named end = refl
strip_arity named (field n b s p q) = ap (λ (k : ℕ). 1 + k) (strip_arity named q)

pub alike_arity : (l r : DataType) → alike l r ≡ true → arity l.parts ≡ arity r.parts
alike_arity l r h =
    sym (strip_arity false l.parts) ∙ ap (λ (t : DataType). arity t.parts) (alike_nameless l r h) ∙ strip_arity false r.parts
