-- The category of a type is that of the value below its wrappers. Assumes nothing.
use mathlib.Core.Path.{◌≡◌, refl, ap, sym, ◌∙◌}
use mathlib.Core.Bool.{Bool, true, false, ◌||◌}
use mathlib.Core.List.{List}
use Prim.Native.Nat.{ℕ, ◌<◌, ◌≤◌}
use native.Mathlib.Omega.{arith}
use lib.Dec.{eqb}
use Rattle.sheet.specs.Booleans.{between}
use Rattle.sheet.specs.Types.{Shape, Fields, end, field, count}
use Rattle.sheet.specs.Head.{head_at}
use Rattle.sheet.specs.Holds.{Leads}
use Rattle.sheet.specs.declared.Head.{Head}
use Rattle.sheet.proofs.Repeating.{kind_is, first_leads, next_leads}
use Rattle.coercion.specs.Answers.{notSupported, own_category, category_of}
use Rattle.coercion.specs.Meaning.{value_category}
pub use Rattle.resolution.specs.Wrapped.{CoreFound}

-- a wrapper has its value's category, another type its own
wrapper : (shape : Shape) (parts : Fields) → (eqb shape.kind 37 || eqb shape.kind 38) ≡ true → category_of shape parts ≡ value_category parts
unfolding category_of
wrapper shape end h = rw h
wrapper shape (field n b s p end) h = rw h
wrapper shape (field n b s p (field n₂ b₂ s₂ p₂ rest)) h = rw h

own : (shape : Shape) (parts : Fields) → (eqb shape.kind 37 || eqb shape.kind 38) ≡ false → category_of shape parts ≡ own_category shape.kind
unfolding category_of
own shape end h = rw h
own shape (field n b s p end) h = rw h
own shape (field n b s p (field n₂ b₂ s₂ p₂ rest)) h = rw h

nothing_own : own_category 0 ≡ notSupported
unfolding between
nothing_own = refl

module _ (s : List ℕ) (n link : ℕ) (h : Head) (e : h ≡ head_at s link) {w : Bool} (ew : w ≡ (eqb h.kind 37 || eqb h.kind 38)) where
  pub core_own : w ≡ false → CoreFound s n link h.kind
  core_own z floor i o name nullable shape parts rest l =
      let k = kind_is s n floor link i o name nullable shape parts rest l h e in
      ap own_category k ∙ sym (own shape parts (ap (λ (x : ℕ). eqb x 37 || eqb x 38) (sym k) ∙ sym ew ∙ z))

  pub core_value : (k : ℕ) → w ≡ true → ((i o : ℕ) (parts : Fields) → Leads s n link h.first i o parts → own_category k ≡ value_category parts) → CoreFound s n link k
  core_value k₀ z f floor i o name nullable shape parts rest l =
      let k = kind_is s n floor link i o name nullable shape parts rest l h e in
      f _ _ parts (first_leads s n floor link i o name nullable shape parts rest l h e)
      ∙ sym (wrapper shape parts (ap (λ (x : ℕ). eqb x 37 || eqb x 38) (sym k) ∙ sym ew ∙ z))

-- the value of a wrapper whose first part is at a link
module _ (s : List ℕ) (n floor link : ℕ) where
  pub value_none : link ≤ floor → (i o : ℕ) (parts : Fields) → Leads s n floor link i o parts → own_category 0 ≡ value_category parts
  value_none h i o end l = nothing_own
  value_none h i o (field name nullable shape parts rest) l = absurd (omega (arith, l.is, l.above))

  module _ (g : Head) (e : g ≡ head_at s link) where
    pub value_short : g.next ≤ link → (i o : ℕ) (parts : Fields) → Leads s n floor link i o parts → own_category 0 ≡ value_category parts
    value_short h i o end l = nothing_own
    value_short h i o (field name nullable shape parts end) l = nothing_own
    value_short h i o (field name nullable shape parts (field name' nullable' shape' parts' rest')) l =
        let m = next_leads s n floor link i o name nullable shape parts (field name' nullable' shape' parts' rest') l g e in
        absurd (omega (arith, m.is, m.above))

    pub value_past : link < g.next → n ≤ g.next → (i o : ℕ) (parts : Fields) → Leads s n floor link i o parts → own_category 0 ≡ value_category parts
    unfolding count
    value_past lo h i o end l = nothing_own
    value_past lo h i o (field name nullable shape parts end) l = nothing_own
    value_past lo h i o (field name nullable shape parts (field name' nullable' shape' parts' rest')) l =
        let m = next_leads s n floor link i o name nullable shape parts (field name' nullable' shape' parts' rest') l g e in
        absurd (omega (arith, m.is, m.inside))

    pub value_found : (k : ℕ) → floor < link → link < g.next → CoreFound s n g.next k → (i o : ℕ) (parts : Fields) → Leads s n floor link i o parts
        → own_category k ≡ value_category parts
    value_found k lo hi f i o end l = absurd (omega (arith, l.is))
    value_found k lo hi f i o (field name nullable shape parts end) l =
        let m = next_leads s n floor link i o name nullable shape parts end l g e in absurd (omega (arith, m.is))
    value_found k lo hi f i o (field name nullable shape parts (field name' nullable' shape' parts' rest')) l =
        f link _ _ name' nullable' shape' parts' rest'
        (next_leads s n floor link i o name nullable shape parts (field name' nullable' shape' parts' rest') l g e)
