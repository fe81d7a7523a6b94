-- The laws of the two rules for wrappers, of types that a sheet may carry. Assumes nothing.
use mathlib.Core.Path.{◌≡◌, refl, ap, sym, ◌∙◌}
use mathlib.Core.Bool.{Bool, true, false, cond}
use mathlib.Core.Logic.{inl, inr}
use mathlib.Core.List.{[]}
use Rattle.std.specs.Prelude.{Option, None}
use Prim.Native.Nat.{ℕ}
use lib.Dec.{eqb}
use Rattle.sheet.specs.Types.{end}
use Rattle.sheet.specs.Carried.{FieldsRight}
use Rattle.coercion.specs.Data.{DataType, single, or_else}
use Rattle.coercion.specs.Wrappers.{is_of, wrapper_coercion}
use Rattle.coercion.specs.Answers.{coercion}
use Rattle.coercion.specs.declared.Rules.{Rules}
use Rattle.wrappers.specs.Ways.{is_null_core, may_merge, dictionary_may}
use Rattle.wrappers.specs.Laws.{OneWay, DictionaryFirst}
use Rattle.wrappers.proofs.Cores.{Whole, whole, core_kind_lem, inner}
use Rattle.wrappers.proofs.Ways.{Crossed, crossed, one_way, runs_only}
use Rattle.wrappers.proofs.Choosing.{way_rule}

listed_whole : (t : DataType) → FieldsRight 0 (single t) → Whole t.shape t.parts
listed_whole t h = whole 0 [] false t.shape t.parts end h

pub one_way_listed : OneWay
one_way_listed rules pairs l r hl hr = way_rule rules pairs l r (listed_whole l hl) (listed_whole r hr)

-- two types of which neither core is Null, or both are
both_or_neither : (mask : ℕ) (l r : DataType) → is_null_core l ≡ is_null_core r → may_merge mask l r ≡ true
unfolding may_merge
both_or_neither mask l r e = rw e (go (is_null_core r) _ _)
  where
    go : (b x y : Bool) → cond b (cond b true x) (cond b y true) ≡ true
    go true x y = refl
    go false x y = refl

-- the value of a wrapper has its core
value_core : (t : DataType) (x : Whole t.shape t.parts) (h : is_of 37 t ≡ true) → is_null_core (inner x (rw h)).value ≡ is_null_core t
value_core t x h =
    let i = inner x (rw h) in
    ap (λ (k : ℕ). eqb k 1) (core_kind_lem i.whole ∙ ap (λ (u : DataType). u.shape.kind) i.core ∙ sym (core_kind_lem x))

module _ (rules : Rules) (l r : DataType) (x : Whole l.shape l.parts) (y : Whole r.shape r.parts) (e : is_null_core l ≡ is_null_core r) where
  may_left : is_of 37 l ≡ true → dictionary_may rules.mask l r ≡ true
  unfolding dictionary_may
  may_left h =
      let i = inner x (rw h) in
      rw (h, i.is) (both_or_neither rules.mask i.value r (value_core l x h ∙ e))

  may_right : is_of 38 l ≡ true → is_of 37 r ≡ true → dictionary_may rules.mask l r ≡ true
  unfolding dictionary_may
  may_right h g =
      let i = inner y (rw g) in
      rw (runs_only l h, i.is) (both_or_neither rules.mask l i.value (e ∙ sym (value_core r y g)))

pub dictionary_answers : DictionaryFirst
dictionary_answers rules pairs l r hl hr c e n =
    let x = listed_whole l hl in
    let y = listed_whole r hr in
    let k = crossed l r c in
    last (wrapper_coercion 37 (coercion rules) l r) (wrapper_coercion 38 (coercion rules) l r) n
    (one_way rules pairs l r x y k ∙ ap (λ (b : Bool). wrapper_coercion (cond b 37 38) (coercion rules) l r) (may k x y) ∙ n)
  where
    last : (d o : Option DataType) → d ≡ None → or_else d o ≡ None → o ≡ None
    last d o n h = ap (λ (z : Option DataType). or_else z o) (sym n) ∙ h

    may : Crossed l r → Whole l.shape l.parts → Whole r.shape r.parts → dictionary_may rules.mask l r ≡ true
    may (inl h) x y = may_left rules l r x y e h.0
    may (inr h) x y = may_right rules l r x y e h.0 h.1
