-- Types without parts, zone or order, by value. Assumes nothing.
use mathlib.Core.Path.{◌≡◌, refl, ap, sym, subst, ◌∙◌}
use mathlib.Core.Bool.{Bool, true, false, cond, ◌&&◌, and-true}
use mathlib.Core.List.{List}
use Rattle.std.specs.Prelude.{Option, None, Some}
use Prim.Native.Nat.{ℕ, ◌/◌, ◌%◌, ◌<◌}
use native.Mathlib.Omega.{arith}
use lib.Dec.{ltb, eqb}
use borrow.Author.Tests.{ltb-true, eqb-true, ne_eqb, lt-leb}
use Rattle.sheet.specs.Types.{Fields, end, arity}
use Rattle.sheet.specs.Names.{names_differ}
use Rattle.sheet.specs.Kind.{parts_right}
use Rattle.sheet.specs.Booleans.{all_of, between}
use Rattle.sheet.specs.Read.{shape_of}
use Rattle.sheet.specs.Carried.{FieldsRight}
use Rattle.sheet.specs.declared.Head.{Head}
use Rattle.sheet.proofs.Booleans.{and_fst, and_snd}
use Rattle.coercion.specs.Data.{DataType, single, is_list_question}
use Rattle.coercion.specs.Same.{same_zone, same_shape, same_fields, same_type}
use Rattle.coercion.specs.Answers.{coercion}
use Rattle.coercion.specs.declared.Figures.{Figures}
use Rattle.coercion.proofs.Maybe.{if_some}
use Rattle.coercion.proofs.AnswersRight.{TypeRight, coercion_right}
use Rattle.coercion.specs.declared.Rules.{Rules}
use Rattle.plain.specs.Plain.{plain_rules}
use Rattle.plain.specs.Steps.{Figured, step_of}
use Rattle.plain.specs.declared.step.Step.{Step}
use Rattle.plain.specs.declared.value.PlainType.{PlainType}
use Rattle.plain.specs.Value.{is_plain, plain_type_of, type_of_plain, figures_in, Valued, JointIs, Says, Joins}
use Rattle.plain.proofs.Low.{Low, plain_low}
use Rattle.plain.proofs.Plain.{end_is, plain_answer}

-- a kind below 32 has no parts
pub no_parts : (k : ℕ) (p : Fields) → k < 32 → parts_right k (arity p) ≡ true → p ≡ end
unfolding parts_right between
no_parts k p h f =
    let g : eqb (arity p) 0 ≡ true =
    rw (lt-leb 32 k h, ne_eqb k 36 (λ e. omega arith), lt-leb 37 k (omega arith), ne_eqb k 35 (λ e. omega arith)) at f in
    end_is p (eqb-true (arity p) 0 g)

-- the type of a plain head
module _ (h : Head) (p : is_plain h ≡ true) where
  pub plain_kind : h.kind < 32
  plain_kind = ltb-true h.kind 32 (and_fst (ltb h.kind 32) (ltb h.flags 2) p)

  pub plain_type_low : {x : PlainType} → x ≡ plain_type_of h → x.kind < 32
  plain_type_low e = omega (arith, plain_kind, ap (λ (k : PlainType). k.kind) e)

  pub plain_shape : (s : List ℕ) (n : ℕ) → shape_of s n h ≡ (type_of_plain (plain_type_of h)).shape
  plain_shape s n =
      let f = ltb-true h.flags 2 (and_snd (ltb h.kind 32) (ltb h.flags 2) p) in
      rw (ne_eqb (h.flags / 2 % 2) 1 (λ e. omega arith), ne_eqb (h.flags / 4 % 2) 1 (λ e. omega arith)) refl

valued_figured : {x : PlainType} {t : DataType} → Valued x t → Figured (figures_in x) t
valued_figured v =
    record {
      kind = ap (λ (x : DataType). x.shape.kind) v.is;
      figure = ap (λ (x : DataType). x.shape.figure) v.is;
      scale = ap (λ (x : DataType). x.shape.scale) v.is;
      known = v.right.0.known;
      bare = λ q. ap (λ (x : DataType). x.shape.zone) v.is;
    }

plain_type_differ : (x : PlainType) → x.kind < 32 → names_differ (single (type_of_plain x)) ≡ true
unfolding names_differ all_of
plain_type_differ x low = rw (ne_eqb x.kind 35 (λ e. omega arith))

pub valued_right : {x : PlainType} {t : DataType} → Valued x t → TypeRight t
valued_right {x} v = (v.right, subst (λ (t : DataType). names_differ (single t) ≡ true) (sym v.is) (plain_type_differ x v.low))

valued_low : {x : PlainType} {t : DataType} → Valued x t → Low t
valued_low v = omega (arith, v.low, ap (λ (x : DataType). x.shape.kind) v.is)

-- whether two values are the same, as their derived `==` says, which is whether their types are
abbrev pub same_plain_type : PlainType → PlainType → Bool
same_plain_type x y = eqb x.kind y.kind && (eqb x.figure y.figure && (eqb x.scale y.scale && eqb x.size y.size))

pub same_plain_types : (x y : PlainType) (named : Bool) → same_plain_type x y ≡ same_type named (type_of_plain x) (type_of_plain y)
unfolding same_type same_shape same_fields same_zone all_of
same_plain_types x y named = simp and-true

-- a type that may stand in a sheet, and whose value is known
settled : (o : Option PlainType) (m : Option DataType) → ((t : DataType) → m ≡ Some t → Low t × FieldsRight 0 (single t)) → JointIs (λ x t. t ≡ type_of_plain x) o m → JointIs Valued o m
settled (Some x) None f a = a
settled (Some x) (Some t) f a = record { is = a; low = omega (arith, (f t refl).0, ap (λ (u : DataType). u.shape.kind) a); right = (f t refl).1 }
settled None None f a = tt
settled None (Some t) f a = a

module _ (rules : Rules) (x y : PlainType) {b : Bool} (same : b ≡ same_plain_type x y) where
  by_test : (l r : DataType) → Valued x l → Valued y r → coercion rules l r ≡ cond b (Some l) (plain_rules rules l r)
  by_test l r v u =
      plain_answer rules l r (valued_low v) (valued_low u)
      ∙ ap (λ (k : Bool). cond k (Some l) (plain_rules rules l r)) (ap (λ (k : DataType). same_type named k r) v.is ∙ ap (same_type named (type_of_plain x)) u.is ∙ sym (same ∙ same_plain_types x y named))
    where
      named : Bool
      named = is_list_question rules.question

  pub joins_same : b ≡ true → x.size < 4294967296 → Joins (coercion rules) x y (Some x)
  joins_same e h =
      record {
        holdable = h;
        means = λ l r v u. subst (JointIs Valued (Some x)) (sym (by_test l r v u ∙ ap (λ (k : Bool). cond k (Some l) (plain_rules rules l r)) e)) v;
      }

  -- where the values differ, their rules say the type
  module _ (e : b ≡ false) {f g : Figures} (ef : f ≡ figures_in x) (eg : g ≡ figures_in y) where
    joins_rule : {step : Option Step} (o : Option PlainType) → ((l r : DataType) → Figured f l → Figured g r → step_of step l r ≡ plain_rules rules l r) → Says step x y o
        → Joins (coercion rules) x y o
    joins_rule {step} o rule s = record { holdable = s.holdable; means = go }
      where
        go : (l r : DataType) → Valued x l → Valued y r → JointIs Valued o (coercion rules l r)
        go l r v u =
            let plain : coercion rules l r ≡ plain_rules rules l r = by_test l r v u ∙ ap (λ (k : Bool). cond k (Some l) (plain_rules rules l r)) e in
            let told : step_of step (type_of_plain x) (type_of_plain y) ≡ coercion rules l r =
            ap (λ (k : DataType). step_of step k (type_of_plain y)) (sym v.is) ∙ ap (step_of step l) (sym u.is) ∙ rule l r (subst (λ (k : Figures). Figured k l) (sym ef) (valued_figured v)) (subst (λ (k : Figures). Figured k r) (sym eg) (valued_figured u)) ∙ sym plain in
            settled o (coercion rules l r)
            (λ t q. (
              if_some Low (plain_rules rules l r) t (plain_low rules l r (valued_low v) (valued_low u)) (sym plain ∙ q),
              (coercion_right rules l r t (valued_right v) (valued_right u) q).0,
            )) (subst (JointIs (λ x t. t ≡ type_of_plain x) o) told s.means)

    pub joins_said : {step : Option Step} {k : Step} {z : PlainType} → step ≡ Some k → ((l r : DataType) → Figured f l → Figured g r → step_of step l r ≡ plain_rules rules l r)
        → Says (Some k) x y (Some z) → Joins (coercion rules) x y (Some z)
    joins_said {z = z} q rule s = joins_rule (Some z) rule (subst (λ (o : Option Step). Says o x y (Some z)) (sym q) s)

    pub joins_none : {step : Option Step} {o : Option PlainType} → step ≡ None → o ≡ None → ((l r : DataType) → Figured f l → Figured g r → step_of step l r ≡ plain_rules rules l r)
        → Joins (coercion rules) x y o
    joins_none {step} {o} q p rule = joins_rule o rule (subst (λ (o : Option PlainType). Says step x y o) (sym p) (subst (λ (k : Option Step). Says k x y None) (sym q) (record { holdable = tt; means = tt })))
