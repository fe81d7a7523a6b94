-- Whether two types have a common type, where one of them is a wrapper or Null, told by what lies below. Assumes
-- nothing.
use mathlib.Core.Path.{◌≡◌, refl, ap, sym, subst, ◌∙◌}
use mathlib.Core.Bool.{Bool, true, false, cond, ◌&&◌, ◌||◌, or_comm, or-false}
use mathlib.Core.Logic.{◌⊎◌, inl, inr}
use Rattle.std.specs.Prelude.{Option, None, Some}
use Prim.Native.Nat.{ℕ}
use lib.Dec.{eqb}
use borrow.Author.Tests.{eqb-true, eqb-false, eq-eqb}
use Rattle.sheet.specs.declared.kind.TheConstants as Kind
use Rattle.sheet.proofs.Booleans.{never, or_fst, or_snd}
use Rattle.coercion.specs.Data.{DataType, may_become, or_else, is_list_question}
use Rattle.coercion.specs.Same.{equal, alike}
use Rattle.coercion.specs.Rules.{is_null, null_coercion}
use Rattle.coercion.specs.Wrappers.{value_in, is_of, wrapper_coercion}
use Rattle.coercion.specs.Answers.{coercion}
use Rattle.coercion.proofs.Sameness.{equal_same, equal_self, alike_nameless}
use Rattle.coercion.specs.Columns.{Pairs, of_union, of_compare}
use Rattle.coercion.proofs.Words.{alike_left, equal_left}
use Rattle.coercion.specs.declared.Question.{Question}
use Rattle.coercion.specs.declared.Rules.{Rules}
use Rattle.sheet.specs.Kind.{is_wrapper}
use Rattle.wrappers.proofs.Cores.{alike_values}
use Rattle.wrappers.proofs.Foreign.{Foreign, foreign_asks}

-- whether there is an answer
abbrev pub given : Option DataType → Bool
given None = false
given (Some t) = true

pub given_none : (o : Option DataType) → given o ≡ false → o ≡ None
given_none None h = refl
given_none (Some t) h = never (sym h)

-- one of several answers
given_sums : (b : Bool) (t : DataType) (x y z : Option DataType) → given (or_else (cond b (Some t) None) (or_else x (or_else y z))) ≡ b || ((given x || given y) || given z)
given_sums true t x y z = refl
given_sums false t (Some u) y z = refl
given_sums false t None (Some u) z = refl
given_sums false t None None z = refl

given_cond : (b : Bool) (t : DataType) → given (cond b (Some t) None) ≡ b
given_cond true t = refl
given_cond false t = refl

-- the rule for a kind, where neither is of it
pub wrapper_none : (k : ℕ) (c : DataType → DataType → Option DataType) (l r : DataType) → is_of k l ≡ false → is_of k r ≡ false → wrapper_coercion k c l r ≡ None
unfolding wrapper_coercion
wrapper_none k c l r x y = rw (x, y)

-- the rule for Null, where one side is not Null
module _ (mask : ℕ) (l r : DataType) where
  null_left : is_null r ≡ false → given (null_coercion mask l r) ≡ is_null l && may_become mask r.shape.kind
  unfolding null_coercion
  null_left h = rw h (go (is_null l))
    where
      go : (b : Bool) → given (cond b (cond (may_become mask r.shape.kind) (Some r) None) None) ≡ b && may_become mask r.shape.kind
      go true = given_cond (may_become mask r.shape.kind) r
      go false = refl

  null_right : is_null l ≡ false → given (null_coercion mask l r) ≡ is_null r && may_become mask l.shape.kind
  unfolding null_coercion
  null_right h = rw h (go (is_null r))
    where
      go : (b : Bool) → given (cond b (cond (may_become mask l.shape.kind) (Some l) None) None) ≡ b && may_become mask l.shape.kind
      go true = given_cond (may_become mask l.shape.kind) l
      go false = refl

-- types of different kinds are not alike
alike_apart : (l r : DataType) → (l.shape.kind ≡ r.shape.kind → ⊥) → alike l r ≡ false
alike_apart l r n = go (alike l r) refl
  where
    go : (b : Bool) → alike l r ≡ b → b ≡ false
    go true e = absurd (n (ap (λ (t : DataType). t.shape.kind) (alike_nameless l r e)))
    go false e = refl

-- the two kinds of wrappers, either first
pub data Kinds : ℕ → ℕ → Type 0 where
  dictionary_first : Kinds Kind.DICTIONARY Kind.RUN_END_ENCODED
  run_ends_first : Kinds Kind.RUN_END_ENCODED Kind.DICTIONARY

kinds_foreign : {k j : ℕ} → Kinds k j → Foreign k
kinds_foreign dictionary_first = inr (inl refl)
kinds_foreign run_ends_first = inr (inr refl)

kinds_apart : {k j : ℕ} → Kinds k j → eqb k j ≡ false
kinds_apart dictionary_first = refl
kinds_apart run_ends_first = refl

kinds_turned : {k j : ℕ} → Kinds k j → Kinds j k
kinds_turned dictionary_first = run_ends_first
kinds_turned run_ends_first = dictionary_first

no_null : {k j : ℕ} → Kinds k j → eqb k Kind.NULL ≡ false
no_null dictionary_first = refl
no_null run_ends_first = refl

-- no wrapper
kinds_bare : {k j : ℕ} → Kinds k j → (i : ℕ) → is_wrapper i ≡ false → eqb i k ≡ false
kinds_bare dictionary_first i h = or_fst (eqb i 37) _ h
kinds_bare run_ends_first i h = or_snd (eqb i 37) (eqb i 38) h

pairs_of : (q : Question) → is_list_question q ≡ false → Pairs q
pairs_of Question.List h = never (sym h)
pairs_of Question.Union h = of_union
pairs_of Question.Compare h = of_compare

module _ (rules : Rules) (pairs : is_list_question rules.question ≡ false) where
  -- whether two types have a common type
  abbrev pub has : DataType → DataType → Bool
  has l r = given (coercion rules l r)

  abbrev way : ℕ → DataType → DataType → Option DataType
  way k l r = wrapper_coercion k (coercion rules) l r

  equal_has : (l r : DataType) → equal l r ≡ true → has l r ≡ true
  equal_has l r h = ap given (equal_left rules l r h)

  module _ (k : ℕ) (l r : DataType) where
    way_both : (v w : DataType) → is_of k l ≡ true → is_of k r ≡ true → value_in l.parts ≡ Some v → value_in r.parts ≡ Some w → way k l r ≡ coercion rules v w
    unfolding wrapper_coercion
    way_both v w x y ev ew = rw (x, y, ev, ew)

    -- the value with the other type, and where it is the other type, there is an answer as well
    pub way_left : (v : DataType) → is_of k l ≡ true → is_of k r ≡ false → value_in l.parts ≡ Some v → given (way k l r) ≡ has v r
    unfolding wrapper_coercion
    way_left v x y ev = rw (x, y, ev) (go (equal v r) refl)
      where
        go : (b : Bool) → equal v r ≡ b → given (cond b (Some l) (coercion rules v r)) ≡ has v r
        go true e = sym (equal_has v r e)
        go false e = refl

    pub way_right : (w : DataType) → is_of k l ≡ false → is_of k r ≡ true → value_in r.parts ≡ Some w → given (way k l r) ≡ has l w
    unfolding wrapper_coercion
    way_right w x y ew = rw (x, y, ew) (go (equal w l) refl)
      where
        go : (b : Bool) → equal w l ≡ b → given (cond b (Some r) (coercion rules l w)) ≡ has l w
        go true e = sym (equal_has l w (subst (λ (t : DataType). equal t w ≡ true) (equal_same w l e) (equal_self w)))
        go false e = refl

  -- the rules that are left, the two for wrappers in either order
  pub asks : {k j : ℕ} → Kinds k j → (l r : DataType) → Foreign l.shape.kind ⊎ Foreign r.shape.kind
      → has l r ≡ alike l r || ((given (way k l r) || given (way j l r)) || given (null_coercion rules.mask l r))
  asks dictionary_first l r one = ap given (foreign_asks rules pairs l r one) ∙ given_sums (alike l r) l (way 37 l r) (way 38 l r) _
  asks run_ends_first l r one =
      ap given (foreign_asks rules pairs l r one) ∙ given_sums (alike l r) l (way 37 l r) (way 38 l r) _
      ∙ ap (λ (b : Bool). alike l r || (b || given (null_coercion rules.mask l r))) (or_comm (given (way 37 l r)) (given (way 38 l r)))

  module _ {k j : ℕ} (kinds : Kinds k j) (l r : DataType) where
    is : (t : DataType) → t.shape.kind ≡ k → is_of k t ≡ true
    is t e = eq-eqb t.shape.kind k e

    other : (t : DataType) → t.shape.kind ≡ k → is_of j t ≡ false
    other t e = ap (λ (i : ℕ). eqb i j) e ∙ kinds_apart kinds

    not_null : (t : DataType) → t.shape.kind ≡ k → is_null t ≡ false
    not_null t e = ap (λ (i : ℕ). eqb i 1) e ∙ no_null kinds

    foreign : (t : DataType) → t.shape.kind ≡ k → Foreign t.shape.kind
    foreign t e = subst Foreign (sym e) (kinds_foreign kinds)

    -- two wrappers of a kind
    pub both_has : (v w : DataType) → l.shape.kind ≡ k → r.shape.kind ≡ k → value_in l.parts ≡ Some v → value_in r.parts ≡ Some w → has l r ≡ has v w
    both_has v w el er ev ew =
        asks kinds l r (inl (foreign l el))
        ∙ rw
        (way_both k l r v w (is l el) (is r er) ev ew, wrapper_none j (coercion rules) l r (other l el) (other r er), null_right rules.mask l r (not_null l el), not_null r er)
        (go (alike l r) refl)
      where
        go : (b : Bool) → alike l r ≡ b → b || ((has v w || false) || false) ≡ has v w
        go true e = sym (ap given (alike_left rules (pairs_of rules.question pairs) v w (alike_values l r v w ev ew e)))
        go false e = or-false (has v w || false) ∙ or-false (has v w)

    -- two of both kinds
    pub cross_has : (v w : DataType) → l.shape.kind ≡ k → r.shape.kind ≡ j → value_in l.parts ≡ Some v → value_in r.parts ≡ Some w → has l r ≡ has v r || has l w
    cross_has v w el er ev ew =
        let apart : is_of k r ≡ false = ap (λ (i : ℕ). eqb i k) er ∙ kinds_apart (kinds_turned kinds) in
        asks kinds l r (inl (foreign l el))
        ∙ rw
        (alike_apart l r (λ e. eqb-false k j (kinds_apart kinds) (sym el ∙ e ∙ er)), way_left k l r v (is l el) apart ev, way_right j l r w (other l el) (eq-eqb r.shape.kind j er) ew, null_right rules.mask l r (not_null l el), ap (λ (i : ℕ). eqb i 1) er ∙ no_null (kinds_turned kinds))
        (or-false (has v r || has l w))

    -- a wrapper and a core
    module _ (v : DataType) where
      pub left_has : l.shape.kind ≡ k → is_wrapper r.shape.kind ≡ false → value_in l.parts ≡ Some v → has l r ≡ has v r || (is_null r && may_become rules.mask k)
      left_has el n ev =
          asks kinds l r (inl (foreign l el))
          ∙ rw
          (alike_apart l r (λ e. eqb-false r.shape.kind k (kinds_bare kinds r.shape.kind n) (sym e ∙ el)), way_left k l r v (is l el) (kinds_bare kinds r.shape.kind n) ev, wrapper_none j (coercion rules) l r (other l el) (kinds_bare (kinds_turned kinds) r.shape.kind n), null_right rules.mask l r (not_null l el), el)
          (ap (λ (b : Bool). b || (is_null r && may_become rules.mask k)) (or-false (has v r)))

      pub right_has : r.shape.kind ≡ k → is_wrapper l.shape.kind ≡ false → value_in r.parts ≡ Some v → has l r ≡ has l v || (is_null l && may_become rules.mask k)
      right_has er n ev =
          asks kinds l r (inr (foreign r er))
          ∙ rw
          (alike_apart l r (λ e. eqb-false l.shape.kind k (kinds_bare kinds l.shape.kind n) (e ∙ er)), way_right k l r v (kinds_bare kinds l.shape.kind n) (is r er) ev, wrapper_none j (coercion rules) l r (kinds_bare (kinds_turned kinds) l.shape.kind n) (other r er), null_left rules.mask l r (not_null r er), er)
          (ap (λ (b : Bool). b || (is_null l && may_become rules.mask k)) (or-false (has l v)))

  -- two cores of which one is Null
  module _ (l r : DataType) (nl : is_wrapper l.shape.kind ≡ false) (nr : is_wrapper r.shape.kind ≡ false) where
    no_way : {k j : ℕ} → Kinds k j → way k l r ≡ None
    no_way {k} kinds = wrapper_none k (coercion rules) l r (kinds_bare kinds l.shape.kind nl) (kinds_bare kinds r.shape.kind nr)

    pub null_left_has : is_null l ≡ true → is_null r ≡ false → has l r ≡ may_become rules.mask r.shape.kind
    null_left_has x y =
        let e = eqb-true l.shape.kind 1 x in
        asks dictionary_first l r (inl (inl e))
        ∙ rw (alike_apart l r (λ q. eqb-false r.shape.kind 1 y (sym q ∙ e)), no_way dictionary_first, no_way run_ends_first, null_left rules.mask l r y, x)

    pub null_right_has : is_null l ≡ false → is_null r ≡ true → has l r ≡ may_become rules.mask l.shape.kind
    null_right_has x y =
        let e = eqb-true r.shape.kind 1 y in
        asks dictionary_first l r (inr (inl e))
        ∙ rw (alike_apart l r (λ q. eqb-false l.shape.kind 1 x (q ∙ e)), no_way dictionary_first, no_way run_ends_first, null_right rules.mask l r x, y)
