-- What the cores of two types leave to be asked of their wrappers, and that it stays so as wrappers come off. Assumes
-- nothing.
use mathlib.Core.Path.{◌≡◌, refl, ap, ap₂, sym, subst, ◌∙◌}
use mathlib.Core.Bool.{Bool, true, false, cond, ◌||◌}
use Rattle.std.specs.Prelude.{Option, None, Some}
use Prim.Native.Nat.{ℕ}
use native.Mathlib.Omega.{arith}
use lib.Dec.{eqb}
use borrow.Author.Tests.{eqb-true, eqb-false, eq-eqb, ne_eqb}
use Rattle.sheet.specs.declared.kind.TheConstants as Kind
use Rattle.coercion.specs.Data.{DataType, may_become}
use Rattle.coercion.specs.Wrappers.{value_in, is_of}
use Rattle.sheet.specs.Kind.{is_wrapper}
use Rattle.wrappers.specs.Ways.{wrappers_of, core_kind, is_null_core, meets, may_merge, dictionary_may, hint_of, wrappers_may, Hint, value_else, without}
use Rattle.wrappers.specs.Walks.{crosses, chosen_kind}
use Rattle.wrappers.proofs.Meeting.{meets_off, judged, judged_turned, judged_same, judged_cross}
use Rattle.wrappers.proofs.Cores.{one_of_two, wrap_wrappers, wrap_core}
use Rattle.wrappers.proofs.Ways.{may_judged, dictionary_only, runs_only}

abbrev core : DataType → ℕ
core t = core_kind t.shape t.parts

abbrev pub met : ℕ → DataType → DataType → Bool
met mask x y = meets mask (wrappers_of x.shape x.parts) (wrappers_of y.shape y.parts)

-- cores always leave something to be said
pub hint_some : (mask a b : ℕ) → ¬ (hint_of mask a b ≡ 0)
hint_some mask a b = go (eqb a 1) (eqb b 1) (may_become mask a) (may_become mask b)
  where
    go : (p q u v : Bool) → ¬ (◌≡◌ {A = ℕ} (cond p (cond (q || v) 1 3) (cond q (cond u 1 2) 1)) 0)
    go true true u v e = omega arith
    go true false u true e = omega arith
    go true false u false e = omega arith
    go false true true v e = omega arith
    go false true false v e = omega arith
    go false false u v e = omega arith

pub hint_turned : (mask a b : ℕ) → eqb (hint_of mask a b) 3 ≡ eqb (hint_of mask b a) 2
hint_turned mask a b = go (eqb a 1) (eqb b 1) (may_become mask a) (may_become mask b)
  where
    go : (p q u v : Bool) → eqb (cond p (cond (q || v) 1 3) (cond q (cond u 1 2) 1)) 3 ≡ eqb (cond q (cond (p || u) 1 3) (cond p (cond v 1 2) 1)) 2
    go true true u v = refl
    go true false u true = refl
    go true false u false = refl
    go false true true v = refl
    go false true false v = refl
    go false false u v = refl

module _ (mask : ℕ) (l r : DataType) where
  -- the cores and the wrappers tell all
  pub may_hint : may_merge mask l r ≡ wrappers_may (hint_of mask (core l) (core r)) mask l r
  unfolding may_merge
  may_hint = go (is_null_core l) (is_null_core r) (may_become mask (core l)) (may_become mask (core r)) (met mask l r) (met mask r l)
    where
      go : (p q u v m n : Bool)
          → cond p (cond q true (v || n)) (cond q (u || m) true)
          ≡ cond (eqb (cond p (cond (q || v) 1 3) (cond q (cond u 1 2) 1)) 2) m (cond (eqb (cond p (cond (q || v) 1 3) (cond q (cond u 1 2) 1)) 3) n true)
      go true true u v m n = refl
      go true false u true m n = refl
      go true false u false m n = refl
      go false true true v m n = refl
      go false true false v m n = refl
      go false false u v m n = refl

  pub may_turned : may_merge mask l r ≡ may_merge mask r l
  may_turned =
      may_judged mask l r
      ∙ judged_turned mask true (core l) (wrappers_of l.shape l.parts) (core r) (wrappers_of r.shape r.parts)
      ∙ sym (may_judged mask r l)

-- two wrappers
module _ (mask : ℕ) (l r v w : DataType) (wl : is_wrapper l.shape.kind ≡ true) (wr : is_wrapper r.shape.kind ≡ true)
    (ev : value_in l.parts ≡ Some v) (ew : value_in r.parts ≡ Some w) where
  abbrev told : DataType → DataType → Bool
  told x y = judged mask true (core x) (wrappers_of x.shape x.parts) (core y) (wrappers_of y.shape y.parts)

  same : l.shape.kind ≡ r.shape.kind → told l r ≡ told v w
  same e =
      rw (wrap_wrappers l.shape l.parts v wl ev, wrap_core l.shape l.parts v wl ev, wrap_wrappers r.shape r.parts w wr ew, wrap_core r.shape r.parts w wr ew, e)
      (judged_same mask true (core v) (wrappers_of v.shape v.parts) (core w) (wrappers_of w.shape w.parts) r.shape.kind)

  pub may_same : l.shape.kind ≡ r.shape.kind → may_merge mask l r ≡ may_merge mask v w
  may_same e = may_judged mask l r ∙ same e ∙ sym (may_judged mask v w)

  module _ (apart : eqb l.shape.kind r.shape.kind ≡ false) where
    cross : told l r ≡ told v r || told l w
    cross =
        rw (wrap_wrappers l.shape l.parts v wl ev, wrap_core l.shape l.parts v wl ev, wrap_wrappers r.shape r.parts w wr ew, wrap_core r.shape r.parts w wr ew)
        (judged_cross mask true (core v) (wrappers_of v.shape v.parts) (core w) (wrappers_of w.shape w.parts) l.shape.kind r.shape.kind apart)

    pub may_cross : may_merge mask l r ≡ may_merge mask v r || may_merge mask l w
    may_cross = may_judged mask l r ∙ cross ∙ ap₂ ◌||◌ (sym (may_judged mask v r)) (sym (may_judged mask l w))

    -- the left's wrapper comes off the only Null
    null_off : met mask r l ≡ met mask r v
    null_off =
        rw (wrap_wrappers l.shape l.parts v wl ev, wrap_wrappers r.shape r.parts w wr ew)
        (meets_off mask r.shape.kind l.shape.kind (wrappers_of w.shape w.parts) (wrappers_of v.shape v.parts)
        (ne_eqb r.shape.kind l.shape.kind (λ e. eqb-false l.shape.kind r.shape.kind apart (sym e))))

    -- where the two can have a common type, so can they without the left's wrapper, unless it stands about a value
    -- and the right's about the only Null
    pub left_may : may_merge mask l r ≡ true → may_merge mask v r ≡ cond (eqb (hint_of mask (core l) (core r)) 2) (met mask v r) true
    left_may h = less ∙ go (eqb (hint_of mask (core l) (core r)) 2) (eqb (hint_of mask (core l) (core r)) 3) (sym (may_hint mask l r) ∙ h)
      where
        less : may_merge mask v r ≡ wrappers_may (hint_of mask (core l) (core r)) mask v r
        less = rw (wrap_core l.shape l.parts v wl ev) (may_hint mask v r)

        go : (a b : Bool) → cond a (met mask l r) (cond b (met mask r l) true) ≡ true → cond a (met mask v r) (cond b (met mask r v) true) ≡ cond a (met mask v r) true
        go true b g = refl
        go false b g = ap (λ (n : Bool). cond b n true) (sym null_off) ∙ g

-- a type less a wrapper has its core
value_core : (t : DataType) (o : Option DataType) → is_wrapper t.shape.kind ≡ true → value_in t.parts ≡ o → core (value_else t o) ≡ core t
value_core t None w e = refl
value_core t (Some v) w e = sym (wrap_core t.shape t.parts v w e)

without_core : (k : ℕ) → is_wrapper k ≡ true → (t : DataType) → core (without k t) ≡ core t
without_core k w t = go (is_of k t) refl
  where
    go : (b : Bool) → is_of k t ≡ b → core (cond b (value_else t (value_in t.parts)) t) ≡ core t
    go true e = value_core t (value_in t.parts) (ap (λ (i : ℕ). is_wrapper i) (eqb-true t.shape.kind k e) ∙ w) refl
    go false e = refl

pub without_value : (k : ℕ) (t v : DataType) → is_of k t ≡ true → value_in t.parts ≡ Some v → without k t ≡ v
without_value k t v e h = rw (e, h) refl

pub without_self : (k : ℕ) (t : DataType) → is_of k t ≡ false → without k t ≡ t
without_self k t e = rw e refl

pub hint_for : (hint mask : ℕ) {x x' y y' : DataType} → x ≡ x' → y ≡ y' → Hint hint mask x y → Hint hint mask x' y'
hint_for hint mask {x} {x'} {y} {y'} e f h = subst (λ (t : DataType). Hint hint mask t y') e (subst (λ (t : DataType). Hint hint mask x t) f h)

-- so the cores leave the same to be asked
hint_off : (mask hint : ℕ) (l r : DataType) (k : ℕ) → is_wrapper k ≡ true → hint ≡ hint_of mask (core l) (core r) → may_merge mask (without k l) (without k r) ≡ true
    → (hint ≡ hint_of mask (core (without k l)) (core (without k r))) × (may_merge mask (without k l) (without k r) ≡ true)
hint_off mask hint l r k w e h = (e ∙ ap₂ (hint_of mask) (sym (without_core k w l)) (sym (without_core k w r)), h)

dictionary_wraps : (t : DataType) → is_of Kind.DICTIONARY t ≡ true → is_wrapper t.shape.kind ≡ true
dictionary_wraps t e = rw e

runs_wrap : (t : DataType) → is_of Kind.RUN_END_ENCODED t ≡ true → is_wrapper t.shape.kind ≡ true
runs_wrap t e = rw (runs_only t e) e

crossed_apart : (l r : DataType) → is_of Kind.DICTIONARY l ≡ true → is_of Kind.RUN_END_ENCODED r ≡ true → eqb l.shape.kind r.shape.kind ≡ false
crossed_apart l r el er = rw (eqb-true l.shape.kind 37 el, eqb-true r.shape.kind 38 er) refl

-- the wrapper that comes off where a Dictionary on the left meets run ends
off_may : (mask : ℕ) (l r v w : DataType) → is_of Kind.DICTIONARY l ≡ true → is_of Kind.RUN_END_ENCODED r ≡ true → value_in l.parts ≡ Some v → value_in r.parts ≡ Some w → (b : Bool)
    → b ≡ may_merge mask v r → may_merge mask l r ≡ true → may_merge mask (without (cond b Kind.DICTIONARY Kind.RUN_END_ENCODED) l) (without (cond b Kind.DICTIONARY Kind.RUN_END_ENCODED) r) ≡ true
off_may mask l r v w el er ev ew true e h = rw (el, ev, runs_only r er) (sym e)
off_may mask l r v w el er ev ew false e h =
    rw (dictionary_only l el, er, ew)
    (ap (λ (b : Bool). b || may_merge mask l w) e ∙ sym (may_cross mask l r v w (dictionary_wraps l el) (runs_wrap r er) ev ew (crossed_apart l r el er)) ∙ h)

-- a Dictionary and run ends that can have a common type: which of the two comes off, and that there can be one
-- without it
pub record Crossing (mask : ℕ) (l r : DataType) (b : Bool) : Type 0 where
  pub both : crosses l r ≡ true
  pub is : may_merge mask l r ≡ true → b ≡ dictionary_may mask l r
  pub on : may_merge mask l r ≡ true → may_merge mask (without (cond b Kind.DICTIONARY Kind.RUN_END_ENCODED) l) (without (cond b Kind.DICTIONARY Kind.RUN_END_ENCODED) r) ≡ true

-- a Dictionary and run ends, by what their cores leave to be asked
module _ (mask : ℕ) (l r : DataType) {h : ℕ} (eh : h ≡ cond (may_merge mask l r) (hint_of mask (core l) (core r)) 0) where
  told_hint : may_merge mask l r ≡ true → h ≡ hint_of mask (core l) (core r)
  told_hint m = eh ∙ rw m refl

  -- either the Dictionary comes off, or the run ends do
  module _ {b : Bool} (c : Crossing mask l r b) where
    abbrev kind : ℕ
    kind = cond (eqb h 0) 0 (cond b Kind.DICTIONARY Kind.RUN_END_ENCODED)

    pub cross_is : kind ≡ chosen_kind mask l r
    unfolding chosen_kind
    cross_is = rw c.both (go (may_merge mask l r) refl)
      where
        go : (m : Bool) → may_merge mask l r ≡ m → kind ≡ cond m (cond (dictionary_may mask l r) 37 38) 0
        go true e = rw (ne_eqb h 0 (λ z. hint_some mask (core l) (core r) (sym (told_hint e) ∙ z)), c.is e) refl
        go false e = rw (eq-eqb h 0 (eh ∙ rw e refl)) refl

    pub cross_on : Hint h mask (without kind l) (without kind r)
    cross_on = go (may_merge mask l r) refl
      where
        go : (m : Bool) → may_merge mask l r ≡ m → Hint h mask (without kind l) (without kind r)
        go true e n = rw (ne_eqb h 0 n) (hint_off mask h l r (cond b 37 38) (one_of_two b) (told_hint e) (c.on e))
        go false e n = absurd (n (eh ∙ rw e refl))

  module _ (v w : DataType) (ev : value_in l.parts ≡ Some v) (ew : value_in r.parts ≡ Some w) {b : Bool} where
    -- a Dictionary on the left
    pub left_crossing : is_of Kind.DICTIONARY l ≡ true → is_of Kind.RUN_END_ENCODED r ≡ true → b ≡ cond (eqb h 2) (met mask v r) true → Crossing mask l r b
    unfolding dictionary_may
    left_crossing el er eb = record { both = rw (el, er); is = λ m. is m ∙ rw (el, ev) refl; on = λ m. off_may mask l r v w el er ev ew b (is m) m }
      where
        is : may_merge mask l r ≡ true → b ≡ may_merge mask v r
        is m =
            eb ∙ ap (λ (i : ℕ). cond (eqb i 2) (met mask v r) true) (told_hint m)
            ∙ sym (left_may mask l r v w (dictionary_wraps l el) (runs_wrap r er) ev ew (crossed_apart l r el er) m)

    -- a Dictionary on the right
    pub right_crossing : is_of Kind.RUN_END_ENCODED l ≡ true → is_of Kind.DICTIONARY r ≡ true → b ≡ cond (eqb h 3) (met mask w l) true → Crossing mask l r b
    unfolding dictionary_may
    right_crossing el er eb =
        record {
          both = rw (runs_only l el, el, er);
          is = λ m. is m ∙ may_turned mask w l ∙ rw (runs_only l el, ew) refl;
          on = λ m. may_turned mask _ _ ∙ off_may mask r l w v er el ew ev b (is m) (may_turned mask r l ∙ m);
        }
      where
        is : may_merge mask l r ≡ true → b ≡ may_merge mask w l
        is m =
            eb ∙ ap (λ (i : ℕ). cond (eqb i 3) (met mask w l) true) (told_hint m)
            ∙ ap (λ (n : Bool). cond n (met mask w l) true) (hint_turned mask (core l) (core r))
            ∙ sym (left_may mask r l w v (dictionary_wraps r er) (runs_wrap l el) ew ev (crossed_apart r l er el) (may_turned mask r l ∙ m))

-- two types of a kind stay so
pub same_on : (mask hint : ℕ) (l r v w : DataType) (k : ℕ) → is_wrapper k ≡ true → is_of k l ≡ true → is_of k r ≡ true → value_in l.parts ≡ Some v → value_in r.parts ≡ Some w
    → Hint hint mask l r → Hint hint mask (without k l) (without k r)
same_on mask hint l r v w k is el er ev ew f n =
    let a = eqb-true l.shape.kind k el in
    let b = eqb-true r.shape.kind k er in
    let wraps : (t : DataType) → t.shape.kind ≡ k → is_wrapper t.shape.kind ≡ true = λ t e. ap (λ (i : ℕ). is_wrapper i) e ∙ is in
    hint_off mask hint l r k is (f n).0 (rw (el, ev, er, ew) (sym (may_same mask l r v w (wraps l a) (wraps r b) ev ew (a ∙ sym b)) ∙ (f n).1))
