-- A Dictionary and run ends: of the two rules the one that `dictionary_may` names has the answer of both. Assumes
-- nothing.
use mathlib.Core.Path.{◌≡◌, refl, ap, ap₂, sym, subst, ◌∙◌}
use mathlib.Core.Bool.{Bool, true, false, cond, ◌&&◌, ◌||◌, or-false, and-true}
use mathlib.Core.List.{List, []}
use mathlib.Core.Logic.{◌⊎◌, inl, inr}
use Rattle.std.specs.Prelude.{Option, None, Some}
use Prim.Native.Nat.{ℕ}
use lib.Dec.{eqb}
use borrow.Author.Tests.{eqb-true, eqb-false}
use Rattle.sheet.specs.declared.kind.TheConstants as Kind
use Rattle.sheet.specs.Types.{Shape, Fields}
use Rattle.sheet.proofs.Booleans.{and_fst, and_snd, or_fst, or_snd}
use Rattle.coercion.specs.Data.{DataType, may_become, or_else, of_kind, plain, is_list_question}
use Rattle.coercion.specs.Wrappers.{value_in, is_of, wrapper_coercion}
use Rattle.coercion.specs.Answers.{coercion}
use Rattle.coercion.proofs.Sameness.{equal_self}
use Rattle.coercion.proofs.Words.{equal_left, or_none}
use Rattle.coercion.specs.declared.Rules.{Rules}
use Rattle.buffers.specs.Target.{type_of}
use Rattle.sheet.specs.Kind.{is_wrapper}
use Rattle.wrappers.specs.Ways.{wrappers_of, core_kind, meets, may_merge, dictionary_may}
use Rattle.wrappers.proofs.Meeting.{judged, judged_same, judged_cross, judged_bare, judged_core, judged_refused, judged_spent}
use Rattle.wrappers.proofs.Cores.{Whole, bare, wrap, core_in, wrapper_is, bare_wrappers, bare_core, wrap_wrappers, wrap_core, core_kind_lem, inner}
use Rattle.wrappers.proofs.Unwrapping.{given, given_none, Kinds, dictionary_first, run_ends_first, wrapper_none, has, way_left, way_right, both_has, cross_has, left_has, right_has, null_left_has, null_right_has}

-- the other kind of wrapper
kinds_of : (k : ℕ) → is_wrapper k ≡ true → (j : ℕ) × Kinds k j
kinds_of k w = go (wrapper_is k w)
  where
    go : (k ≡ 37) ⊎ (k ≡ 38) → (j : ℕ) × Kinds k j
    go (inl e) = (38, subst (λ (i : ℕ). Kinds i 38) (sym e) dictionary_first)
    go (inr e) = (37, subst (λ (i : ℕ). Kinds i 37) (sym e) run_ends_first)

-- two that differ
kinds_cross : (k n : ℕ) → is_wrapper k ≡ true → is_wrapper n ≡ true → eqb k n ≡ false → Kinds k n
kinds_cross k n w w' h = go (wrapper_is k w) (wrapper_is n w')
  where
    go : (k ≡ 37) ⊎ (k ≡ 38) → (n ≡ 37) ⊎ (n ≡ 38) → Kinds k n
    go (inl e) (inl e') = absurd (eqb-false k n h (e ∙ sym e'))
    go (inl e) (inr e') = rw (e, e') dictionary_first
    go (inr e) (inl e') = rw (e, e') run_ends_first
    go (inr e) (inr e') = absurd (eqb-false k n h (e ∙ sym e'))

-- where the cores have a common type, wrappers and Nulls alone tell
pub may_judged : (mask : ℕ) (l r : DataType)
    → may_merge mask l r
    ≡ judged mask true (core_kind l.shape l.parts) (wrappers_of l.shape l.parts) (core_kind r.shape r.parts) (wrappers_of r.shape r.parts)
unfolding may_merge judged
may_judged mask l r = refl

module _ (rules : Rules) (pairs : is_list_question rules.question ≡ false) where
  -- whether two types have a common type is told by their wrappers and cores
  abbrev told : {s : Shape} {p : Fields} {t : Shape} {q : Fields} → Whole s p → Whole t q → Bool
  told {s} {p} {t} {q} x y =
      judged rules.mask (has rules pairs (core_in x) (core_in y)) (core_kind s p) (wrappers_of s p) (core_kind t q) (wrappers_of t q)

  abbrev Told : {s : Shape} {p : Fields} {t : Shape} {q : Fields} → Whole s p → Whole t q → Type 0
  Told {s} {p} {t} {q} x y = has rules pairs (type_of s p) (type_of t q) ≡ told x y

  told_bare : {s : Shape} {p : Fields} {t : Shape} {q : Fields}
      (w : is_wrapper s.kind ≡ false) (e : s.kind ≡ Kind.NULL → type_of s p ≡ plain (of_kind Kind.NULL))
      (w' : is_wrapper t.kind ≡ false) (e' : t.kind ≡ Kind.NULL → type_of t q ≡ plain (of_kind Kind.NULL)) → Told (bare w e) (bare w' e')
  unfolding judged meets core_in
  told_bare {s} {p} {t} {q} w e w' e' =
      rw (bare_wrappers s p w, bare_core s p w, bare_wrappers t q w', bare_core t q w') (go (eqb s.kind 1) refl (eqb t.kind 1) refl)
    where
      go : (a : Bool) → eqb s.kind 1 ≡ a → (b : Bool) → eqb t.kind 1 ≡ b
          → has rules pairs (type_of s p) (type_of t q)
          ≡ cond a (cond b true (may_become rules.mask t.kind || false)) (cond b (may_become rules.mask s.kind || false) (has rules pairs (type_of s p) (type_of t q)))
      go true x true y =
          let same : type_of s p ≡ type_of t q = e (eqb-true s.kind 1 x) ∙ sym (e' (eqb-true t.kind 1 y)) in
          ap given (ap (coercion rules (type_of s p)) (sym same) ∙ equal_left rules (type_of s p) (type_of s p) (equal_self (type_of s p)))
      go true x false y = null_left_has rules pairs (type_of s p) (type_of t q) w w' x y ∙ sym (or-false _)
      go false x true y = null_right_has rules pairs (type_of s p) (type_of t q) w w' x y ∙ sym (or-false _)
      go false x false y = refl

  -- a core on the left
  told_core : {s : Shape} {p : Fields} {t : Shape} {q : Fields}
      (w : is_wrapper s.kind ≡ false) (e : s.kind ≡ Kind.NULL → type_of s p ≡ plain (of_kind Kind.NULL)) (y : Whole t q) → Told (bare w e) y
  unfolding core_in
  told_core w e (bare w' e') = told_bare w e w' e'
  told_core {s} {p} w e (wrap {s = t} {p = q} u w' eu y) =
      right_has rules pairs (kinds_of t.kind w').1 (type_of s p) (type_of t q) u refl w eu
      ∙ ap (λ (h : Bool). h || (eqb s.kind 1 && may_become rules.mask t.kind)) (told_core w e y)
      ∙ rw (wrap_wrappers t q u w' eu, wrap_core t q u w' eu, bare_wrappers s p w, bare_core s p w)
      (sym (judged_core rules.mask (has rules pairs (type_of s p) (core_in y)) s.kind (core_kind u.shape u.parts) (wrappers_of u.shape u.parts) t.kind))

  -- a wrapper on the left, with what is known of its value
  module _ (s : Shape) (p : Fields) (v : DataType) (w : is_wrapper s.kind ≡ true) (ev : value_in p ≡ Some v) (x : Whole v.shape v.parts)
      (below : (t : Shape) (q : Fields) (y : Whole t q) → Told x y)
    where
      -- two wrappers
      told_both : (t : Shape) (q : Fields) (u : DataType) (w' : is_wrapper t.kind ≡ true) (eu : value_in q ≡ Some u) (y : Whole u.shape u.parts)
          → Told (wrap {s = s} {p = p} v w ev x) y → Told (wrap {s = s} {p = p} v w ev x) (wrap {s = t} {p = q} u w' eu y)
      unfolding core_in
      told_both t q u w' eu y beside = go (eqb s.kind t.kind) refl
        where
          answer : Bool
          answer = has rules pairs (core_in x) (core_in y)

          a : ℕ
          a = core_kind v.shape v.parts

          ks : List ℕ
          ks = wrappers_of v.shape v.parts

          b : ℕ
          b = core_kind u.shape u.parts

          ns : List ℕ
          ns = wrappers_of u.shape u.parts

          go : (same : Bool) → eqb s.kind t.kind ≡ same
              → has rules pairs (type_of s p) (type_of t q) ≡ judged rules.mask answer (core_kind s p) (wrappers_of s p) (core_kind t q) (wrappers_of t q)
          go true e =
              let k = eqb-true s.kind t.kind e in
              both_has rules pairs (kinds_of s.kind w).1 (type_of s p) (type_of t q) v u refl (sym k) ev eu
              ∙ below u.shape u.parts y
              ∙ rw (wrap_wrappers s p v w ev, wrap_core s p v w ev, wrap_wrappers t q u w' eu, wrap_core t q u w' eu, k)
              (sym (judged_same rules.mask answer a ks b ns t.kind))
          go false e =
              cross_has rules pairs (kinds_cross s.kind t.kind w w' e) (type_of s p) (type_of t q) v u refl refl ev eu
              ∙ ap₂ ◌||◌ (below t q (wrap u w' eu y)) beside
              ∙ rw (wrap_wrappers s p v w ev, wrap_core s p v w ev, wrap_wrappers t q u w' eu, wrap_core t q u w' eu)
              (sym (judged_cross rules.mask answer a ks b ns s.kind t.kind e))

      told_wrap : {t : Shape} {q : Fields} (y : Whole t q) → Told (wrap {s = s} {p = p} v w ev x) y
      unfolding core_in
      told_wrap (bare {s = t} {p = q} w' e) =
          left_has rules pairs (kinds_of s.kind w).1 (type_of s p) (type_of t q) v refl w' ev
          ∙ ap (λ (h : Bool). h || (eqb t.kind 1 && may_become rules.mask s.kind)) (below t q (bare w' e))
          ∙ rw (wrap_wrappers s p v w ev, wrap_core s p v w ev, bare_wrappers t q w', bare_core t q w')
          (sym (judged_bare rules.mask (has rules pairs (core_in x) (type_of t q)) (core_kind v.shape v.parts) (wrappers_of v.shape v.parts) t.kind [] s.kind))
      told_wrap (wrap {s = t} {p = q} u w' eu y) = told_both t q u w' eu y (told_wrap y)

  pub has_told : {s : Shape} {p : Fields} {t : Shape} {q : Fields} (x : Whole s p) (y : Whole t q) → Told x y
  has_told (bare w e) y = told_core w e y
  has_told (wrap {s} {p} v w ev x) y = told_wrap s p v w ev x (λ t q y. has_told x y) y

  module _ (l r : DataType) (x : Whole l.shape l.parts) (y : Whole r.shape r.parts) where
    -- a pair that wrappers and Nulls rule out has no common type
    pub refused : may_merge rules.mask l r ≡ false → has rules pairs l r ≡ false
    refused h =
        has_told x y
        ∙ judged_refused rules.mask (has rules pairs (core_in x) (core_in y)) (core_kind l.shape l.parts) (wrappers_of l.shape l.parts) (core_kind r.shape r.parts) (wrappers_of r.shape r.parts)
        (sym (may_judged rules.mask l r) ∙ h)

    -- where they do not and there is none, there is none with other wrappers about the cores
    spent : (u v : DataType) (i : Whole u.shape u.parts) (j : Whole v.shape v.parts) → core_in i ≡ core_in x → core_in j ≡ core_in y
        → may_merge rules.mask l r ≡ true → has rules pairs l r ≡ false → has rules pairs u v ≡ false
    spent u v i j ei ej h g =
        let a = core_kind_lem i ∙ ap (λ (t : DataType). t.shape.kind) ei ∙ sym (core_kind_lem x) in
        let b = core_kind_lem j ∙ ap (λ (t : DataType). t.shape.kind) ej ∙ sym (core_kind_lem y) in
        has_told i j
        ∙ (λ d. judged rules.mask (has rules pairs (ei d) (ej d)) (a d) (wrappers_of u.shape u.parts) (b d) (wrappers_of v.shape v.parts))
        ∙ judged_spent rules.mask (has rules pairs (core_in x) (core_in y)) (core_kind l.shape l.parts) (wrappers_of l.shape l.parts) (core_kind r.shape r.parts) (wrappers_of r.shape r.parts)
        (wrappers_of u.shape u.parts) (wrappers_of v.shape v.parts) (sym (may_judged rules.mask l r) ∙ h) (sym (has_told x y) ∙ g)

-- the one of two answers that is asked for is the first that is there, if it is asked for well
chosen : (f : ℕ → Option DataType) (m : Bool) → (m ≡ false → given (f 37) ≡ false) → (m ≡ true → given (f 37) ≡ false → given (f 38) ≡ false)
    → or_else (f 37) (f 38) ≡ f (cond m 37 38)
chosen f true h g = go (f 37) refl
  where
    go : (o : Option DataType) → f 37 ≡ o → or_else o (f 38) ≡ o
    go None e = given_none (f 38) (g refl (ap given e))
    go (Some t) e = refl
chosen f false h g = rw (given_none (f 37) (h refl))

-- a Dictionary and run ends, in either order
abbrev pub Crossed : DataType → DataType → Type 0
Crossed l r =
    ((is_of Kind.DICTIONARY l ≡ true) × (is_of Kind.RUN_END_ENCODED r ≡ true)) ⊎ ((is_of Kind.RUN_END_ENCODED l ≡ true) × (is_of Kind.DICTIONARY r ≡ true))

pub crossed : (l r : DataType)
    → (is_of Kind.DICTIONARY l && is_of Kind.RUN_END_ENCODED r) || (is_of Kind.RUN_END_ENCODED l && is_of Kind.DICTIONARY r) ≡ true → Crossed l r
crossed l r = go (is_of 37 l) (is_of 38 r) (is_of 38 l) (is_of 37 r)
  where
    go : (a b d e : Bool) → (a && b) || (d && e) ≡ true → ((a ≡ true) × (b ≡ true)) ⊎ ((d ≡ true) × (e ≡ true))
    go true true d e h = inl (refl, refl)
    go true false d e h = inr (and_fst d e h, and_snd d e h)
    go false b d e h = inr (and_fst d e h, and_snd d e h)

-- kinds that are not two at once
pub dictionary_only : (t : DataType) → is_of Kind.DICTIONARY t ≡ true → is_of Kind.RUN_END_ENCODED t ≡ false
dictionary_only t h = ap (λ (k : ℕ). eqb k 38) (eqb-true t.shape.kind 37 h)

pub runs_only : (t : DataType) → is_of Kind.RUN_END_ENCODED t ≡ true → is_of Kind.DICTIONARY t ≡ false
runs_only t h = ap (λ (k : ℕ). eqb k 37) (eqb-true t.shape.kind 38 h)

module _ (rules : Rules) (pairs : is_list_question rules.question ≡ false) (l r : DataType) (x : Whole l.shape l.parts) (y : Whole r.shape r.parts) where
  dictionary_left : is_of Kind.DICTIONARY l ≡ true → is_of Kind.RUN_END_ENCODED r ≡ true
      → or_else (wrapper_coercion 37 (coercion rules) l r) (wrapper_coercion 38 (coercion rules) l r)
      ≡ wrapper_coercion (cond (dictionary_may rules.mask l r) 37 38) (coercion rules) l r
  unfolding dictionary_may
  dictionary_left el er =
      let i = inner x (rw el) in
      let j = inner y (rw (runs_only r er) er) in
      let first = way_left rules pairs 37 l r i.value el (runs_only r er) i.is in
      let second = way_right rules pairs 38 l r j.value (dictionary_only l el) er j.is in
      rw (el, i.is)
      (chosen (λ k. wrapper_coercion k (coercion rules) l r) (may_merge rules.mask i.value r) (λ m. first ∙ refused rules pairs i.value r i.whole y m)
      (λ m n. second ∙ spent rules pairs i.value r i.whole y l j.value x j.whole (sym i.core) j.core m (sym first ∙ n)))

  dictionary_right : is_of Kind.RUN_END_ENCODED l ≡ true → is_of Kind.DICTIONARY r ≡ true
      → or_else (wrapper_coercion 37 (coercion rules) l r) (wrapper_coercion 38 (coercion rules) l r)
      ≡ wrapper_coercion (cond (dictionary_may rules.mask l r) 37 38) (coercion rules) l r
  unfolding dictionary_may
  dictionary_right el er =
      let i = inner x (rw (runs_only l el) el) in
      let j = inner y (rw er) in
      let first = way_right rules pairs 37 l r j.value (runs_only l el) er j.is in
      let second = way_left rules pairs 38 l r i.value el (dictionary_only r er) i.is in
      rw (runs_only l el, j.is)
      (chosen (λ k. wrapper_coercion k (coercion rules) l r) (may_merge rules.mask l j.value) (λ m. first ∙ refused rules pairs l j.value x j.whole m)
      (λ m n. second ∙ spent rules pairs l j.value x j.whole i.value r i.whole y i.core (sym j.core) m (sym first ∙ n)))

-- "Where a Dictionary meets run ends and neither core is Null, or both are, the rule for Dictionaries answers
-- wherever the rule for run ends does"; else the walk over the wrappers tells, so one of the two rules is enough
pub one_way : (rules : Rules) → is_list_question rules.question ≡ false → (l r : DataType) → Whole l.shape l.parts → Whole r.shape r.parts → Crossed l r
    → or_else (wrapper_coercion Kind.DICTIONARY (coercion rules) l r) (wrapper_coercion Kind.RUN_END_ENCODED (coercion rules) l r)
    ≡ wrapper_coercion (cond (dictionary_may rules.mask l r) Kind.DICTIONARY Kind.RUN_END_ENCODED) (coercion rules) l r
one_way rules pairs l r x y (inl h) = dictionary_left rules pairs l r x y h.0 h.1
one_way rules pairs l r x y (inr h) = dictionary_right rules pairs l r x y h.0 h.1

-- all other pairs: a Dictionary's rule where there is one, else that for run ends
pub only_way : (c : DataType → DataType → Option DataType) (l r : DataType)
    → (is_of Kind.DICTIONARY l && is_of Kind.RUN_END_ENCODED r) || (is_of Kind.RUN_END_ENCODED l && is_of Kind.DICTIONARY r) ≡ false
    → or_else (wrapper_coercion Kind.DICTIONARY c l r) (wrapper_coercion Kind.RUN_END_ENCODED c l r)
    ≡ wrapper_coercion (cond (is_of Kind.DICTIONARY l || is_of Kind.DICTIONARY r) Kind.DICTIONARY Kind.RUN_END_ENCODED) c l r
only_way c l r h = go (is_of 37 l) refl (is_of 37 r) refl
  where
    first : is_of 38 l ≡ false → is_of 38 r ≡ false → or_else (wrapper_coercion 37 c l r) (wrapper_coercion 38 c l r) ≡ wrapper_coercion 37 c l r
    first x y = rw (wrapper_none 38 c l r x y) (or_none _)

    go : (a : Bool) → is_of 37 l ≡ a → (b : Bool) → is_of 37 r ≡ b
        → or_else (wrapper_coercion 37 c l r) (wrapper_coercion 38 c l r) ≡ wrapper_coercion (cond (a || b) 37 38) c l r
    go true x b y = first (dictionary_only l x) (rw x at (or_fst (is_of 37 l && is_of 38 r) (is_of 38 l && is_of 37 r) h))
    go false x true y =
        first (sym (and-true (is_of 38 l)) ∙ (rw y at (or_snd (is_of 37 l && is_of 38 r) (is_of 38 l && is_of 37 r) h))) (dictionary_only r y)
    go false x false y = rw (wrapper_none 37 c l r x y)
