-- A candidate that stays as it is, by its core. Assumes nothing.
use mathlib.Core.Path.{◌≡◌, refl, ap, ap₂, sym, subst, ◌∙◌}
use Rattle.std.proofs.lemmas.Option.{same_Some}
use mathlib.Core.Bool.{Bool, true, false, cond, not, ◌&&◌, or-false}
use mathlib.Core.List.{List, [], ◌∷◌}
use mathlib.Core.Logic.{◌⊎◌, inl, inr}
use Rattle.std.specs.Prelude.{Option, None, Some}
use Rattle.std.specs.List.{last_or}
use Prim.Native.Nat.{ℕ, ◌<◌, ◌≤◌}
use native.Mathlib.Omega.{arith}
use borrow.Author.Tests.{not-true, eq-eqb, ne_eqb, eqb-true}
use lib.Dec.{eqb}
use Rattle.std.proofs.lemmas.Bool.Decides.{nat_tests}
use Rattle.sheet.specs.Kind.{is_kind, is_decimal, sized, last_unit, names_parts, is_wrapper}
use Rattle.sheet.specs.Booleans.{between}
use Rattle.sheet.specs.Types.{Zone, present, Shape, Fields, end, field, arity}
use Rattle.sheet.specs.Refusals.{figure_right, size_right, figures_right}
use Rattle.sheet.specs.Carried.{is_zoned, FieldRight, FieldsRight}
use Rattle.sheet.specs.Read.{label_at, zone_of}
use Rattle.sheet.specs.Head.{head_at, zoned_in, zone_at, zone_len}
use Rattle.sheet.specs.declared.Head.{Head}
use Rattle.sheet.proofs.Booleans.{never, and_fst, and_snd, all_at}
use Rattle.coercion.specs.Data.{DataType, and_then, figures_of, of_unit, zoned, for_list}
use Rattle.coercion.specs.Same.{equal}
use Rattle.coercion.specs.Times.{timeunit_coercion, zone_coercion, temporal_coercion_nonstrict_timezone}
use Rattle.coercion.specs.Wrappers.{value_in}
use Rattle.coercion.specs.Answers.{coercion, ask, wrapped, keep_dictionary, run_ends_of}
use Rattle.coercion.proofs.Fuel.{coercion_asks}
use Rattle.coercion.proofs.Sameness.{equal_same}
use Rattle.coercion.specs.declared.Question.{Question}
use Rattle.coercion.specs.declared.Rules.{Rules}
use Rattle.buffers.specs.Target.{type_of}
use Rattle.buffers.specs.Region.{Held}
use Rattle.plain.specs.Plain.{plain_rules}
use Rattle.plain.specs.Steps.{Figured, Reads, step_of}
use Rattle.buffers.specs.Typed.{Typed}
use Rattle.buffers.specs.declared.Space.{Space}
use Rattle.plain.specs.declared.step.Step.{Step}
use Rattle.buffers.proofs.Sources.{link_inside, read_shape}
use Rattle.buffers.proofs.Chained.{held_first, held_next}
use Rattle.buffers.proofs.Fielding.{typed_reads}
use Rattle.plain.specs.Laws.{picked}
use Rattle.plain.proofs.Picking.{spoken}
use Rattle.wrappers.specs.Ways.{wrappers_of}
use Rattle.wrappers.proofs.Cores.{missing, wrapper_is, two_parts, bare_wrappers, wrap_wrappers}
use Rattle.wrappers.proofs.Values.{Two, typed_two, value_of}
use Rattle.resolution.specs.declared.keep.Bottom.{Bottom}
use Rattle.plain.specs.declared.value.PlainType.{PlainType}
use Rattle.plain.specs.Value.{is_plain, plain_type_of, Valued}
use Rattle.resolution.specs.Keeps.{core_of, with_core, CoreAlone, lays_view, CoreAt, BottomAt, inner_kind, gives_way, stays_zoned}
use Rattle.plain.proofs.Valuing.{no_parts, plain_type_low}
use Rattle.plain.proofs.Plain.{plain_answer}
use Rattle.resolution.proofs.Valued.{typed_right, plain_valued}

pub by_test : {A : Type 0} (b : Bool) → (b ≡ true → A) → (b ≡ false → A) → A
by_test true f g = f refl
by_test false f g = g refl

cond_self : {A : Type 0} (b : Bool) (a : A) → cond b a a ≡ a
cond_self true a = refl
cond_self false a = refl

-- a field whose parent names no parts
plain_name : {up : ℕ} (name : List ℕ) (nullable : Bool) {shape : Shape} {parts : Fields} → names_parts up ≡ false → FieldRight up name nullable shape parts → (s : Shape) (p : Fields)
    → field name nullable s p end ≡ field [] false s p end
plain_name [] false n a s p = refl
plain_name [] true n a s p = never (sym n ∙ a.may_be_null)
plain_name (b ∷ bs) nullable n a s p = never (sym n ∙ a.may_be_named)

pub plain_field : {up : ℕ} (name : List ℕ) (nullable : Bool) (shape : Shape) (parts : Fields) → names_parts up ≡ false → FieldRight up name nullable shape parts
    → field name nullable shape parts end ≡ field [] false shape parts end
plain_field name nullable shape parts n a = plain_name name nullable n a shape parts

-- the core of a type that is no wrapper, and of one that is
pub core_bare : (s : Shape) (p : Fields) → is_wrapper s.kind ≡ false → core_of s p ≡ type_of s p
unfolding core_of
core_bare s end h = refl
core_bare s (field n b s₁ p₁ end) h = refl
core_bare s (field n b s₁ p₁ (field n₂ b₂ s₂ p₂ q)) h = rw h

pub core_wrap : (s : Shape) (p : Fields) (v : DataType) → is_wrapper s.kind ≡ true → value_in p ≡ Some v → core_of s p ≡ core_of v.shape v.parts
unfolding core_of
core_wrap s end v w e = missing e
core_wrap s (field n b s₁ p₁ end) v w e = missing e
core_wrap s (field n b s₁ p₁ (field n₂ b₂ s₂ p₂ q)) v w e = rw w (ap (λ (t : DataType). core_of t.shape t.parts) (same_Some _ _ e))

-- a type with another core
pub with_bare : (s : Shape) (p : Fields) (t : DataType) → is_wrapper s.kind ≡ false → with_core s p t ≡ t
unfolding with_core
with_bare s end t h = refl
with_bare s (field n b s₁ p₁ end) t h = refl
with_bare s (field n b s₁ p₁ (field n₂ b₂ s₂ p₂ q)) t h = rw h

pub with_wrap : (s : Shape) (n : List ℕ) (b : Bool) (s₁ : Shape) (p₁ : Fields) (n₂ : List ℕ) (b₂ : Bool) (s₂ : Shape) (p₂ : Fields) (t : DataType) → is_wrapper s.kind ≡ true
    → with_core s (field n b s₁ p₁ (field n₂ b₂ s₂ p₂ end)) t ≡ type_of s (field n b s₁ p₁ (field n₂ b₂ (with_core s₂ p₂ t).shape (with_core s₂ p₂ t).parts end))
unfolding with_core
with_wrap s n b s₁ p₁ n₂ b₂ s₂ p₂ t h = rw h

-- a type with its own core
with_own : (s : Shape) (p : Fields) → with_core s p (core_of s p) ≡ type_of s p
unfolding core_of with_core
with_own s end = refl
with_own s (field n b s₁ p₁ end) = refl
with_own s (field n b s₁ p₁ (field n₂ b₂ s₂ p₂ q)) =
    by_test (is_wrapper s.kind) (λ e. rw e (ap (λ (t : DataType). type_of s (field n b s₁ p₁ (field n₂ b₂ t.shape t.parts q))) (with_own s₂ p₂))) (λ e. rw e refl)

-- a wrapper is no Utf8View, whatever its core; another type is its own core, and stands directly in the last wrapper
with_view : (s : Shape) (p : Fields) (last : Option ℕ) (t : DataType) → (last_or last (wrappers_of s p) ≡ last → t.shape.kind ≡ 27 → ⊥) → (with_core s p t).shape.kind ≡ 27 → ⊥
unfolding with_core wrappers_of
with_view s end last t n e = n refl e
with_view s (field n₁ b s₁ p₁ end) last t n e = n refl e
with_view s (field n₁ b s₁ p₁ (field n₂ b₂ s₂ p₂ q)) last t n e =
    by_test (is_wrapper s.kind) (λ w. let k = rw w at e in never (sym (ap (λ (i : ℕ). is_wrapper i) k) ∙ w))
    (λ w. n (ap (last_or last) (bare_wrappers s (field n₁ b s₁ p₁ (field n₂ b₂ s₂ p₂ q)) w)) (rw w at e))

-- the second of two parts
second_above : {space : Space} {s : List ℕ} {at link r o up : ℕ} {f : Fields} (x : Two f) → Held space s at link r o up f → (g : Head) → g ≡ head_at s link → at < g.next
second_above {space} {s} {at} {link} {r} {o} {up} x a g e =
    let q = subst (Held space s at link r o up) x.is a in
    let v = (held_next q g e).source.leads in
    omega (arith, q.source.leads.is, q.source.leads.above, v.is, v.above)

-- a kind below the wrappers, and one that is not
no_wrapper : (k : ℕ) → k < 37 → is_wrapper k ≡ false
no_wrapper k h = rw (ne_eqb k 37 (λ e. omega arith), ne_eqb k 38 (λ e. omega arith)) refl

a_wrapper : (k : ℕ) → 37 ≤ k → is_kind k ≡ true → is_wrapper k ≡ true
unfolding is_kind between
a_wrapper k h e = grind (arith, nat_tests)

-- where the walk down the wrappers, past a last one, ends for the type at the record where it is
pub record CoreFound (space : Space) (s : List ℕ) (at : ℕ) (last : Option ℕ) (bottom : Bottom) : Type 0 where
  pub is : (t : DataType) → Typed space s at t → Typed space s bottom.core (core_of t.shape t.parts) × (last_or last (wrappers_of t.shape t.parts) ≡ bottom.wrapper)

module _ {space : Space} {s : List ℕ} {at : ℕ} where
  pub found_past : {last : Option ℕ} → space.n ≤ at → CoreFound space s at last (record { core = at; wrapper = last })
  found_past h = record { is = λ t a. absurd (omega (arith, link_inside a.chain.held.source)) }

  module _ (h : Head) (e : h ≡ head_at s at) where
    pub found_here : {last : Option ℕ} → h.kind < 37 → CoreFound space s at last (record { core = at; wrapper = last })
    found_here {last} z =
        record {
          is =
              λ t a.
              let n = no_wrapper t.shape.kind (omega (arith, (typed_reads a e).kind)) in
              (subst (Typed space s at) (sym (core_bare t.shape t.parts n)) a, ap (last_or last) (bare_wrappers t.shape t.parts n));
        }

    module _ (z : 37 ≤ h.kind) (g : Head) (eg : g ≡ head_at s h.first) where
      wraps : {t : DataType} → Typed space s at t → is_wrapper t.shape.kind ≡ true
      wraps {t} a = let r = typed_reads a e in a_wrapper t.shape.kind (omega (arith, r.kind)) r.known

      -- the value stands behind its wrapper
      value_above : {t : DataType} → Typed space s at t → at < g.next
      value_above a = second_above (typed_two (wraps a) refl a) (held_first a.chain.held h e) g eg

      pub found_lost : {last : Option ℕ} → g.next ≤ at → CoreFound space s at last (record { core = at; wrapper = last })
      found_lost h = record { is = λ t a. absurd (omega (arith, value_above a)) }

      pub found_down : {last : Option ℕ} {bottom : Bottom} → CoreFound space s g.next (Some h.kind) bottom → CoreFound space s at last bottom
      found_down {last} {bottom} f =
          record {
            is =
                λ t a.
                let v = value_of (wraps a) refl (ap (λ (x : Head). x.next) eg ∙ ap (λ (x : Head). (head_at s x.first).next) e) a in
                let below = f.is v.type v.typed in (
                  subst (Typed space s bottom.core) (sym (core_wrap t.shape t.parts v.type (wraps a) v.is)) below.0,
                  ap (last_or last) (wrap_wrappers t.shape t.parts v.type (wraps a) v.is)
                      ∙ ap (λ (k : ℕ). last_or (Some k) (wrappers_of v.type.shape v.type.parts)) (typed_reads a e).kind
                      ∙ below.1,
                );
          }

-- where it ends for the type at the record where it begins
pub found_from : {space : Space} {s : List ℕ} {r : ℕ} {bottom : Bottom} → CoreFound space s r None bottom → BottomAt space s r bottom
found_from f = record { core = record { is = λ t a. (f.is t a).0 }; inner = λ t a. (f.is t a).1 }

-- a Timestamp is its unit and its zone
module _ (t : DataType) (h : FieldRight 0 [] false t.shape t.parts) (e : t.shape.kind ≡ 22) where
  stamp_is : t ≡ zoned (of_unit 22 t.shape.figure) t.shape.zone
  unfolding figures_right figure_right is_decimal between last_unit size_right sized
  stamp_is =
      let f : figures_right 22 t.shape.figure t.shape.scale t.shape.size t.shape.sorted (is_zoned t.shape.zone) ≡ true =
      subst (λ (k : ℕ). figures_right k t.shape.figure t.shape.scale t.shape.size t.shape.sorted (is_zoned t.shape.zone) ≡ true) e h.figures in
      let scale = eqb-true t.shape.scale 0 (all_at _ 1 (all_at _ 0 f)) in
      let size = eqb-true t.shape.size 0 (all_at _ 1 f) in
      let sorted : t.shape.sorted ≡ false = not-true t.shape.sorted (sym (or-false (not t.shape.sorted)) ∙ all_at _ 2 f) in
      let parts = no_parts t.shape.kind t.parts (omega (arith, e)) h.filled in
      λ i. record { shape = record { kind = e i; figure = t.shape.figure; scale = scale i; size = size i; sorted = sorted i; zone = t.shape.zone }; parts = parts i }

  own_figured : Figured (figures_of t) t
  own_figured = record { kind = refl; figure = refl; scale = refl; known = h.known; bare = λ q. never (sym q ∙ eq-eqb t.shape.kind 22 e) }

-- a step that lays no Utf8View makes none of two other types
step_view : (step : Option Step) (l r u : DataType) (b : Bool) → lays_view step ≡ false → (l.shape.kind ≡ 27 → ⊥) → (r.shape.kind ≡ 27 → ⊥) → cond b (Some l) (step_of step l r) ≡ Some u
    → u.shape.kind ≡ 27 → ⊥
step_view step l r u true h n m q e = n (ap (λ (t : DataType). t.shape.kind) (same_Some _ _ q) ∙ e)
step_view (Some (Step.Lay f)) l r u false h n m q e = never (sym h ∙ eq-eqb f.kind 27 (ap (λ (t : DataType). t.shape.kind) (same_Some _ _ q) ∙ e))
step_view (Some (Step.Stamp unit)) l r u false h n m q e = let k : ◌≡◌ {A = ℕ} 22 27 = ap (λ (t : DataType). t.shape.kind) (same_Some _ _ q) ∙ e in omega (arith, k)
step_view (Some Step.Left) l r u false h n m q e = n (ap (λ (t : DataType). t.shape.kind) (same_Some _ _ q) ∙ e)
step_view (Some Step.Right) l r u false h n m q e = m (ap (λ (t : DataType). t.shape.kind) (same_Some _ _ q) ∙ e)
step_view None l r u false h n m q e = missing q

-- what is made of a core is no Utf8View where a Dictionary is directly around it
abbrev NoView : Option ℕ → Option DataType → Type 0
NoView kind m = kind ≡ Some 37 → (t : DataType) → m ≡ Some t → t.shape.kind ≡ 27 → ⊥

module _ (given : Rules) where
  abbrev rules : Rules
  rules = for_list given

  -- a type that is the candidate itself
  pub equal_kept : (t c : DataType) → equal t c ≡ true → coercion rules t c ≡ Some c
  equal_kept t c e = coercion_asks rules t c ∙ rw e (ap (λ (y : DataType). Some y) (equal_same t c e))

  -- a wrapper and a type that is none, whichever stands left
  module _ (x : DataType) (low : x.shape.kind < 32) where
    other : (k : ℕ) → 32 ≤ k → eqb x.shape.kind k ≡ false
    other k h = ne_eqb x.shape.kind k (λ e. omega arith)

    -- both orders give what is made of the value
    Both : DataType → Option DataType → Type 0
    Both d m = (coercion rules d x ≡ m) × (coercion rules x d ≡ m)

    unequal : (l r : DataType) (m : Option DataType) → (l.shape.kind ≡ r.shape.kind → ⊥) → cond (equal l r) (Some l) m ≡ m
    unequal l r m n = go (equal l r) refl
      where
        go : (b : Bool) → equal l r ≡ b → cond b (Some l) m ≡ m
        go true h = absurd (n (ap (λ (t : DataType). t.shape.kind) (equal_same l r h)))
        go false h = refl

    both_orders : (d : DataType) (m : Option DataType) → 32 ≤ d.shape.kind → ask Question.List rules (coercion rules) d x ≡ cond (equal d x) (Some d) m
        → ask Question.List rules (coercion rules) x d ≡ cond (equal x d) (Some x) m → Both d m
    unfolding Both
    both_orders d m h p q = (coercion_asks rules d x ∙ p ∙ unequal d x m (λ e. omega arith), coercion_asks rules x d ∙ q ∙ unequal x d m (λ e. omega arith))

    dictionary_orders : (d : DataType) → d.shape.kind ≡ 37 → Both d (wrapped (coercion rules) d x keep_dictionary)
    dictionary_orders d e =
        both_orders d (wrapped (coercion rules) d x keep_dictionary) (omega arith) (rw (eq-eqb d.shape.kind 37 e, other 37 (omega arith)) refl)
        (rw (other 37 (omega arith), eq-eqb d.shape.kind 37 e) refl)

    run_ends_orders : (d : DataType) → d.shape.kind ≡ 38 → Both d (wrapped (coercion rules) d x (λ d t. run_ends_of d d.parts t))
    run_ends_orders d e =
        let n = ne_eqb d.shape.kind 37 (λ q. omega arith) in
        both_orders d (wrapped (coercion rules) d x (λ d t. run_ends_of d d.parts t)) (omega arith)
        (rw (n, other 37 (omega arith), eq-eqb d.shape.kind 38 e, other 38 (omega arith)) refl)
        (rw (other 37 (omega arith), n, other 38 (omega arith), eq-eqb d.shape.kind 38 e) refl)

    -- a wrapper around a value with another core
    wrapper_with : (up : ℕ) (name : List ℕ) (nullable : Bool) (shape : Shape) (n : List ℕ) (b : Bool) (s : Shape) (p : Fields) (n₂ : List ℕ) (b₂ : Bool) (s₂ : Shape) (p₂ q rest : Fields)
        → FieldsRight up (field name nullable shape (field n b s p (field n₂ b₂ s₂ p₂ q)) rest) → is_wrapper shape.kind ≡ true → (m : Option DataType)
        → NoView (last_or (Some shape.kind) (wrappers_of s₂ p₂)) m
        → coercion rules (type_of s₂ p₂) x ≡ and_then m (λ t. Some (with_core s₂ p₂ t))
        → Both (type_of shape (field n b s p (field n₂ b₂ s₂ p₂ q)))
        (and_then m (λ t. Some (type_of shape (field n b s p (field n₂ b₂ (with_core s₂ p₂ t).shape (with_core s₂ p₂ t).parts q)))))
    unfolding arity names_parts between Both
    wrapper_with up name nullable shape n b s p n₂ b₂ s₂ p₂ (field n₃ b₃ s₃ p₃ q) rest h w m v k = absurd (omega (arith, two_parts _ _ w h.0.filled))
    wrapper_with up name nullable shape n b s p n₂ b₂ s₂ p₂ end rest h w m v k = go (wrapper_is shape.kind w)
      where
        d : DataType
        d = type_of shape (field n b s p (field n₂ b₂ s₂ p₂ end))

        made : Option DataType
        made = and_then m (λ t. Some (type_of shape (field n b s p (field n₂ b₂ (with_core s₂ p₂ t).shape (with_core s₂ p₂ t).parts end))))

        kept : shape.kind ≡ 37 → (m : Option DataType) → NoView (last_or (Some shape.kind) (wrappers_of s₂ p₂)) m → and_then (and_then m (λ t. Some (with_core s₂ p₂ t))) (λ t. keep_dictionary d t)
            ≡ and_then m (λ t. Some (type_of shape (field n b s p (field n₂ b₂ (with_core s₂ p₂ t).shape (with_core s₂ p₂ t).parts end))))
        kept e None v = refl
        kept e (Some t) v =
            rw (ne_eqb (with_core s₂ p₂ t).shape.kind 27 (with_view s₂ p₂ (Some shape.kind) t (λ q. v (q ∙ ap (λ (i : ℕ). Some i) e) t refl)))
            (ap (λ (f : Fields). Some (type_of shape (field n b s p f)))
            (sym (plain_name n₂ b₂ (ap (λ (i : ℕ). names_parts i) e) h.1.0.1.1.0 (with_core s₂ p₂ t).shape (with_core s₂ p₂ t).parts)))

        ends : (m : Option DataType) → and_then (and_then m (λ t. Some (with_core s₂ p₂ t))) (λ t. run_ends_of d d.parts t)
            ≡ and_then m (λ t. Some (type_of shape (field n b s p (field n₂ b₂ (with_core s₂ p₂ t).shape (with_core s₂ p₂ t).parts end))))
        ends None = refl
        ends (Some t) = refl

        go : (shape.kind ≡ 37) ⊎ (shape.kind ≡ 38) → Both d made
        go (inl e) =
            let a = dictionary_orders d e in let g = ap (λ (o : Option DataType). and_then o (λ t. keep_dictionary d t)) k ∙ kept e m v in (a.0 ∙ g, a.1 ∙ g)
        go (inr e) =
            let a = run_ends_orders d e in let g = ap (λ (o : Option DataType). and_then o (λ t. run_ends_of d d.parts t)) k ∙ ends m in (a.0 ∙ g, a.1 ∙ g)

    itself : (m : Option DataType) → m ≡ and_then m (λ t. Some t)
    itself None = refl
    itself (Some t) = refl

    -- so is a type whose core is made another
    core_with : (up : ℕ) (name : List ℕ) (nullable : Bool) (shape : Shape) (parts rest : Fields) (last : Option ℕ) → FieldsRight up (field name nullable shape parts rest)
        → NoView (last_or last (wrappers_of shape parts)) (coercion rules (core_of shape parts) x)
        → (coercion rules (type_of shape parts) x ≡ and_then (coercion rules (core_of shape parts) x) (λ t. Some (with_core shape parts t)))
        × (is_wrapper shape.kind ≡ true → coercion rules x (type_of shape parts) ≡ and_then (coercion rules (core_of shape parts) x) (λ t. Some (with_core shape parts t)))
    unfolding core_of with_core wrappers_of arity Both
    core_with up name nullable shape end rest last h v = (itself _, λ w. absurd (omega (arith, two_parts _ _ w h.0.filled)))
    core_with up name nullable shape (field n b s p end) rest last h v = (itself _, λ w. absurd (omega (arith, two_parts _ _ w h.0.filled)))
    core_with up name nullable shape (field n b s p (field n₂ b₂ s₂ p₂ q)) rest last h v =
        by_test (is_wrapper shape.kind)
        (λ e.
        let u = rw e at v in
        let both = wrapper_with up name nullable shape n b s p n₂ b₂ s₂ p₂ q rest h e (coercion rules (core_of s₂ p₂) x) u (core_with shape.kind n₂ b₂ s₂ p₂ q (Some shape.kind) h.1.0.1.1 u).0 in
        rw e (both.0, λ w. both.1))
        (λ e. rw e (itself _, λ w. never w))

  -- a Timestamp with a zone keeps it, to the left of a Timestamp
  stamp_stays : (l r : DataType) (z : List ℕ) → FieldRight 0 [] false l.shape l.parts → FieldRight 0 [] false r.shape r.parts → l.shape.kind ≡ 22 → r.shape.kind ≡ 22
      → l.shape.zone ≡ present z → timeunit_coercion l.shape.figure r.shape.figure ≡ l.shape.figure → coercion rules l r ≡ Some l
  unfolding temporal_coercion_nonstrict_timezone between
  stamp_stays l r z p q el er ez eu =
      plain_answer rules l r (omega (arith, el)) (omega (arith, er))
      ∙ ap (cond (equal l r) (Some l))
      (sym (spoken rules l r (own_figured l p el) (own_figured r q er) 1 (ap₂ (λ (k j : ℕ). picked k j) el er) refl) ∙ told ∙ ap (λ (t : DataType). Some t) (sym (stamp_is l p el)))
      ∙ cond_self (equal l r) (Some l)
    where
      told : temporal_coercion_nonstrict_timezone l r ≡ Some (zoned (of_unit 22 l.shape.figure) l.shape.zone)
      told =
          rw (eq-eqb l.shape.kind 22 el, eq-eqb r.shape.kind 22 er)
          (ap₂ (λ (u : ℕ) (k : Zone). Some (zoned (of_unit 22 u) k)) eu (ap (λ (k : Zone). zone_coercion k r.shape.zone) ez ∙ sym ez))

  -- the types that stand at a link and at the front of the second half
  module _ {space : Space} {s u : List ℕ} {link core : ℕ} (x v h : Head) (ex : x ≡ head_at s link) (ev : v ≡ head_at u core) (eh : h ≡ head_at u 1)
      (at : CoreAt space u 1 core) (t c : DataType) (a : Typed space s link t) (d : Typed space u 1 c) where
    abbrev inner : DataType
    inner = core_of c.shape c.parts

    core_typed : Typed space u core inner
    core_typed = at.is c d

    -- a wrapper whose core alone changes
    core_changes : 32 ≤ h.kind → x.kind < 32 → v.kind < 32 → NoView (inner_kind c) (coercion rules inner t) → CoreAlone rules t c
    core_changes high low bare n =
        by_test (is_wrapper c.shape.kind)
        (λ e.
        record {
          low = omega (arith, (typed_reads core_typed ev).kind);
          is = (core_with t (omega (arith, (typed_reads a ex).kind)) d.chain.up d.name d.nullable c.shape c.parts d.rest None d.chain.held.source.right n).1 e;
        })
        (λ e.
        let k = ap (λ (y : DataType). y.shape.kind) (core_bare c.shape c.parts e) in
        absurd (omega (arith, k, (typed_reads core_typed ev).kind, (typed_reads d eh).kind)))

    -- a wrapper whose core stays
    keeps_core : 32 ≤ h.kind → x.kind < 32 → v.kind < 32 → (inner_kind c ≡ Some 37 → v.kind ≡ 27 → ⊥) → coercion rules inner t ≡ Some inner → coercion rules t c ≡ Some c
    keeps_core high low bare n f =
        (core_changes high low bare (λ k u q e. n k (sym (typed_reads core_typed ev).kind ∙ ap (λ (y : DataType). y.shape.kind) (same_Some _ _ (sym f ∙ q)) ∙ e))).is
        ∙ ap (λ (m : Option DataType). and_then m (λ u. Some (with_core c.shape c.parts u))) f
        ∙ ap (λ (u : DataType). Some u) (with_own c.shape c.parts)

    -- one whose core takes a step
    pub core_steps : 32 ≤ h.kind → x.kind < 32 → v.kind < 32 → (x.kind ≡ 27 → ⊥) → (v.kind ≡ 27 → ⊥) → (step : Option Step)
        → ((l r : DataType) → Reads v l → Reads x r → step_of step l r ≡ plain_rules rules l r) → lays_view step ≡ false → CoreAlone rules t c
    core_steps high low bare n m step f b =
        let rv = typed_reads core_typed ev in
        let rx = typed_reads a ex in
        core_changes high low bare
        (λ k u q. step_view step inner t u (equal inner t) b (λ e. m (sym rv.kind ∙ e)) (λ e. n (sym rx.kind ∙ e))
        (ap (cond (equal inner t) (Some inner)) (f inner t rv rx) ∙ sym (plain_answer rules inner t (omega (arith, rv.kind)) (omega (arith, rx.kind))) ∙ q))

    -- around a Timestamp with a zone
    pub keeps_zoned : 32 ≤ h.kind → stays_zoned v x ≡ true → coercion rules t c ≡ Some c
    keeps_zoned high b =
        let l = and_fst (eqb v.kind 22 && zoned_in v) _ b in
        let r = and_snd (eqb v.kind 22 && zoned_in v) _ b in
        let kv = eqb-true v.kind 22 (and_fst _ _ l) in
        let kx = eqb-true x.kind 22 (and_fst _ _ r) in
        let rv = typed_reads core_typed ev in
        let rx = typed_reads a ex in
        let there : zone_of u space.n v ≡ present (label_at u space.n (zone_at v) (zone_len v)) = rw (and_snd (eqb v.kind 22) _ l) in
        let zone = sym (ap (λ (k : Shape). k.zone) (read_shape core_typed.chain.held.source v ev)) ∙ there in
        let unit = ap₂ timeunit_coercion rv.figure rx.figure ∙ eqb-true _ v.figure (and_snd (eqb x.kind 22) _ r) ∙ sym rv.figure in
        keeps_core high (omega (arith, kx)) (omega (arith, kv)) (λ k q. omega (arith, kv, q))
        (stamp_stays inner t _ (typed_right inner core_typed).0.0 (typed_right t a).0.0 (rv.kind ∙ kv) (rx.kind ∙ kx) zone unit)

    module _ (px : is_plain x ≡ true) (pv : is_plain v ≡ true) {new old : PlainType} (en : new ≡ plain_type_of x) (eo : old ≡ plain_type_of v) where
      new_valued : Valued new t
      new_valued = plain_valued x px en ex a

      core_valued : Valued old inner
      core_valued = plain_valued v pv eo ev core_typed

      -- a candidate that is no wrapper
      pub keeps_alone : h.kind < 32 → ((l r u : DataType) → Valued new l → Valued old r → Valued old u → coercion rules l r ≡ Some u) → coercion rules t c ≡ Some c
      keeps_alone low f = subst (λ (k : DataType). coercion rules t k ≡ Some k) (core_bare c.shape c.parts bare) (f t inner inner new_valued core_valued core_valued)
        where
          bare : is_wrapper c.shape.kind ≡ false
          bare = no_wrapper c.shape.kind (omega (arith, (typed_reads d eh).kind))

      -- one that is
      pub keeps_under : 32 ≤ h.kind → gives_way v.kind (inner_kind c) ≡ false → ((l r u : DataType) → Valued old l → Valued new r → Valued old u → coercion rules l r ≡ Some u) → coercion rules t c ≡ Some c
      keeps_under high n f =
          keeps_core high (plain_type_low x px refl) (plain_type_low v pv refl) (λ k q. never (sym (rw (k, eq-eqb v.kind 27 q) at n))) (f inner t inner core_valued new_valued core_valued)
