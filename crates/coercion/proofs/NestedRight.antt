-- The rules that ask of parts keep types right. Assumes nothing.
use mathlib.Core.Path.{◌≡◌, refl, ap, ◌∙◌}
use mathlib.Core.Bool.{Bool, true, false, ◌&&◌, ◌||◌}
use mathlib.Core.List.{List}
use Rattle.std.specs.Prelude.{Option, None, Some}
use Prim.Native.Nat.{ℕ, zero, suc, ◌+◌}
use native.Mathlib.Omega.{arith}
use lib.Dec.{eqb}
use borrow.Author.Tests.{eqb-true, eq-eqb}
use Rattle.sheet.specs.declared.kind.TheConstants as Kind
use Rattle.sheet.specs.Kind.{is_kind, is_decimal, sized, last_unit, parts_right, names_parts, is_list}
use Rattle.sheet.specs.Booleans.{all_of, between}
use Rattle.sheet.specs.Types.{absent, Shape, Fields, end, field, arity}
use Rattle.sheet.specs.Names.{same_bytes}
use Rattle.sheet.specs.Refusals.{figure_right, size_right, figures_right}
use Rattle.sheet.specs.Carried.{FieldsRight}
use Rattle.sheet.proofs.Booleans.{all_at, all_cons, all_nil, and_fst, and_snd}
use Rattle.coercion.specs.Data.{DataType, size, and_then, first_of}
use Rattle.coercion.specs.Same.{equal}
use Rattle.coercion.specs.Wrappers.{value_in, is_of, wrapper_coercion}
use Rattle.coercion.specs.Nested.{join_fields, fields_have_same_names, with_name, by_name, partners, struct_of, struct_coercion, list_shape, list_of, list_coercion, entry_type, entry_of, map_shape, map_coercion}
use Rattle.coercion.specs.Answers.{pair_rules, keep_dictionary, both_parts, run_ends_of, wrapped, list_struct, list_rules, resolution_coercion, ask, coerce_in, coercion}
use Rattle.coercion.proofs.Maybe.{If, done, ◌also◌, if_then, if_cond, if_first, if_both, cond_when, cond_is}
use Rattle.coercion.proofs.PlainRight.{OwnRight, Sound, own_right, empty_label, renamed, implies_true, named, unnamed, alike_sound, number_sound, string_sound, binary_sound, temporal_sound, null_sound, numeric_sound, string_number_sound, string_temporal_sound}
use Rattle.coercion.specs.declared.Question.{Question}
use Rattle.coercion.specs.declared.Rules.{Rules}

-- the chain that fields of two chains make, as parts of a type of kind up
record Joined (up : ℕ) (l t : Fields) : Type 0 where
  right : FieldsRight up t
  many : arity t ≡ arity l

-- fields that were taken by name
named_right : (up : ℕ) (name : List ℕ) (r more : Fields) → FieldsRight up r → FieldsRight up more → If (FieldsRight up) (with_name name r more)
unfolding with_name
named_right up name end more h k = tt
named_right up name (field name' nullable shape parts rest) more h k =
    cond_is (If (FieldsRight up)) (same_bytes name name') _ _ (h.0, (h.1.0, k)) (named_right up name rest more h.1.1 k)

by_name_right : (up : ℕ) (l r : Fields) → FieldsRight up r → If (FieldsRight up) (by_name l r)
unfolding by_name
by_name_right up end r h = tt
by_name_right up (field name nullable shape parts rest) r h =
    if_then (FieldsRight up) (FieldsRight up) (by_name rest r) (λ more. with_name name r more) (by_name_right up rest r h) (λ more k. named_right up name r more h k)

value_sound : (up : ℕ) (f : Fields) → FieldsRight up f → If Sound (value_in f)
value_sound up end h = tt
value_sound up (field n b s p end) h = tt
value_sound up (field n b s p (field n₂ b₂ s₂ p₂ q)) h = (own_right h.1.1.0, h.1.1.1.0)

entry_sound : (up : ℕ) (f : Fields) → FieldsRight up f → If Sound (entry_type f)
entry_sound up end h = tt
entry_sound up (field n b s p q) h = (own_right h.0, h.1.0)

-- other parts, of which there may be so many
refilled : {shape : Shape} {parts : Fields} (parts' : Fields) → OwnRight shape parts → parts_right shape.kind (arity parts') ≡ true → OwnRight shape parts'
refilled parts' h e = record { known = h.known; filled = e; figures = h.figures; byte = h.byte; own_zone = h.own_zone }

-- a list has one part, a wrapper two
one_part : (t : DataType) → Sound t → is_list t.shape.kind ≡ true → arity t.parts ≡ 1
unfolding parts_right
one_part t h e =
    let g : parts_right t.shape.kind (arity t.parts) ≡ true = h.0.filled in
    eqb-true (arity t.parts) 1 (rw e at g)

two_parts : (t : DataType) (k : ℕ) → parts_right k 2 ≡ true → is_of k t ≡ true → parts_right t.shape.kind 2 ≡ true
two_parts t k h e = rw (eqb-true t.shape.kind k e) h

dictionary_two : parts_right Kind.DICTIONARY 2 ≡ true
unfolding parts_right between
dictionary_two = refl

run_ends_two : parts_right Kind.RUN_END_ENCODED 2 ≡ true
unfolding parts_right between
run_ends_two = refl

-- a wrapper with another value
dictionary_sound : (s : Shape) (f : Fields) → Sound (record { shape = s; parts = f }) → parts_right s.kind 2 ≡ true
    → (u : DataType) → Sound u → If Sound (keep_dictionary (record { shape = s; parts = f }) u)
unfolding arity
dictionary_sound s end h two u k = cond_is (If Sound) (is_of Kind.UTF8_VIEW u) _ _ k tt
dictionary_sound s (field n b s₁ p q) h two u k =
    cond_is (If Sound) (is_of Kind.UTF8_VIEW u) _ _ k
    (refilled _ h.0 two, (h.1.0, (h.1.1.0, (unnamed s.kind u.shape u.parts k.0, (k.1, tt)))))

run_ends_sound : (s : Shape) (f : Fields) → Sound (record { shape = s; parts = f }) → parts_right s.kind 2 ≡ true
    → (u : DataType) → Sound u → If Sound (run_ends_of (record { shape = s; parts = f }) f u)
unfolding arity
run_ends_sound s end h two u k = tt
run_ends_sound s (field n b s₁ p end) h two u k = tt
run_ends_sound s (field n b s₁ p (field n₂ b₂ s₂ p₂ q)) h two u k =
    (refilled _ h.0 two, (h.1.0, (h.1.1.0, (renamed h.1.1.1.0 k.0, (k.1, tt)))))

-- a map of another entry
map_of_sound : (up : ℕ) (f : Fields) (sorted : Bool) → FieldsRight up f
    → If (λ e. (t : DataType) → Sound t → Sound (record { shape = map_shape sorted; parts = entry_of f t })) (entry_type f)
unfolding is_kind between parts_right figures_right figure_right is_decimal last_unit size_right sized arity names_parts
map_of_sound up end sorted h = tt
map_of_sound up (field n b s p q) sorted h =
    λ t k. (
      record {
        known = refl;
        filled = refl;
        figures = all_cons _ (all_cons _ refl (all_cons _ refl all_nil)) (all_cons _ refl (all_cons _ (implies_true sorted) (all_cons _ refl all_nil)));
        byte = omega arith;
        own_zone = empty_label;
      },
      (named Kind.MAP n b t.shape t.parts refl h.0.own_name k.0, (k.1, tt)),
    )

-- the shape of two lists' common list, around one part
record ListRight (shape : Shape) : Type 0 where
  around : (f : Fields) → arity f ≡ 1 → OwnRight shape f
  names : names_parts shape.kind ≡ true

list_right : (k size : ℕ) → is_kind k ≡ true → is_list k ≡ true → names_parts k ≡ true → figures_right k 0 0 size false false ≡ true
    → ListRight (record { kind = k; figure = 0; scale = 0; size = size; sorted = false; zone = absent })
unfolding parts_right
list_right k size known is names figures =
    record {
      around = λ f one. record { known = known; filled = rw is (eq-eqb (arity f) 1 one); figures = figures; byte = omega arith; own_zone = empty_label };
      names = names;
    }

fixed_size : (t : DataType) → Sound t → eqb t.shape.kind Kind.FIXED_SIZE_LIST ≡ true → figures_right Kind.FIXED_SIZE_LIST 0 0 t.shape.size false false ≡ true
unfolding between figures_right figure_right is_decimal last_unit
fixed_size t h e =
    let g : size_right t.shape.kind t.shape.size ≡ true = all_at _ 1 h.0.figures in
    let g' : size_right Kind.FIXED_SIZE_LIST t.shape.size ≡ true = rw (eqb-true t.shape.kind Kind.FIXED_SIZE_LIST e) at g in
    all_cons _ (all_cons _ refl (all_cons _ refl all_nil)) (all_cons _ g' (all_cons _ refl (all_cons _ refl all_nil)))

list_shape_lem : (l r : DataType) → Sound r → ListRight (list_shape l.shape r.shape)
unfolding is_kind between names_parts figures_right figure_right is_decimal last_unit size_right sized all_of
list_shape_lem l r hr =
    cond_when ListRight (eqb l.shape.kind Kind.FIXED_SIZE_LIST && eqb r.shape.kind Kind.FIXED_SIZE_LIST) _ _
    (λ e. cond_is ListRight (eqb l.shape.size r.shape.size) _ _
    (list_right Kind.FIXED_SIZE_LIST r.shape.size refl refl refl
    (fixed_size r hr (and_snd (eqb l.shape.kind Kind.FIXED_SIZE_LIST) (eqb r.shape.kind Kind.FIXED_SIZE_LIST) e))) (list_right Kind.LIST 0 refl refl refl refl))
    (λ e. cond_is ListRight (eqb l.shape.kind Kind.LARGE_LIST || eqb r.shape.kind Kind.LARGE_LIST) _ _
    (list_right Kind.LARGE_LIST 0 refl refl refl refl) (list_right Kind.LIST 0 refl refl refl refl))

list_of_sound : (l : DataType) (shape : Shape) → ((f : Fields) → arity f ≡ 1 → OwnRight shape f) → arity l.parts ≡ 1 → (o : Option Fields)
    → If (Joined shape.kind l.parts) o → If Sound (list_of shape o)
list_of_sound l shape own one None h = tt
list_of_sound l shape own one (Some f) h = (own f (h.many ∙ one), h.right)

-- the rules that ask of parts, where what they ask is right
module _ (c : DataType → DataType → Option DataType) (keeps : (x y : DataType) → Sound x → Sound y → If Sound (c x y)) where
  join_right : (up up' new : ℕ) (l f s : Fields) → names_parts new ≡ true → FieldsRight up l → FieldsRight up' f → If (Joined new l) (join_fields c l f s)
  unfolding join_fields arity
  join_right up up' new end end end n h k = record { right = tt; many = refl }
  join_right up up' new end end (field n₃ b₃ s₃ p₃ q₃) n h k = tt
  join_right up up' new end (field n₂ b₂ s₂ p₂ q₂) end n h k = tt
  join_right up up' new end (field n₂ b₂ s₂ p₂ q₂) (field n₃ b₃ s₃ p₃ q₃) n h k = tt
  join_right up up' new (field n₁ b₁ s₁ p₁ q₁) end end n h k = tt
  join_right up up' new (field n₁ b₁ s₁ p₁ q₁) end (field n₃ b₃ s₃ p₃ q₃) n h k = tt
  join_right up up' new (field n₁ b₁ s₁ p₁ q₁) (field n₂ b₂ s₂ p₂ q₂) end n h k = tt
  join_right up up' new (field n₁ b₁ s₁ p₁ q₁) (field n₂ b₂ s₂ p₂ q₂) (field n₃ b₃ s₃ p₃ q₃) n h k =
      let x : DataType = record { shape = s₁; parts = p₁ } in
      let y : DataType = record { shape = s₂; parts = p₂ } in
      if_then Sound (Joined new _) (c x y) _ (keeps x y (own_right h.0, h.1.0) (own_right k.0, k.1.0))
      (λ t g. if_then (Joined new q₁) (Joined new _) (join_fields c q₁ q₂ q₃) _ (join_right up up' new q₁ q₂ q₃ n h.1.1 k.1.1)
      (λ fields m. record { right = (named new n₁ (b₁ || b₃) t.shape t.parts n h.0.own_name g.0, (g.1, m.right)); many = ap (λ (i : ℕ). 1 + i) m.many }))

  module _ (l r : DataType) (hl : Sound l) (hr : Sound r) where
    wrapper_sound : (k : ℕ) → If Sound (wrapper_coercion k c l r)
    unfolding wrapper_coercion
    wrapper_sound k =
        let P = If Sound in
        let vl = value_sound l.shape.kind l.parts hl.1 in
        let vr = value_sound r.shape.kind r.parts hr.1 in
        cond_is P (is_of k l && is_of k r) _ _
        (if_then Sound Sound (value_in l.parts) _ vl (λ v g. if_then Sound Sound (value_in r.parts) _ vr (λ w m. keeps v w g m)))
        (cond_is P (is_of k l) _ _ (if_then Sound Sound (value_in l.parts) _ vl (λ v g. cond_is P (equal v r) _ _ hl (keeps v r g hr)))
        (cond_is P (is_of k r) _ _ (if_then Sound Sound (value_in r.parts) _ vr (λ w g. cond_is P (equal w l) _ _ hr (keeps l w hl g))) tt))

    struct_of_sound : (o : Option Fields) → If (Joined Kind.STRUCT l.parts) o → If Sound (struct_of o)
    unfolding is_kind between parts_right figures_right all_of figure_right is_decimal last_unit size_right sized
    struct_of_sound None h = tt
    struct_of_sound (Some f) h = (record { known = refl; filled = refl; figures = refl; byte = omega arith; own_zone = empty_label }, h.right)

    struct_sound : If Sound (struct_coercion c l r)
    unfolding struct_coercion partners names_parts between
    struct_sound =
        cond_is (If Sound) (is_of Kind.STRUCT l && (is_of Kind.STRUCT r && eqb (arity l.parts) (arity r.parts))) _ _
        (struct_of_sound (and_then (partners l.parts r.parts) (λ fields. join_fields c l.parts fields fields))
        (if_then (FieldsRight r.shape.kind) (Joined Kind.STRUCT l.parts) (partners l.parts r.parts) (λ fields. join_fields c l.parts fields fields)
        (cond_is (If (FieldsRight r.shape.kind)) (fields_have_same_names l.parts r.parts) _ _ (by_name_right r.shape.kind l.parts r.parts hr.1) hr.1)
        (λ f g. join_right l.shape.kind r.shape.kind Kind.STRUCT l.parts f f refl hl.1 g)))
        tt

    list_struct_sound : If Sound (list_struct c l r)
    unfolding names_parts between
    list_struct_sound =
        cond_is (If Sound) (eqb (arity l.parts) (arity r.parts)) _ _
        (struct_of_sound (and_then (by_name l.parts r.parts) (λ fields. join_fields c l.parts fields r.parts))
        (if_then (FieldsRight r.shape.kind) (Joined Kind.STRUCT l.parts) (by_name l.parts r.parts) (λ fields. join_fields c l.parts fields r.parts)
        (by_name_right r.shape.kind l.parts r.parts hr.1)
        (λ f g. join_right l.shape.kind r.shape.kind Kind.STRUCT l.parts f r.parts refl hl.1 g)))
        tt

    list_sound : If Sound (list_coercion c l r)
    unfolding list_coercion
    list_sound =
        if_cond Sound (is_list l.shape.kind && is_list r.shape.kind) _ None
        (λ e. let s = list_shape l.shape r.shape in
        let h = list_shape_lem l r hr in
        list_of_sound l s h.around (one_part l hl (and_fst (is_list l.shape.kind) (is_list r.shape.kind) e)) (join_fields c l.parts r.parts r.parts)
        (join_right l.shape.kind r.shape.kind s.kind l.parts r.parts r.parts h.names hl.1 hr.1))
        (λ e. tt)

    both_sound : (p q : Fields) → FieldsRight l.shape.kind p → FieldsRight r.shape.kind q → parts_right l.shape.kind 2 ≡ true → If Sound (both_parts c l p q)
    unfolding arity
    both_sound end q h k two = tt
    both_sound (field n₁ b₁ s₁ p₁ end) q h k two = tt
    both_sound (field n₁ b₁ s₁ p₁ (field n₂ b₂ s₂ p₂ q₁)) end h k two = tt
    both_sound (field n₁ b₁ s₁ p₁ (field n₂ b₂ s₂ p₂ q₁)) (field m₁ c₁ t₁ u₁ end) h k two = tt
    both_sound (field n₁ b₁ s₁ p₁ (field n₂ b₂ s₂ p₂ q₁)) (field m₁ c₁ t₁ u₁ (field m₂ c₂ t₂ u₂ v₁)) h k two =
        let x₁ : DataType = record { shape = s₁; parts = p₁ } in
        let y₁ : DataType = record { shape = t₁; parts = u₁ } in
        let x₂ : DataType = record { shape = s₂; parts = p₂ } in
        let y₂ : DataType = record { shape = t₂; parts = u₂ } in
        if_then Sound Sound (c x₁ y₁) _ (keeps x₁ y₁ (own_right h.0, h.1.0) (own_right k.0, k.1.0))
        (λ t i. if_then Sound Sound (c x₂ y₂) _ (keeps x₂ y₂ (own_right h.1.1.0, h.1.1.1.0) (own_right k.1.1.0, k.1.1.1.0))
        (λ u j. (refilled _ hl.0 two, (renamed h.0 i.0, (i.1, (renamed h.1.1.0 j.0, (j.1, tt)))))))

  map_sound : (l r : DataType) → Sound l → Sound r → If Sound (map_coercion c l r)
  unfolding map_coercion
  map_sound l r hl hr =
      cond_is (If Sound) (is_of Kind.MAP l && is_of Kind.MAP r) _ _
      (if_then _ Sound (entry_type l.parts) _
      (if_both Sound _ (entry_type l.parts) (entry_sound l.shape.kind l.parts hl.1)
      (map_of_sound l.shape.kind l.parts (l.shape.sorted && r.shape.sorted) hl.1))
      (λ x g. if_then Sound Sound (entry_type r.parts) _ (entry_sound r.shape.kind r.parts hr.1)
      (λ y m. if_then Sound Sound (struct_coercion c x y) _ (struct_sound x y g.0 m) (λ t i. g.1 t i))))
      tt

  wrapped_sound : (d other : DataType) (make : DataType → DataType → Option DataType) → Sound d → Sound other → ((u : DataType) → Sound u → If Sound (make d u))
      → If Sound (wrapped c d other make)
  wrapped_sound d other make hd ho h =
      if_then Sound Sound (value_in d.parts) _ (value_sound d.shape.kind d.parts hd.1)
      (λ v g. if_then Sound Sound (c v other) _ (keeps v other g ho) (λ u i. h u i))

  module _ (rules : Rules) (l r : DataType) (hl : Sound l) (hr : Sound r) where
    pair_sound : If Sound (first_of (pair_rules rules c l r))
    pair_sound =
        if_first Sound (pair_rules rules c l r)
        (alike_sound l r hl hr
        also number_sound l r hl hr
        also wrapper_sound l r hl hr Kind.DICTIONARY
        also wrapper_sound l r hl hr Kind.RUN_END_ENCODED
        also temporal_sound l r hl hr
        also string_sound l r hl hr
        also list_sound l r hl hr
        also null_sound l r hl hr rules.mask
        also string_number_sound l r hl hr rules.question
        also string_temporal_sound l r hl hr
        also binary_sound l r hl hr
        also struct_sound l r hl hr
        also map_sound l r hl hr
        also done)

    list_rules_sound : If Sound (first_of (list_rules rules c l r))
    list_rules_sound =
        if_first Sound (list_rules rules c l r)
        (number_sound l r hl hr
        also list_sound l r hl hr
        also map_sound l r hl hr
        also temporal_sound l r hl hr
        also string_sound l r hl hr
        also null_sound l r hl hr rules.mask
        also numeric_sound l r hl hr
        also binary_sound l r hl hr
        also done)

    resolution_sound : If Sound (resolution_coercion rules c l r)
    resolution_sound =
        if_cond Sound (equal l r) (Some l) _ (λ e. hl)
        (λ e. if_cond Sound (is_of Kind.DICTIONARY l && is_of Kind.DICTIONARY r) _ _
        (λ e. both_sound l r hl hr l.parts r.parts hl.1 hr.1 (two_parts l Kind.DICTIONARY (dictionary_two) (and_fst _ _ e)))
        (λ e. if_cond Sound (is_of Kind.DICTIONARY l) _ _
        (λ e. wrapped_sound l r keep_dictionary hl hr (dictionary_sound l.shape l.parts hl (two_parts l Kind.DICTIONARY dictionary_two e)))
        (λ e. if_cond Sound (is_of Kind.DICTIONARY r) _ _
        (λ e. wrapped_sound r l keep_dictionary hr hl (dictionary_sound r.shape r.parts hr (two_parts r Kind.DICTIONARY dictionary_two e)))
        (λ e. if_cond Sound (is_of Kind.RUN_END_ENCODED l && is_of Kind.RUN_END_ENCODED r) _ _
        (λ e. both_sound l r hl hr l.parts r.parts hl.1 hr.1 (two_parts l Kind.RUN_END_ENCODED run_ends_two (and_fst _ _ e)))
        (λ e. if_cond Sound (is_of Kind.RUN_END_ENCODED l) _ _
        (λ e. wrapped_sound l r (λ d t. run_ends_of d d.parts t) hl hr (run_ends_sound l.shape l.parts hl (two_parts l Kind.RUN_END_ENCODED run_ends_two e)))
        (λ e. if_cond Sound (is_of Kind.RUN_END_ENCODED r) _ _
        (λ e. wrapped_sound r l (λ d t. run_ends_of d d.parts t) hr hl (run_ends_sound r.shape r.parts hr (two_parts r Kind.RUN_END_ENCODED run_ends_two e)))
        (λ e. cond_is (If Sound) (is_of Kind.STRUCT l && is_of Kind.STRUCT r) _ _ (list_struct_sound l r hl hr) list_rules_sound)))))))

    ask_sound : (q : Question) → If Sound (ask q rules c l r)
    ask_sound Question.List = resolution_sound
    ask_sound Question.Union = pair_sound
    ask_sound Question.Compare = pair_sound

in_sound : (f : ℕ) (rules : Rules) (l r : DataType) → Sound l → Sound r → If Sound (coerce_in f rules l r)
unfolding coerce_in
in_sound zero rules l r hl hr = tt
in_sound (suc f) rules l r hl hr = ask_sound (coerce_in f rules) (λ x y h k. in_sound f rules x y h k) rules l r hl hr rules.question

pub coercion_sound : (rules : Rules) (l r : DataType) → Sound l → Sound r → If Sound (coercion rules l r)
unfolding coercion
coercion_sound rules l r hl hr = in_sound (size l + size r) rules l r hl hr
