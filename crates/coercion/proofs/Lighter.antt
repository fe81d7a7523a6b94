-- The common type of two types is lighter than both together, and its names in each Struct differ. Assumes nothing.
use mathlib.Core.Path.{◌≡◌, refl, ap, ap₂, sym, ◌∙◌}
use mathlib.Core.Bool.{Bool, true, false, cond, ◌&&◌, ◌||◌}
use mathlib.Core.List.{List}
use Rattle.std.specs.Prelude.{Option, None, Some}
use Prim.Native.Nat.{ℕ, zero, suc, ◌+◌, ◌≤◌}
use native.Mathlib.Omega.{arith}
use lib.Dec.{eqb}
use borrow.Author.Tests.{eqb-true}
use Rattle.sheet.specs.declared.kind.TheConstants as Kind
use Rattle.sheet.specs.Types.{Zone, absent, present, Shape, Fields, end, field, arity}
use Rattle.sheet.specs.Names.{same_bytes, has_name, repeats}
use Rattle.sheet.proofs.Booleans.{never, and_fst}
use Rattle.coercion.specs.Data.{DataType, size, may_become, and_then, first_of, figures_of, plain, as_type}
use Rattle.sheet.specs.Kind.{is_numeric, is_string, is_list, is_date, is_time}
use Rattle.coercion.specs.Same.{equal, alike}
use Rattle.coercion.specs.Strings.{string_coercion, binary_coercion}
use Rattle.coercion.specs.Times.{is_time_with_valid_unit, zone_coercion, temporal_coercion, temporal_coercion_nonstrict_timezone}
use Rattle.coercion.specs.Numbers.{binary_numeric_coercion}
use Rattle.coercion.specs.Rules.{is_null, null_coercion, string_numeric_coercion, string_numeric_union_coercion, time_of_string, match_rule, string_temporal_coercion}
use Rattle.coercion.specs.Wrappers.{value_in, is_of, wrapper_coercion}
use Rattle.coercion.specs.Nested.{join_fields, fields_have_same_names, by_name, partners, struct_of, struct_coercion, list_shape, list_of, list_coercion, entry_type, entry_of, map_coercion}
use Rattle.coercion.specs.Answers.{of_kind_type, string_number, pair_rules, keep_dictionary, both_parts, run_ends_of, wrapped, list_struct, list_rules, resolution_coercion, ask, coerce_in, coercion}
use Rattle.coercion.specs.declared.Figures.{Figures}
use Rattle.coercion.proofs.Maybe.{If, done, ◌also◌, if_then, if_cond, if_else, if_first, if_weak, if_both, cond_is}
use Rattle.coercion.proofs.Weights.{weigh, weight, Scales, Apart, TypeApart, by_name_lem}
use Rattle.coercion.specs.declared.Question.{Question}
use Rattle.coercion.specs.declared.Rules.{Rules}

module _ (a : List ℕ → ℕ) (b : Zone → ℕ) (scales : Scales a b) where
  -- the common type t of l and r
  pub record Lighter (l r t : DataType) : Type 0 where
    pub light : weight a b t + b absent ≤ weight a b l + weight a b r
    pub apart : TypeApart t

  left_light : (l r : DataType) → TypeApart l → Lighter l r l
  left_light l r h = record { light = omega (arith, scales.least r.shape.zone); apart = h }

  right_light : (l r : DataType) → TypeApart r → Lighter l r r
  right_light l r h = record { light = omega (arith, scales.least l.shape.zone); apart = h }

  plain_light : (l r : DataType) (f : Figures) → Lighter l r (plain f)
  unfolding repeats
  plain_light l r f =
      record { light = omega (arith, scales.least l.shape.zone, scales.least r.shape.zone); apart = (record { own = λ e. refl }, tt) }

  as_light : (l r : DataType) (o : Option Figures) → If (Lighter l r) (as_type o)
  as_light l r None = tt
  as_light l r (Some f) = plain_light l r f

  of_kind_light : (l r : DataType) (o : Option ℕ) → If (Lighter l r) (of_kind_type o)
  of_kind_light l r None = tt
  of_kind_light l r (Some k) = plain_light l r _

  zone_light : (z w : Zone) → b (zone_coercion z w) + b absent ≤ b z + b w
  zone_light absent w = omega arith
  zone_light (present z) w = omega (arith, scales.least w)

  -- the plain rules
  module _ (l r : DataType) (hl : TypeApart l) (hr : TypeApart r) where
    abbrev P : Option DataType → Type 0
    P o = If (Lighter l r) o

    left : Lighter l r l
    left = left_light l r hl

    right : Lighter l r r
    right = right_light l r hr

    alike_light : P (cond (alike l r) (Some l) None)
    alike_light = cond_is P (alike l r) _ _ left tt

    temporal_light : P (temporal_coercion_nonstrict_timezone l r)
    unfolding temporal_coercion_nonstrict_timezone repeats
    temporal_light =
        cond_is P (eqb l.shape.kind Kind.TIMESTAMP && eqb r.shape.kind Kind.TIMESTAMP) _ _
        (record { light = omega (arith, zone_light l.shape.zone r.shape.zone); apart = (record { own = λ e. refl }, tt) })
        (as_light l r (temporal_coercion l.shape.kind r.shape.kind))

    null_light : (mask : ℕ) → P (null_coercion mask l r)
    unfolding null_coercion
    null_light mask =
        cond_is P (is_null l) _ _ (cond_is P (may_become mask r.shape.kind) _ _ right tt)
        (cond_is P (is_null r) _ _ (cond_is P (may_become mask l.shape.kind) _ _ left tt) tt)

    numeric_light : P (string_numeric_coercion l r)
    unfolding string_numeric_coercion
    numeric_light =
        cond_is P (is_numeric l.shape.kind && is_string r.shape.kind) _ _ left
        (cond_is P (is_string l.shape.kind && is_numeric r.shape.kind) _ _ right tt)

    numeric_union_light : P (string_numeric_union_coercion l r)
    unfolding string_numeric_union_coercion
    numeric_union_light =
        cond_is P (is_string l.shape.kind && is_numeric r.shape.kind) _ _ left
        (cond_is P (is_numeric l.shape.kind && is_string r.shape.kind) _ _ right tt)

    string_number_light : (q : Question) → P (string_number q l r)
    string_number_light Question.List = numeric_light
    string_number_light Question.Union = numeric_union_light
    string_number_light Question.Compare = numeric_light

    time_light : (t : DataType) → Lighter l r t → P (time_of_string t)
    unfolding repeats
    time_light t h =
        cond_is P (is_date t.shape.kind) _ _ h
        (cond_is P (is_time t.shape.kind) _ _ (cond_is P (is_time_with_valid_unit t.shape.kind t.shape.figure) _ _ h tt)
        (cond_is P (eqb t.shape.kind Kind.TIMESTAMP) _ _ (record { light = omega (arith, h.light); apart = (record { own = λ e. refl }, tt) }) tt))

    string_temporal_light : P (string_temporal_coercion l r)
    unfolding string_temporal_coercion
    string_temporal_light =
        if_else (Lighter l r) (match_rule l r) (match_rule r l)
        (cond_is P (is_string l.shape.kind) _ _ (time_light r right) tt) (cond_is P (is_string r.shape.kind) _ _ (time_light l left) tt)

  -- the chain that fields of two chains make
  record Joined (l f t : Fields) : Type 0 where
    light : weigh a b t ≤ weigh a b l + weigh a b f
    apart : Apart t
    named : (name : List ℕ) → has_name name t ≡ has_name name l
    repeated : repeats t ≡ repeats l

  -- what a wrapper holds
  record Held (f : Fields) (t : DataType) : Type 0 where
    light : weight a b t ≤ weigh a b f
    apart : TypeApart t

  value_held : (f : Fields) → Apart f → If (Held f) (value_in f)
  value_held end h = tt
  value_held (field n d s p end) h = tt
  value_held (field n d s p (field n₂ d₂ s₂ p₂ q)) h = record { light = omega arith; apart = (h.1.1.0, h.1.1.1.0) }

  -- the entry of a map, with others in its place
  record Entry (f : Fields) (e : DataType) : Type 0 where
    light : weight a b e ≤ weigh a b f
    apart : TypeApart e
    swap : (t : DataType) → weigh a b (entry_of f t) + weight a b e ≤ weigh a b f + weight a b t
    swapped : (t : DataType) → TypeApart t → Apart (entry_of f t)

  entry_held : (f : Fields) → Apart f → If (Entry f) (entry_type f)
  entry_held end h = tt
  entry_held (field n d s p q) h =
      record { light = omega arith; apart = (h.0, h.1.0); swap = λ t. omega arith; swapped = λ t k. (k.0, (k.1, tt)) }

  -- a wrapper d with u in the place of the value v
  record Swapped (d v u t : DataType) : Type 0 where
    swap : weight a b t + weight a b v ≤ weight a b d + weight a b u
    apart : TypeApart t

  dictionary_swapped : (s : Shape) (f : Fields) → eqb s.kind Kind.STRUCT ≡ false → Apart f
      → If (λ v. (u : DataType) → TypeApart u → If (Swapped (record { shape = s; parts = f }) v u) (keep_dictionary (record { shape = s; parts = f }) u)) (value_in f)
  dictionary_swapped s end ne h = tt
  dictionary_swapped s (field n d s₁ p end) ne h = tt
  dictionary_swapped s (field n d s₁ p (field n₂ d₂ s₂ p₂ q)) ne h =
      λ u k. if_cond (Swapped _ _ u) (is_of Kind.UTF8_VIEW u) (Some u) (Some _)
      (λ e. record { swap = omega arith; apart = k })
      (λ e. record { swap = omega (arith, scales.unnamed); apart = (record { own = λ e. never (sym ne ∙ e) }, (h.0, (h.1.0, (k.0, (k.1, tt))))) })

  run_ends_swapped : (s : Shape) (f : Fields) → eqb s.kind Kind.STRUCT ≡ false → Apart f
      → If (λ v. (u : DataType) → TypeApart u → If (Swapped (record { shape = s; parts = f }) v u) (run_ends_of (record { shape = s; parts = f }) f u)) (value_in f)
  run_ends_swapped s end ne h = tt
  run_ends_swapped s (field n d s₁ p end) ne h = tt
  run_ends_swapped s (field n d s₁ p (field n₂ d₂ s₂ p₂ q)) ne h =
      λ u k. record { swap = omega arith; apart = (record { own = λ e. never (sym ne ∙ e) }, (h.0, (h.1.0, (k.0, (k.1, tt))))) }

  -- the rules that ask of parts, where what they ask is lighter
  module _ (c : DataType → DataType → Option DataType) (keeps : (x y : DataType) → TypeApart x → TypeApart y → If (Lighter x y) (c x y)) where
    join_light : (l f s : Fields) → Apart l → Apart f → If (Joined l f) (join_fields c l f s)
    unfolding join_fields has_name repeats
    join_light end end end h k = record { light = omega arith; apart = tt; named = λ name. refl; repeated = refl }
    join_light end end (field n₃ d₃ s₃ p₃ q₃) h k = tt
    join_light end (field n₂ d₂ s₂ p₂ q₂) end h k = tt
    join_light end (field n₂ d₂ s₂ p₂ q₂) (field n₃ d₃ s₃ p₃ q₃) h k = tt
    join_light (field n₁ d₁ s₁ p₁ q₁) end end h k = tt
    join_light (field n₁ d₁ s₁ p₁ q₁) end (field n₃ d₃ s₃ p₃ q₃) h k = tt
    join_light (field n₁ d₁ s₁ p₁ q₁) (field n₂ d₂ s₂ p₂ q₂) end h k = tt
    join_light (field n₁ d₁ s₁ p₁ q₁) (field n₂ d₂ s₂ p₂ q₂) (field n₃ d₃ s₃ p₃ q₃) h k =
        let x : DataType = record { shape = s₁; parts = p₁ } in
        let y : DataType = record { shape = s₂; parts = p₂ } in
        if_then (Lighter x y) (Joined _ _) (c x y) _ (keeps x y (h.0, h.1.0) (k.0, k.1.0))
        (λ t g. if_then (Joined q₁ q₂) (Joined _ _) (join_fields c q₁ q₂ q₃) _ (join_light q₁ q₂ q₃ h.1.1 k.1.1)
        (λ fields m.
        record {
          light = omega (arith, g.light, m.light);
          apart = (g.apart.0, (g.apart.1, m.apart));
          named = λ name. ap (λ (v : Bool). same_bytes name n₁ || v) (m.named name);
          repeated = ap₂ ◌||◌ (m.named n₁) m.repeated;
        }))

    module _ (l r : DataType) (hl : TypeApart l) (hr : TypeApart r) where
      wrapper_light : (k : ℕ) → If (Lighter l r) (wrapper_coercion k c l r)
      unfolding wrapper_coercion
      wrapper_light k =
          let P = If (Lighter l r) in
          let vl = value_held l.parts hl.1 in
          let vr = value_held r.parts hr.1 in
          cond_is P (is_of k l && is_of k r) _ _
          (if_then (Held l.parts) (Lighter l r) (value_in l.parts) _ vl
          (λ v g. if_then (Held r.parts) (Lighter l r) (value_in r.parts) _ vr
          (λ w m. if_weak (Lighter v w) (Lighter l r) (c v w) (keeps v w g.apart m.apart)
          (λ t n. record { light = omega (arith, g.light, m.light, n.light); apart = n.apart }))))
          (cond_is P (is_of k l) _ _
          (if_then (Held l.parts) (Lighter l r) (value_in l.parts) _ vl
          (λ v g. cond_is P (equal v r) _ _ (left_light l r hl)
          (if_weak (Lighter v r) (Lighter l r) (c v r) (keeps v r g.apart hr) (λ t n. record { light = omega (arith, g.light, n.light); apart = n.apart }))))
          (cond_is P (is_of k r) _ _
          (if_then (Held r.parts) (Lighter l r) (value_in r.parts) _ vr
          (λ w g. cond_is P (equal w l) _ _ (right_light l r hr)
          (if_weak (Lighter l w) (Lighter l r) (c l w) (keeps l w hl g.apart) (λ t n. record { light = omega (arith, g.light, n.light); apart = n.apart }))))
          tt))

      -- a Struct of joined fields under the left's names
      record Made (t : Fields) : Type 0 where
        light : weigh a b t ≤ weigh a b l.parts + weigh a b r.parts
        apart : Apart t
        once : repeats t ≡ false

      struct_of_light : (o : Option Fields) → If Made o → If (Lighter l r) (struct_of o)
      struct_of_light None h = tt
      struct_of_light (Some f) h =
          record {
            light = omega (arith, h.light, scales.least l.shape.zone, scales.least r.shape.zone);
            apart = (record { own = λ e. h.once }, h.apart);
          }

      joined_made : (f s : Fields) → repeats l.parts ≡ false → weigh a b f ≤ weigh a b r.parts → Apart f → If Made (join_fields c l.parts f s)
      joined_made f s d h k =
          if_weak (Joined l.parts f) Made (join_fields c l.parts f s) (join_light l.parts f s hl.1 k)
          (λ t g. record { light = omega (arith, g.light); apart = g.apart; once = g.repeated ∙ d })

      struct_light : If (Lighter l r) (struct_coercion c l r)
      unfolding struct_coercion partners
      struct_light =
          if_cond (Lighter l r) (is_of Kind.STRUCT l && (is_of Kind.STRUCT r && eqb (arity l.parts) (arity r.parts))) _ None
          (λ e. let d = hl.0.own (and_fst (is_of Kind.STRUCT l) _ e) in
          struct_of_light (and_then (partners l.parts r.parts) (λ fields. join_fields c l.parts fields fields))
          (if_then (λ f. (weigh a b f ≤ weigh a b r.parts) × Apart f) Made (partners l.parts r.parts) (λ fields. join_fields c l.parts fields fields)
          (if_cond _ (fields_have_same_names l.parts r.parts) (by_name l.parts r.parts) (Some r.parts)
          (λ e. by_name_lem a b l.parts r.parts d hr.1) (λ e. (omega arith, hr.1)))
          (λ f g. joined_made f f d g.0 g.1)))
          (λ e. tt)

      list_struct_light : is_of Kind.STRUCT l ≡ true → If (Lighter l r) (list_struct c l r)
      list_struct_light e =
          if_cond (Lighter l r) (eqb (arity l.parts) (arity r.parts)) _ None
          (λ e'. struct_of_light (and_then (by_name l.parts r.parts) (λ fields. join_fields c l.parts fields r.parts))
          (if_then (λ f. (weigh a b f ≤ weigh a b r.parts) × Apart f) Made (by_name l.parts r.parts) (λ fields. join_fields c l.parts fields r.parts)
          (by_name_lem a b l.parts r.parts (hl.0.own e) hr.1) (λ f g. joined_made f r.parts (hl.0.own e) g.0 g.1)))
          (λ e'. tt)

      list_of_light : (shape : Shape) → b shape.zone ≡ b absent → eqb shape.kind Kind.STRUCT ≡ false → (o : Option Fields)
          → If (Joined l.parts r.parts) o → If (Lighter l r) (list_of shape o)
      list_of_light shape z ne None h = tt
      list_of_light shape z ne (Some f) h =
          record {
            light = omega (arith, h.light, scales.least l.shape.zone, scales.least r.shape.zone);
            apart = (record { own = λ e. never (sym ne ∙ e) }, h.apart);
          }

      list_light : If (Lighter l r) (list_coercion c l r)
      unfolding list_coercion
      list_light =
          if_cond (Lighter l r) (is_list l.shape.kind && is_list r.shape.kind) _ None
          (λ e. list_of_light (list_shape l.shape r.shape) bare.0 bare.1 (join_fields c l.parts r.parts r.parts)
          (join_light l.parts r.parts r.parts hl.1 hr.1))
          (λ e. tt)
        where
          P : Shape → Type 0
          P s = (b s.zone ≡ b absent) × (eqb s.kind Kind.STRUCT ≡ false)

          bare : P (list_shape l.shape r.shape)
          bare =
              cond_is P (eqb l.shape.kind Kind.FIXED_SIZE_LIST && eqb r.shape.kind Kind.FIXED_SIZE_LIST) _ _
              (cond_is P (eqb l.shape.size r.shape.size) _ _ (refl, refl) (refl, refl))
              (cond_is P (eqb l.shape.kind Kind.LARGE_LIST || eqb r.shape.kind Kind.LARGE_LIST) _ _ (refl, refl) (refl, refl))

      both_light : (p q : Fields) → Apart p → Apart q → weigh a b p ≤ weigh a b l.parts → weigh a b q ≤ weigh a b r.parts
          → eqb l.shape.kind Kind.STRUCT ≡ false → If (Lighter l r) (both_parts c l p q)
      both_light end q h k g m ne = tt
      both_light (field n₁ d₁ s₁ p₁ end) q h k g m ne = tt
      both_light (field n₁ d₁ s₁ p₁ (field n₂ d₂ s₂ p₂ q₁)) end h k g m ne = tt
      both_light (field n₁ d₁ s₁ p₁ (field n₂ d₂ s₂ p₂ q₁)) (field m₁ c₁ t₁ u₁ end) h k g m ne = tt
      both_light (field n₁ d₁ s₁ p₁ (field n₂ d₂ s₂ p₂ q₁)) (field m₁ c₁ t₁ u₁ (field m₂ c₂ t₂ u₂ v₁)) h k g m ne =
          let x₁ : DataType = record { shape = s₁; parts = p₁ } in
          let y₁ : DataType = record { shape = t₁; parts = u₁ } in
          let x₂ : DataType = record { shape = s₂; parts = p₂ } in
          let y₂ : DataType = record { shape = t₂; parts = u₂ } in
          if_then (Lighter x₁ y₁) (Lighter l r) (c x₁ y₁) _ (keeps x₁ y₁ (h.0, h.1.0) (k.0, k.1.0))
          (λ t i. if_then (Lighter x₂ y₂) (Lighter l r) (c x₂ y₂) _ (keeps x₂ y₂ (h.1.1.0, h.1.1.1.0) (k.1.1.0, k.1.1.1.0))
          (λ u j.
          record {
            light = omega (arith, i.light, j.light, scales.least r.shape.zone);
            apart = (record { own = λ e. never (sym ne ∙ e) }, (i.apart.0, (i.apart.1, (j.apart.0, (j.apart.1, tt)))));
          }))

    map_light : (l r : DataType) → TypeApart l → TypeApart r → If (Lighter l r) (map_coercion c l r)
    unfolding map_coercion
    map_light l r hl hr =
        if_cond (Lighter l r) (is_of Kind.MAP l && is_of Kind.MAP r) _ None
        (λ e. if_then (Entry l.parts) (Lighter l r) (entry_type l.parts) _ (entry_held l.parts hl.1)
        (λ x g. if_then (Entry r.parts) (Lighter l r) (entry_type r.parts) _ (entry_held r.parts hr.1)
        (λ y m. if_then (Lighter x y) (Lighter l r) (struct_coercion c x y) _ (struct_light x y g.apart m.apart)
        (λ t i.
        record {
          light = omega (arith, g.swap t, m.light, i.light, scales.least l.shape.zone, scales.least r.shape.zone);
          apart = (record { own = λ e. never e }, g.swapped t i.apart);
        }))))
        (λ e. tt)

    wrapped_light : (d other : DataType) (make : DataType → DataType → Option DataType) → TypeApart d → TypeApart other
        → If (λ v. (u : DataType) → TypeApart u → If (Swapped d v u) (make d u)) (value_in d.parts) → If (Lighter d other) (wrapped c d other make)
    wrapped_light d other make hd ho h =
        if_then _ (Lighter d other) (value_in d.parts) _ (if_both (Held d.parts) _ (value_in d.parts) (value_held d.parts hd.1) h)
        (λ v g. if_then (Lighter v other) (Lighter d other) (c v other) _ (keeps v other g.0.apart ho)
        (λ u i. if_weak (Swapped d v u) (Lighter d other) (make d u) (g.1 u i.apart) (λ t j. record { light = omega (arith, i.light, j.swap); apart = j.apart })))

    module _ (rules : Rules) (l r : DataType) (hl : TypeApart l) (hr : TypeApart r) where
      pair_light : If (Lighter l r) (first_of (pair_rules rules c l r))
      pair_light =
          if_first (Lighter l r) (pair_rules rules c l r)
          (alike_light l r hl hr
          also as_light l r (binary_numeric_coercion (figures_of l) (figures_of r))
          also wrapper_light l r hl hr Kind.DICTIONARY
          also wrapper_light l r hl hr Kind.RUN_END_ENCODED
          also temporal_light l r hl hr
          also of_kind_light l r (string_coercion l.shape.kind r.shape.kind)
          also list_light l r hl hr
          also null_light l r hl hr rules.mask
          also string_number_light l r hl hr rules.question
          also string_temporal_light l r hl hr
          also of_kind_light l r (binary_coercion l.shape.kind r.shape.kind)
          also struct_light l r hl hr
          also map_light l r hl hr
          also done)

      list_rules_light : If (Lighter l r) (first_of (list_rules rules c l r))
      list_rules_light =
          if_first (Lighter l r) (list_rules rules c l r)
          (as_light l r (binary_numeric_coercion (figures_of l) (figures_of r))
          also list_light l r hl hr
          also map_light l r hl hr
          also temporal_light l r hl hr
          also of_kind_light l r (string_coercion l.shape.kind r.shape.kind)
          also null_light l r hl hr rules.mask
          also numeric_light l r hl hr
          also of_kind_light l r (binary_coercion l.shape.kind r.shape.kind)
          also done)

      -- the other way round
      turned : (o : Option DataType) → If (Lighter r l) o → If (Lighter l r) o
      turned o h = if_weak (Lighter r l) (Lighter l r) o h (λ t g. record { light = omega (arith, g.light); apart = g.apart })

      other_kind : (d : DataType) (k : ℕ) → eqb k Kind.STRUCT ≡ false → is_of k d ≡ true → eqb d.shape.kind Kind.STRUCT ≡ false
      other_kind d k ne e = rw (eqb-true d.shape.kind k e) ne

      resolution_light : If (Lighter l r) (resolution_coercion rules c l r)
      resolution_light =
          let P = Lighter l r in
          if_cond P (equal l r) (Some l) _ (λ e. left_light l r hl)
          (λ e. if_cond P (is_of Kind.DICTIONARY l && is_of Kind.DICTIONARY r) _ _
          (λ e. both_light l r hl hr l.parts r.parts hl.1 hr.1 (omega arith) (omega arith) (other_kind l Kind.DICTIONARY refl (and_fst _ _ e)))
          (λ e. if_cond P (is_of Kind.DICTIONARY l) _ _
          (λ e. wrapped_light l r keep_dictionary hl hr (dictionary_swapped l.shape l.parts (other_kind l Kind.DICTIONARY refl e) hl.1))
          (λ e. if_cond P (is_of Kind.DICTIONARY r) _ _
          (λ e. turned (wrapped c r l keep_dictionary)
          (wrapped_light r l keep_dictionary hr hl (dictionary_swapped r.shape r.parts (other_kind r Kind.DICTIONARY refl e) hr.1)))
          (λ e. if_cond P (is_of Kind.RUN_END_ENCODED l && is_of Kind.RUN_END_ENCODED r) _ _
          (λ e. both_light l r hl hr l.parts r.parts hl.1 hr.1 (omega arith) (omega arith) (other_kind l Kind.RUN_END_ENCODED refl (and_fst _ _ e)))
          (λ e. if_cond P (is_of Kind.RUN_END_ENCODED l) _ _
          (λ e. wrapped_light l r (λ d t. run_ends_of d d.parts t) hl hr (run_ends_swapped l.shape l.parts (other_kind l Kind.RUN_END_ENCODED refl e) hl.1))
          (λ e. if_cond P (is_of Kind.RUN_END_ENCODED r) _ _
          (λ e. turned (wrapped c r l (λ d t. run_ends_of d d.parts t))
          (wrapped_light r l (λ d t. run_ends_of d d.parts t) hr hl (run_ends_swapped r.shape r.parts (other_kind r Kind.RUN_END_ENCODED refl e) hr.1)))
          (λ e. if_cond P (is_of Kind.STRUCT l && is_of Kind.STRUCT r) _ _ (λ e. list_struct_light l r hl hr (and_fst _ _ e)) (λ e. list_rules_light))))))))

      ask_light : (q : Question) → If (Lighter l r) (ask q rules c l r)
      ask_light Question.List = resolution_light
      ask_light Question.Union = pair_light
      ask_light Question.Compare = pair_light

  in_light : (f : ℕ) (rules : Rules) (l r : DataType) → TypeApart l → TypeApart r → If (Lighter l r) (coerce_in f rules l r)
  unfolding coerce_in
  in_light zero rules l r hl hr = tt
  in_light (suc f) rules l r hl hr = ask_light (coerce_in f rules) (λ x y h k. in_light f rules x y h k) rules l r hl hr rules.question

  pub coercion_light : (rules : Rules) (l r : DataType) → TypeApart l → TypeApart r → If (Lighter l r) (coercion rules l r)
  unfolding coercion
  coercion_light rules l r hl hr = in_light (size l + size r) rules l r hl hr
