-- The rules of two types in the order in which the merge tries them. Assumes nothing.
use mathlib.Core.Path.{◌≡◌, refl, ap, ap₂, sym, subst, ◌∙◌}
use mathlib.Core.Bool.{Bool, true, false, cond, not, ◌&&◌, ◌||◌}
use mathlib.Core.List.{List}
use mathlib.Core.Logic.{◌⊎◌, inl, inr}
use Rattle.std.specs.Prelude.{Option, None, Some}
use Prim.Native.Nat.{ℕ, ◌+◌, ◌<◌, ◌≤◌}
use native.Mathlib.Omega.{arith}
use lib.Dec.{eqb, ltb}
use borrow.Author.Tests.{eq-eqb, ne_eqb, eqb-true, lt-ltb}
use Rattle.sheet.specs.declared.kind.TheConstants as Kind
use Rattle.sheet.specs.Types.{Shape, Fields, end}
use Rattle.sheet.specs.Head.{head_at}
use Rattle.sheet.specs.declared.Head.{Head}
use Rattle.sheet.proofs.Booleans.{never}
use Rattle.coercion.specs.Data.{DataType, size, or_else, and_then, is_list_question}
use Rattle.sheet.specs.Kind.{is_list, is_wrapper}
use Rattle.coercion.specs.Same.{same_type}
use Rattle.coercion.specs.Wrappers.{is_of, wrapper_coercion}
use Rattle.coercion.specs.Nested.{before, join_fields, list_shape, list_of, list_coercion, struct_coercion}
use Rattle.coercion.specs.Answers.{both_parts, list_struct, coercion}
use Rattle.coercion.specs.declared.Question.{Question}
use Rattle.coercion.specs.declared.Rules.{Rules}
use Rattle.buffers.specs.Source.{SameTypes}
use Rattle.buffers.specs.Writes.{side}
use Rattle.buffers.specs.Region.{Room, Kept}
use Rattle.buffers.specs.Target.{letters, Means, CopiedType, shape_for}
use Rattle.merge.specs.Lists.{list_kind, list_size}
use Rattle.plain.specs.Steps.{Reads}
use Rattle.plain.specs.Plain.{plain_rules}
use Rattle.rule_order.proofs.Orders.{map_turns}
use Rattle.rule_order.specs.Order.{struct_rule, nested_of, list_rule, map_rule, both_wrapped, rewrapped, either_wrapped, resolved, wrapper_rule, unwrapped}
use Rattle.buffers.specs.Typed.{Typed, Merges}
use Rattle.merge.specs.Known.{Differs, row_known}
use Rattle.merge.specs.Merge.{MergesKnown, MergesHinted, Under}
use Rattle.buffers.specs.declared.Space.{Space}
use Rattle.buffers.specs.declared.Place.{Place}
use Rattle.buffers.specs.declared.Target.{Target}
use Rattle.buffers.specs.Written.{Written}
use Rattle.std.specs.Prelude.{Ok, Err}
use Rattle.buffers.specs.declared.Failure.TheVariants.{NoType, Full}
use Rattle.partners.specs.declared.Feed.TheVariants as Feed
use Rattle.buffers.proofs.Frames.{kept_trans}
use Rattle.merge.proofs.Knowing.{parts_known, value_known}
use Rattle.merge.proofs.Merging.{typed_side, typed_same, nothing_known, any_known, any_hint, means_for, means_after, hinted_within, known_as, as_known, merges_swapped, merges_left, merges_right, merges_none}
use Rattle.wrappers.specs.Ways.{Hint, without}
use Rattle.wrappers.specs.Walks.{Chosen, kind_in}
use Rattle.wrappers.specs.declared.walk.Choice.{Choice}
use Rattle.wrappers.proofs.Choosing.{typed_whole, way_rule, way_none}
use Rattle.wrappers.proofs.Hints.{hint_for, without_value, without_self}
use Rattle.wrappers.proofs.Values.{side_twice, kind_of_lem, kind_is, chain_first, Two, typed_two, value_of}
use Rattle.buffers.proofs.Fielding.{typed_reads}

-- tests of two kinds, one after the other
pub both_true : {a b : Bool} → a ≡ true → b ≡ true → (a && b) ≡ true
both_true e f = rw e f

pub left_false : {a : Bool} (b : Bool) → a ≡ false → (a && b) ≡ false
left_false b e = rw e refl

pub right_false : (a : Bool) {b : Bool} → b ≡ false → (a && b) ≡ false
right_false true e = e
right_false false e = refl

pub both_are : {k j i : ℕ} → k ≡ i → j ≡ i → (eqb k i && eqb j i) ≡ true
both_are {k} {j} {i} e f = both_true (eq-eqb k i e) (eq-eqb j i f)

pub not_both : {k j i : ℕ} → ((k ≡ i) × ¬ (j ≡ i)) ⊎ ¬ (k ≡ i) → (eqb k i && eqb j i) ≡ false
not_both {k} {j} {i} (inl n) = right_false (eqb k i) (ne_eqb j i n.1)
not_both {k} {j} {i} (inr n) = left_false (eqb j i) (ne_eqb k i n)

pub one_is : {k j i : ℕ} → (k ≡ i) ⊎ ((¬ (k ≡ i)) × (j ≡ i)) → (eqb k i || eqb j i) ≡ true
one_is {k} {j} {i} (inl e) = rw (eq-eqb k i e) refl
one_is {k} {j} {i} (inr e) = rw (ne_eqb k i e.0) (rw (eq-eqb j i e.1) refl)

pub none_is : {k j i : ℕ} → ¬ (k ≡ i) → ¬ (j ≡ i) → (eqb k i || eqb j i) ≡ false
none_is {k} {j} {i} m n = rw (ne_eqb k i m) (rw (ne_eqb j i n) refl)

pub both_below : {k j i : ℕ} → k < i → j < i → (ltb k i && ltb j i) ≡ true
both_below {k} {j} {i} e f = both_true (lt-ltb k i e) (lt-ltb j i f)

-- what was merged after something else was written at the same goal
pub merges_after : {known : Option ℕ} {named : Bool} {A : DataType → DataType → Option DataType} {space : Space} {left : ℕ} (swap : Bool) {s w v u : List ℕ} {l r : ℕ} {g : Target} {o : Written} → Room w space
    → Kept space w v g.at (g.label + g.name_len) → MergesKnown known named A space left swap s v u l r g o → MergesKnown known named A space left swap s w u l r g o
merges_after {A = A} {space} {left} swap {s} {w} {v} {u} {l} {r} {g} {o} room k m =
    record {
      writes = record { kept = kept_trans k m.writes.kept; passes = m.writes.passes };
      means =
          λ x y a b q d.
          means_after space w v u g (size x + size y) (letters x + letters y) o (A x y) k
          (m.means x y (typed_side swap space s w v g.at (g.label + g.name_len) room k a) (typed_side (not swap) space s w v g.at (g.label + g.name_len) room k b) q d);
    }

-- the first of two rules that says something
or_done : (space : Space) (w v : List ℕ) (g : Target) (z y : ℕ) (d : Place) (a b : Option DataType) → Means space w v g z y (Ok d) a → Means space w v g z y (Ok d) (or_else a b)
or_done space w v g z y d None b k = absurd k
or_done space w v g z y d (Some t) b k = k

or_none : (space : Space) (w v u : List ℕ) (g : Target) (z y : ℕ) (o : Written) (a b : Option DataType) → Means space w v g z y (Err NoType) a → Means space w u g z y o b → Means space w u g z y o (or_else a b)
or_none space w v u g z y o None b k m = m
or_none space w v u g z y o (Some t) b k m = absurd k

module _ {hint mask : ℕ} {known : Option ℕ} {named : Bool} {A : DataType → DataType → Option DataType} (B : DataType → DataType → Option DataType) {space : Space} {left : ℕ} (swap : Bool)
    {s w v : List ℕ} {l r : ℕ} {g : Target} where
  pub either_done : {d : Place} → MergesHinted hint mask known named A space left swap s w v l r g (Ok d)
      → MergesHinted hint mask known named (λ x y. or_else (A x y) (B x y)) space left swap s w v l r g (Ok d)
  either_done {d} m =
      record { writes = m.writes; means = λ x y a b q i n. or_done space w v g (size x + size y) (letters x + letters y) d (A x y) (B x y) (m.means x y a b q i n) }

  pub either_full : MergesHinted hint mask known named A space left swap s w v l r g (Err Full)
      → MergesHinted hint mask known named (λ x y. or_else (A x y) (B x y)) space left swap s w v l r g (Err Full)
  either_full m = record { writes = m.writes; means = λ x y a b q i n. m.means x y a b q i n }

  pub either_next : {u : List ℕ} {o : Written} → Room w space → MergesHinted hint mask known named A space left swap s w v l r g (Err NoType) → MergesKnown known named B space left swap s v u l r g o
      → MergesHinted hint mask known named (λ x y. or_else (A x y) (B x y)) space left swap s w u l r g o
  either_next {u} {o} room m n =
      let k = merges_after swap room m.writes.kept n in
      record {
        writes = k.writes;
        means = λ x y a b q i f. or_none space w v u g (size x + size y) (letters x + letters y) o (A x y) (B x y) (m.means x y a b q i f) (k.means x y a b q i);
      }

or_self : (b : Bool) → b ≡ (b || b)
or_self true = refl
or_self false = refl

-- two wrappers, part by part
pub both_two : (c : DataType → DataType → Option DataType) (l : DataType) (lf rf : Fields) → Two lf → Two rf → list_of l.shape (join_fields c lf rf lf) ≡ both_parts c l lf rf
unfolding join_fields
both_two c l lf rf x y =
    rw x.is (rw y.is (go (c (record { shape = x.s; parts = x.p }) (record { shape = y.s; parts = y.p })) (c (record { shape = x.s₂; parts = x.p₂ }) (record { shape = y.s₂; parts = y.p₂ }))))
  where
    go : (o o₂ : Option DataType)
        → list_of l.shape
        (and_then o (λ t. and_then (and_then o₂ (λ t₂. Some (before x.n₂ (x.b₂ || x.b₂) t₂ end))) (λ fields. Some (before x.n (x.b || x.b) t fields))))
        ≡ and_then o (λ t. and_then o₂ (λ t₂. Some (record { shape = l.shape; parts = before x.n x.b t (before x.n₂ x.b₂ t₂ end) })))
    go None o₂ = refl
    go (Some t) None = refl
    go (Some t) (Some t₂) = rw (sym (or_self x.b)) (rw (sym (or_self x.b₂)) refl)

module _ (known : Option ℕ) (named : Bool) (rules : Rules) (c : DataType → DataType → Option DataType) (space : Space) (left : ℕ) (swap : Bool) (s w : List ℕ) (l r : ℕ) (g : Target) where
  abbrev S : List ℕ
  S = side swap s w

  abbrev T : List ℕ
  T = side (not swap) s w

  -- the rules of a list, by the kinds of both
  module _ {k j : ℕ} (ek : k ≡ (head_at S l).kind) (ej : j ≡ (head_at T r).kind) where
    one_of : {x y : DataType} (i : ℕ) → Typed space S l x → Typed space T r y → (is_of i x || is_of i y) ≡ (eqb k i || eqb j i)
    one_of i a b = ap₂ ◌||◌ (kind_is ek i a) (kind_is ej i b)

    pub resolve_dictionary : (v : List ℕ) (o : Written) → (eqb k 37 || eqb j 37) ≡ true → MergesKnown known named (either_wrapped 37 c) space (left + 1) swap s w v l r g o → MergesKnown known named (resolved rules c) space (left + 1) swap s w v l r g o
    unfolding resolved
    resolve_dictionary v o h = known_as (resolved rules c) space swap s w v l r g o known (left + 1) (omega arith) (λ x y a b d. (rw (one_of 37 a b ∙ h) refl, d))

    pub resolve_runs : (v : List ℕ) (o : Written) → (eqb k 37 || eqb j 37) ≡ false → (eqb k 38 || eqb j 38) ≡ true → MergesKnown known named (either_wrapped 38 c) space (left + 1) swap s w v l r g o
        → MergesKnown known named (resolved rules c) space (left + 1) swap s w v l r g o
    unfolding resolved
    resolve_runs v o n h = known_as (resolved rules c) space swap s w v l r g o known (left + 1) (omega arith) (λ x y a b d. (rw (one_of 37 a b ∙ n) (rw (one_of 38 a b ∙ h) refl), d))

    pub resolve_nested : (v : List ℕ) (o : Written) → (eqb k 37 || eqb j 37) ≡ false → (eqb k 38 || eqb j 38) ≡ false → MergesKnown known named (nested_of rules c) space (left + 1) swap s w v l r g o
        → MergesKnown known named (resolved rules c) space (left + 1) swap s w v l r g o
    unfolding resolved
    resolve_nested v o n h = known_as (resolved rules c) space swap s w v l r g o known (left + 1) (omega arith) (λ x y a b d. (rw (one_of 37 a b ∙ n) (rw (one_of 38 a b ∙ h) refl), d))

or_assoc : (a b c : Option DataType) → or_else (or_else a b) c ≡ or_else a (or_else b c)
or_assoc None b c = refl
or_assoc (Some t) b c = refl

-- the rules of union and compare: the one rule for wrappers that can give an answer, and then the others
asked : (rules : Rules) → is_list_question rules.question ≡ false → {space : Space} {s t : List ℕ} {l r : ℕ} (x y : DataType) → Typed space s l x → Typed space t r y
    → or_else (wrapper_rule rules (coercion rules) x y) (nested_of rules (coercion rules) x y) ≡ unwrapped rules (coercion rules) x y
unfolding unwrapped
asked rules pairs x y a b =
    ap (λ (o : Option DataType). or_else o (nested_of rules (coercion rules) x y)) (sym (way_rule rules pairs x y (typed_whole a) (typed_whole b)))
    ∙ or_assoc (wrapper_coercion 37 (coercion rules) x y) (wrapper_coercion 38 (coercion rules) x y) (nested_of rules (coercion rules) x y)

module _ {hint mask : ℕ} (known : Option ℕ) (named : Bool) (rules : Rules) (pairs : is_list_question rules.question ≡ false) (space : Space) (left : ℕ) (swap : Bool) (s w : List ℕ) (l r : ℕ) (g : Target)
    (v : List ℕ) where
  as_unwrapped : {u : List ℕ} {o : Written} → MergesHinted hint mask known named (λ x y. or_else (wrapper_rule rules (coercion rules) x y) (nested_of rules (coercion rules) x y)) space (left + 1) swap s w u l r g o
      → MergesHinted hint mask known named (unwrapped rules (coercion rules)) space (left + 1) swap s w u l r g o
  as_unwrapped {u} {o} = hinted_within (unwrapped rules (coercion rules)) space swap s w u l r g o known (left + 1) (omega arith) (λ x y a b q d n. (asked rules pairs x y a b, d))

  pub unwrap_done : (d : Place) → MergesHinted hint mask known named (wrapper_rule rules (coercion rules)) space (left + 1) swap s w v l r g (Ok d)
      → MergesHinted hint mask known named (unwrapped rules (coercion rules)) space (left + 1) swap s w v l r g (Ok d)
  unwrap_done d m = as_unwrapped (either_done (nested_of rules (coercion rules)) swap m)

  pub unwrap_full : MergesHinted hint mask known named (wrapper_rule rules (coercion rules)) space (left + 1) swap s w v l r g (Err Full)
      → MergesHinted hint mask known named (unwrapped rules (coercion rules)) space (left + 1) swap s w v l r g (Err Full)
  unwrap_full m = as_unwrapped (either_full (nested_of rules (coercion rules)) swap m)

  pub unwrap_nested : Room w space → (u : List ℕ) (o : Written) → MergesHinted hint mask known named (wrapper_rule rules (coercion rules)) space (left + 1) swap s w v l r g (Err NoType)
      → MergesKnown known named (nested_of rules (coercion rules)) space (left + 1) swap s v u l r g o
      → MergesHinted hint mask known named (unwrapped rules (coercion rules)) space (left + 1) swap s w u l r g o
  unwrap_nested room u o m n = as_unwrapped (either_next (nested_of rules (coercion rules)) swap room m n)

-- the rule for wrappers that is asked
module _ {hint : ℕ} {known : Option ℕ} {named : Bool} (rules : Rules) (c : DataType → DataType → Option DataType) (space : Space) (left : ℕ) (swap : Bool) (s w : List ℕ) (l r : ℕ) (g : Target)
    {t : Option Choice} (way : Chosen hint rules.mask (left + 1) swap s w l r t) where
  pub way_merged : (v : List ℕ) (o : Written) → MergesHinted hint rules.mask known named (wrapper_coercion (kind_in t) c) space (left + 1) swap s w v l r g o
      → MergesHinted hint rules.mask known named (wrapper_rule rules c) space (left + 1) swap s w v l r g o
  way_merged v o =
      hinted_within (wrapper_rule rules c) space swap s w v l r g o known (left + 1) (omega arith)
      (λ x y a b q d n. (ap (λ (i : ℕ). wrapper_coercion i c x y) (way.is space x y a b q n), d))

  -- none can give an answer
  pub way_spent : kind_in t ≡ 0 → MergesHinted hint rules.mask known named (wrapper_rule rules c) space (left + 1) swap s w w l r g (Err NoType)
  way_spent e =
      hinted_within (wrapper_rule rules c) space swap s w w l r g (Err NoType) known (left + 1) (omega arith)
      (λ x y a b q d n. (sym (way_none rules.mask c x y (sym (way.is space x y a b q n) ∙ e)), d))
      (any_hint hint rules.mask swap (any_known known swap (merges_none (λ x y. None) space (left + 1) swap s w l r g (λ x y a b q. refl))))

-- wrappers of a kind, in a list
module _ (known : Option ℕ) {named : Bool} (c : DataType → DataType → Option DataType) (space : Space) (left : ℕ) (swap : Bool) (s w : List ℕ) (l r : ℕ) (g : Target)
    {k j i : ℕ} (ek : k ≡ (head_at (side swap s w) l).kind) (ej : j ≡ (head_at (side (not swap) s w) r).kind) (is : is_wrapper i ≡ true) where
  pub wrap_both : (v : List ℕ) (o : Written) → k ≡ i → j ≡ i → MergesKnown known named (both_wrapped c) space (left + 1) swap s w v l r g o → MergesKnown known named (either_wrapped i c) space (left + 1) swap s w v l r g o
  unfolding either_wrapped
  wrap_both v o p q =
      known_as (either_wrapped i c) space swap s w v l r g o known (left + 1) (omega arith)
      (λ x y a b d. (
        rw (kind_is ek i a ∙ eq-eqb k i p)
            (rw (kind_is ej i b ∙ eq-eqb j i q) (both_two c x x.parts y.parts (typed_two is (kind_of_lem ek a ∙ p) a) (typed_two is (kind_of_lem ej b ∙ q) b))),
        d,
      ))

  pub wrap_left : (v : List ℕ) (o : Written) → k ≡ i → ¬ (j ≡ i) → MergesKnown known named (rewrapped i c) space (left + 1) swap s w v l r g o → MergesKnown known named (either_wrapped i c) space (left + 1) swap s w v l r g o
  unfolding either_wrapped
  wrap_left v o p q =
      known_as (either_wrapped i c) space swap s w v l r g o known (left + 1) (omega arith)
      (λ x y a b d. (rw (kind_is ek i a ∙ eq-eqb k i p) (rw (kind_is ej i b ∙ ne_eqb j i q) refl), d))

  pub wrap_right : (v : List ℕ) (o : Written) → ¬ (k ≡ i) → j ≡ i → Merges (rewrapped i c) space (left + 1) (not swap) s w v r l g o → MergesKnown known named (either_wrapped i c) space (left + 1) swap s w v l r g o
  unfolding either_wrapped
  wrap_right v o p q m =
      any_known known swap
      (merges_swapped (either_wrapped i c) space swap s w v l r g o (left + 1)
      (λ x y a b. rw (kind_is ek i a ∙ ne_eqb k i p) (rw (kind_is ej i b ∙ eq-eqb j i q) refl)) m)

  pub wrap_none : ¬ (k ≡ i) → ¬ (j ≡ i) → MergesKnown known named (either_wrapped i c) space (left + 1) swap s w w l r g (Err NoType)
  unfolding either_wrapped
  wrap_none p q =
      any_known known swap
      (merges_none (either_wrapped i c) space (left + 1) swap s w l r g
      (λ x y a b m. rw (kind_is ek i a ∙ ne_eqb k i p) (rw (kind_is ej i b ∙ ne_eqb j i q) refl)))

-- what is known of two types is known of those that the rule of a kind goes on with
abbrev On : Space → ℕ → Bool → List ℕ → List ℕ → ℕ → ℕ → ℕ → ℕ → ℕ → ℕ → Type 0
On space left swap s w l r i mask hint own =
    (x y : DataType) → Typed space (side swap s w) l x → Typed space (side (not swap) s w) r y → size x + size y ≤ left + 1 → Hint hint mask x y → Hint own mask (without i x) (without i y)

-- a wrapper of a kind on either side, in union and compare
module _ (c : DataType → DataType → Option DataType) (space : Space) (left : ℕ) (swap : Bool) (s w : List ℕ) (l r : ℕ) (g : Target)
    {k j i : ℕ} (ek : k ≡ (head_at (side swap s w) l).kind) (ej : j ≡ (head_at (side (not swap) s w) r).kind) (is : is_wrapper i ≡ true) where
  pub wrapper_none : ¬ (k ≡ i) → ¬ (j ≡ i) → Merges (wrapper_coercion i c) space (left + 1) swap s w w l r g (Err NoType)
  unfolding wrapper_coercion
  wrapper_none p q =
      merges_none (wrapper_coercion i c) space (left + 1) swap s w l r g
      (λ x y a b m. rw (kind_is ek i a ∙ ne_eqb k i p) (rw (kind_is ej i b ∙ ne_eqb j i q) refl))

  module _ (v : List ℕ) (o : Written) where
    pub wrapper_both : (mask hint own : ℕ) → On space left swap s w l r i mask hint own → (known own-known : Option ℕ) {named : Bool} {m₁ m₂ : ℕ} → m₁ ≡ (head_at (side swap s w) (head_at (side swap s w) l).first).next
        → m₂ ≡ (head_at (side (not swap) s w) (head_at (side (not swap) s w) r).first).next → k ≡ i → j ≡ i → own-known ≡ row_known known m₁ 0 m₂ m₂
        → MergesHinted own mask own-known named c space left swap s w v m₁ m₂ g o → MergesHinted hint mask known named (wrapper_coercion i c) space (left + 1) swap s w v l r g o
    unfolding wrapper_coercion
    wrapper_both mask hint own on known own-known {named} {m₁} ea eb p q eo m =
        record {
          writes = m.writes;
          means =
              λ x y a b h d n.
              let vx = value_of is (kind_of_lem ek a ∙ p) ea a in
              let vy = value_of is (kind_of_lem ej b ∙ q) eb b in
              means_for space w v g (size x + size y) (letters x + letters y) o (omega (arith, vx.smaller, vy.smaller)) (omega (arith, vx.shorter, vy.shorter))
              (rw (kind_is ek i a ∙ eq-eqb k i p) (rw (kind_is ej i b ∙ eq-eqb j i q) (rw vx.is (rw vy.is refl))))
              (m.means vx.type vy.type vx.typed vy.typed (omega (arith, vx.smaller, vy.smaller))
              (subst (λ (i : Option ℕ). Differs i named m₁ vx.type vy.type) (sym eo)
              (value_known known named x y (typed_two is (kind_of_lem ek a ∙ p) a) (typed_two is (kind_of_lem ej b ∙ q) b) a b ea eb vx.typed vy.typed d))
              (hint_for own mask (without_value i x vx.type (kind_is ek i a ∙ eq-eqb k i p) vx.is) (without_value i y vy.type (kind_is ej i b ∙ eq-eqb j i q) vy.is) (on x y a b h n)));
        }

    module _ (p : k ≡ i) (q : ¬ (j ≡ i)) {a : ℕ} (ea : a ≡ (head_at (side swap s w) (head_at (side swap s w) l).first).next) {e : Bool}
        (f : SameTypes (side swap s w) space.n a (side (not swap) s w) space.n r true e) where
      pub wrapper_left_same : e ≡ true → CopiedType space (side swap s w) w v l g o → Merges (wrapper_coercion i c) space (left + 1) swap s w v l r g o
      unfolding wrapper_coercion
      wrapper_left_same h =
          merges_left (wrapper_coercion i c) space (left + 1) swap s w l r g v o
          (λ x y a b.
          let vx = value_of is (kind_of_lem ek a ∙ p) ea a in
          rw (kind_is ek i a ∙ eq-eqb k i p) (rw (kind_is ej i b ∙ ne_eqb j i q) (rw vx.is (rw (sym (typed_same true f vx.typed b) ∙ h) refl))))

      pub wrapper_left : (mask hint own : ℕ) → On space left swap s w l r i mask hint own → (known : Option ℕ) {named : Bool} → e ≡ false → MergesHinted own mask None named c space left swap s w v a r g o → MergesHinted hint mask known named (wrapper_coercion i c) space (left + 1) swap s w v l r g o
      unfolding wrapper_coercion
      wrapper_left mask hint own on known {named} z m =
          record {
            writes = m.writes;
            means =
                λ x y a b h d n.
                let vx = value_of is (kind_of_lem ek a ∙ p) ea a in
                means_for space w v g (size x + size y) (letters x + letters y) o (omega (arith, vx.smaller)) (omega (arith, vx.shorter))
                (rw (kind_is ek i a ∙ eq-eqb k i p) (rw (kind_is ej i b ∙ ne_eqb j i q) (rw vx.is (rw (sym (typed_same true f vx.typed b) ∙ z) refl))))
                (m.means vx.type y vx.typed b (omega (arith, vx.smaller)) (nothing_known named _ vx.type y)
                (hint_for own mask (without_value i x vx.type (kind_is ek i a ∙ eq-eqb k i p) vx.is) (without_self i y (kind_is ej i b ∙ ne_eqb j i q)) (on x y a b h n)));
          }

    module _ (p : ¬ (k ≡ i)) (q : j ≡ i) {a : ℕ} (ea : a ≡ (head_at (side (not swap) s w) (head_at (side (not swap) s w) r).first).next) {e : Bool}
        (f : SameTypes (side (not swap) s w) space.n a (side (not (not swap)) s w) space.n l true e) where
      same : {t x : DataType} → Typed space (side (not swap) s w) a t → Typed space (side swap s w) l x → e ≡ same_type true t x
      same {t} {x} vy b = typed_same true f vy (subst (λ (u : List ℕ). Typed space u l x) (sym (side_twice swap s w)) b)

      pub wrapper_right_same : e ≡ true → CopiedType space (side (not swap) s w) w v r g o → Merges (wrapper_coercion i c) space (left + 1) swap s w v l r g o
      unfolding wrapper_coercion
      wrapper_right_same h =
          merges_right (wrapper_coercion i c) space (left + 1) swap s w l r g v o
          (λ x y a b.
          let vy = value_of is (kind_of_lem ej b ∙ q) ea b in
          rw (kind_is ek i a ∙ ne_eqb k i p) (rw (kind_is ej i b ∙ eq-eqb j i q) (rw vy.is (rw (sym (same vy.typed a) ∙ h) refl))))

      pub wrapper_right : (mask hint own : ℕ) → On space left swap s w l r i mask hint own → (known : Option ℕ) {named : Bool} → e ≡ false → MergesHinted own mask None named c space left swap s w v l a g o → MergesHinted hint mask known named (wrapper_coercion i c) space (left + 1) swap s w v l r g o
      unfolding wrapper_coercion
      wrapper_right mask hint own on known {named} z m =
          record {
            writes = m.writes;
            means =
                λ x y a b h d n.
                let vy = value_of is (kind_of_lem ej b ∙ q) ea b in
                means_for space w v g (size x + size y) (letters x + letters y) o (omega (arith, vy.smaller)) (omega (arith, vy.shorter))
                (rw (kind_is ek i a ∙ ne_eqb k i p) (rw (kind_is ej i b ∙ eq-eqb j i q) (rw vy.is (rw (sym (same vy.typed a) ∙ z) refl))))
                (m.means x vy.type a vy.typed (omega (arith, vy.smaller)) (nothing_known named _ x vy.type)
                (hint_for own mask (without_self i x (kind_is ek i a ∙ ne_eqb k i p)) (without_value i y vy.type (kind_is ej i b ∙ eq-eqb j i q) vy.is) (on x y a b h n)));
          }

-- two types that are no wrappers, by the kinds of both
module _ (known : Option ℕ) (named : Bool) (rules : Rules) (c : DataType → DataType → Option DataType) (space : Space) (left : ℕ) (swap : Bool) (s w : List ℕ) (l r : ℕ) (g : Target)
    {k j : ℕ} (ek : k ≡ (head_at (side swap s w) l).kind) (ej : j ≡ (head_at (side (not swap) s w) r).kind) (v : List ℕ) (o : Written) where
  module _ {X Y : DataType} (a : Typed space (side swap s w) l X) (b : Typed space (side (not swap) s w) r Y) where
    lists : (is_list X.shape.kind && is_list Y.shape.kind) ≡ (is_list k && is_list j)
    lists = ap₂ (λ (m n : ℕ). is_list m && is_list n) (kind_of_lem ek a) (kind_of_lem ej b)

    are : (i : ℕ) → (is_of i X && is_of i Y) ≡ (eqb k i && eqb j i)
    are i = ap₂ ◌&&◌ (kind_is ek i a) (kind_is ej i b)

  pub nested_list : (is_list k && is_list j) ≡ true → MergesKnown known named (list_rule c) space (left + 1) swap s w v l r g o → MergesKnown known named (nested_of rules c) space (left + 1) swap s w v l r g o
  unfolding nested_of list_coercion
  nested_list h = known_as (nested_of rules c) space swap s w v l r g o known (left + 1) (omega arith) (λ X Y a b d. (rw (lists a b ∙ h) refl, d))

  module _ (n : (is_list k && is_list j) ≡ false) where
    module _ (h : (eqb k 35 && eqb j 35) ≡ true) where
      by_names : (q : Question) (X Y : DataType) → is_list_question q ≡ true → list_struct c X Y ≡ struct_rule q c X Y
      by_names Question.List X Y e = refl
      by_names Question.Union X Y e = never e
      by_names Question.Compare X Y e = never e

      by_rule : (q : Question) (X Y : DataType) → is_list_question q ≡ false → struct_coercion c X Y ≡ struct_rule q c X Y
      by_rule Question.List X Y e = never (sym e)
      by_rule Question.Union X Y e = refl
      by_rule Question.Compare X Y e = refl

      pub nested_listed : is_list_question rules.question ≡ true → MergesKnown known named (list_struct c) space (left + 1) swap s w v l r g o → MergesKnown known named (nested_of rules c) space (left + 1) swap s w v l r g o
      unfolding nested_of
      nested_listed e =
          known_as (nested_of rules c) space swap s w v l r g o known (left + 1) (omega arith)
          (λ X Y a b d. (rw (lists a b ∙ n) (rw (are a b 35 ∙ h) (by_names rules.question X Y e)), d))

      pub nested_struct : is_list_question rules.question ≡ false → MergesKnown known named (struct_coercion c) space (left + 1) swap s w v l r g o
          → MergesKnown known named (nested_of rules c) space (left + 1) swap s w v l r g o
      unfolding nested_of
      nested_struct e =
          known_as (nested_of rules c) space swap s w v l r g o known (left + 1) (omega arith)
          (λ X Y a b d. (rw (lists a b ∙ n) (rw (are a b 35 ∙ h) (by_rule rules.question X Y e)), d))

    module _ (h : (eqb k 35 && eqb j 35) ≡ false) where
      pub nested_map : (eqb k 36 && eqb j 36) ≡ true → MergesKnown known named (map_rule c) space (left + 1) swap s w v l r g o → MergesKnown known named (nested_of rules c) space (left + 1) swap s w v l r g o
      unfolding nested_of
      nested_map e =
          known_as (nested_of rules c) space swap s w v l r g o known (left + 1) (omega arith)
          (λ X Y a b d. (rw (lists a b ∙ n) (rw (are a b 35 ∙ h) (rw (are a b 36 ∙ e) (map_turns c X Y (are a b 36 ∙ e)))), d))

      pub nested_plain : (eqb k 36 && eqb j 36) ≡ false → ((i : ℕ) → Merges (plain_rules rules) space i swap s w v l r g o) → MergesKnown known named (nested_of rules c) space (left + 1) swap s w v l r g o
      unfolding nested_of
      nested_plain e m =
          as_known (nested_of rules c) space swap s w v l r g o known (left + 1) (omega arith)
          (λ X Y a b d. rw (lists a b ∙ n) (rw (are a b 35 ∙ h) (rw (are a b 36 ∙ e) refl))) (m (left + 1))

-- the shape of two lists' common list, by their heads
size_of : {h : Head} {t : DataType} → Reads h t → eqb t.shape.kind 34 ≡ true → t.shape.size ≡ h.bytes_4_7
size_of {h} {t} a e =
    let k = eqb-true t.shape.kind 34 e in
    a.size (a.bare (ne_eqb t.shape.kind Kind.TIMESTAMP (λ q. omega arith)))

pub shape_listed : {x y : Head} {X Y : DataType} → Reads x X → Reads y Y → shape_for (list_kind x y) 0 0 (list_size x y) false ≡ list_shape X.shape Y.shape
shape_listed {x} {y} {X} {Y} a b = rw (sym a.kind) (rw (sym b.kind) (go (eqb X.shape.kind 34) refl (eqb Y.shape.kind 34) refl))
  where
    large : (p : Bool) → shape_for (cond p 33 32) 0 0 0 false ≡ cond p (shape_for 33 0 0 0 false) (shape_for 32 0 0 0 false)
    large true = refl
    large false = refl

    fixed : (p : Bool) (n : ℕ) → shape_for (cond p 34 32) 0 0 (cond p n 0) false ≡ cond p (shape_for 34 0 0 n false) (shape_for 32 0 0 0 false)
    fixed true n = refl
    fixed false n = refl

    go : (p : Bool) → eqb X.shape.kind 34 ≡ p → (q : Bool) → eqb Y.shape.kind 34 ≡ q
        → shape_for (cond (p && q) (cond (eqb x.bytes_4_7 y.bytes_4_7) 34 32) (cond (eqb X.shape.kind 33 || eqb Y.shape.kind 33) 33 32)) 0 0
        (cond (p && q) (cond (eqb x.bytes_4_7 y.bytes_4_7) y.bytes_4_7 0) 0) false
        ≡ cond (p && q) (cond (eqb X.shape.size Y.shape.size) (shape_for 34 0 0 Y.shape.size false) (shape_for 32 0 0 0 false))
        (cond (eqb X.shape.kind 33 || eqb Y.shape.kind 33) (shape_for 33 0 0 0 false) (shape_for 32 0 0 0 false))
    go true e true f = rw (size_of a e) (rw (size_of b f) (fixed (eqb x.bytes_4_7 y.bytes_4_7) y.bytes_4_7))
    go true e false f = large (eqb X.shape.kind 33 || eqb Y.shape.kind 33)
    go false e q f = large (eqb X.shape.kind 33 || eqb Y.shape.kind 33)

-- two lists
module _ {known : Option ℕ} {named : Bool} (c : DataType → DataType → Option DataType) (space : Space) (left : ℕ) (swap : Bool) (s w : List ℕ) (l r : ℕ) (g : Target) (x y : Head)
    (ex : x ≡ head_at (side swap s w) l) (ey : y ≡ head_at (side (not swap) s w) r) where
  pub list_merged : {kind sz : ℕ} → kind ≡ list_kind x y → sz ≡ list_size x y → (v : List ℕ) (o : Written)
      → Under known named c space left swap s w v Feed.Place (shape_for kind 0 0 sz false) x.first y.first y.first g o
      → MergesKnown known named (list_rule c) space (left + 1) swap s w v l r g o
  list_merged ek es v o u =
      record {
        writes = u.writes;
        means =
            λ X Y a b h d.
            let right = chain_first y ey b.chain in
            let shape = ap₂ (λ (i j : ℕ). shape_for i 0 0 j false) ek es ∙ shape_listed (typed_reads a ex) (typed_reads b ey) in
            means_for space w v g (size X + size Y) (letters X + letters Y) o (omega arith) (omega arith) (ap (λ (i : Shape). list_of i (join_fields c X.parts Y.parts Y.parts)) shape)
            (u.means X.parts Y.parts Y.parts Y.parts Y.parts (chain_first x ex a.chain) right right (refl, refl) (omega arith) (parts_known known named X Y a x ex d));
      }
