-- The merge's order of the rules gives the source's answers: a rule that asks for other kinds is none, wherever it is
-- tried. Assumes nothing.
use mathlib.Core.Path.{◌≡◌, refl, ap, sym, ◌∙◌}
use mathlib.Core.Bool.{Bool, true, false, cond, ◌&&◌, ◌||◌}
use mathlib.Core.List.{List, [], ◌∷◌}
use mathlib.Core.Logic.{◌⊎◌, inl, inr}
use Rattle.std.specs.Prelude.{Option, None, Some}
use Prim.Native.Nat.{ℕ, ◌<◌, ◌≤◌}
use native.Mathlib.Omega.{arith}
use lib.Dec.{eqb}
use borrow.Author.Tests.{eqb-true, ne_eqb, lt-leb}
use Rattle.sheet.specs.declared.kind.TheConstants as Kind
use Rattle.sheet.specs.Booleans.{between}
use Rattle.sheet.specs.Types.{arity}
use Rattle.sheet.proofs.Booleans.{never, and_fst, and_snd}
use Rattle.coercion.specs.Data.{DataType, or_else, first_of, figures_of, as_type, is_list_question, for_list, for_question}
use Rattle.sheet.specs.Kind.{is_numeric, is_string, is_list}
use Rattle.coercion.specs.Same.{same_type, equal, alike}
use Rattle.coercion.specs.Strings.{string_coercion, binary_coercion}
use Rattle.coercion.specs.Times.{temporal_coercion, temporal_coercion_nonstrict_timezone}
use Rattle.coercion.specs.Numbers.{binary_numeric_coercion}
use Rattle.coercion.specs.Rules.{null_coercion, string_numeric_coercion, string_numeric_union_coercion, string_temporal_coercion}
use Rattle.coercion.specs.Wrappers.{is_of, wrapper_coercion}
use Rattle.coercion.specs.Nested.{list_coercion, struct_coercion, map_coercion}
use Rattle.coercion.specs.Answers.{of_kind_type, string_number, list_struct, list_rules, resolution_coercion, pair_rules, ask}
use Rattle.coercion.proofs.Ranked.{kind_from}
use Rattle.plain.proofs.Moments.{above}
use Rattle.coercion.proofs.Words.{or_none}
use Rattle.coercion.specs.declared.Question.{Question}
use Rattle.coercion.specs.declared.Rules.{Rules}
use Rattle.plain.specs.Plain.{string_time, plain_rules}
use Rattle.wrappers.proofs.Unwrapping.{wrapper_none}
use Rattle.rule_order.specs.Order.{struct_rule, map_rule, nested_of, either_wrapped, resolved, unwrapped, turns_for, turns_of}

-- answers with others between them that are none
data Among : List (Option DataType) → List (Option DataType) → Type 0 where
  done : Among [] []
  keep : {o : Option DataType} {os ps : List (Option DataType)} → Among os ps → Among (o ∷ os) (o ∷ ps)
  skip : {p : Option DataType} {os ps : List (Option DataType)} → p ≡ None → Among os ps → Among os (p ∷ ps)

first_among : {os ps : List (Option DataType)} → Among os ps → first_of ps ≡ first_of os
unfolding first_of
first_among done = refl
first_among (keep {o} a) = ap (or_else o) (first_among a)
first_among (skip e a) = rw e (first_among a)

-- one answer alone
only : {o : Option DataType} {ps : List (Option DataType)} → Among (o ∷ []) ps → first_of ps ≡ o
unfolding first_of
only {o} a = first_among a ∙ or_none o

-- an answer after two others, where it is none or they are
later : {n d e : Option DataType} (o : Option DataType) → (n ≡ None) ⊎ ((d ≡ None) × (e ≡ None))
    → or_else n (or_else d (or_else e o)) ≡ or_else d (or_else e (or_else n o))
later o (inl h) = rw h
later o (inr h) = rw (h.0, h.1)

-- the rules for types without parts, none of which knows two types that have some
record Quiet (l r : DataType) : Type 0 where
  numeric : as_type (binary_numeric_coercion (figures_of l) (figures_of r)) ≡ None
  temporal : temporal_coercion_nonstrict_timezone l r ≡ None
  string : of_kind_type (string_coercion l.shape.kind r.shape.kind) ≡ None
  null : (mask : ℕ) → null_coercion mask l r ≡ None
  number : (q : Question) → string_number q l r ≡ None
  time : string_temporal_coercion l r ≡ None
  binary : of_kind_type (binary_coercion l.shape.kind r.shape.kind) ≡ None

quiet : (l r : DataType) → 32 ≤ l.shape.kind → 32 ≤ r.shape.kind → Quiet l r
unfolding binary_numeric_coercion temporal_coercion_nonstrict_timezone temporal_coercion string_coercion null_coercion string_numeric_coercion string_numeric_union_coercion
    string_temporal_coercion binary_coercion
quiet l r h g =
    let k = l.shape.kind in
    let j = r.shape.kind in
    let other : (i n : ℕ) → n < 32 → 32 ≤ i → eqb i n ≡ false = λ i n p q. ne_eqb i n (λ e. omega arith) in
    let number = above 3 17 k (omega arith) in
    let string = above 25 27 k (omega arith) in
    let string' = above 25 27 j (omega arith) in
    record {
      numeric = rw number;
      temporal =
          simp
          (other k 22 (omega arith) h, other k 18 (omega arith) h, other k 19 (omega arith) h, above 23 24 k (omega arith), above 3 10 k (omega arith), above 20 21 k (omega arith), above 18 19 k (omega arith));
      string = rw string;
      null = λ mask. rw (other k 1 (omega arith) h, other j 1 (omega arith) g);
      number = asked number string;
      time = rw (string, string');
      binary =
          simp
          (other k 25 (omega arith) h, other k 26 (omega arith) h, other k 27 (omega arith) h, other k 28 (omega arith) h, other k 29 (omega arith) h, other k 30 (omega arith) h, other k 31 (omega arith) h, string);
    }
  where
    asked : is_numeric l.shape.kind ≡ false → is_string l.shape.kind ≡ false → (q : Question) → string_number q l r ≡ None
    asked n s Question.List = rw (n, s)
    asked n s Question.Union = rw (s, n)
    asked n s Question.Compare = rw (n, s)

-- two types that have parts of one sort
abbrev both_lists : DataType → DataType → Bool
both_lists l r = is_list l.shape.kind && is_list r.shape.kind

abbrev both : ℕ → DataType → DataType → Bool
both k l r = is_of k l && is_of k r

data Sort (l r : DataType) : Type 0 where
  lists : both_lists l r ≡ true → both Kind.STRUCT l r ≡ false → both Kind.MAP l r ≡ false → Quiet l r → Sort l r
  structs : both_lists l r ≡ false → both Kind.STRUCT l r ≡ true → both Kind.MAP l r ≡ false → Quiet l r → Sort l r
  maps : both_lists l r ≡ false → both Kind.STRUCT l r ≡ false → both Kind.MAP l r ≡ true → Quiet l r → Sort l r
  others : both_lists l r ≡ false → both Kind.STRUCT l r ≡ false → both Kind.MAP l r ≡ false → Sort l r

sort : (l r : DataType) → Sort l r
sort l r = go (both_lists l r) refl (both Kind.STRUCT l r) refl (both Kind.MAP l r) refl
  where
    go : (a : Bool) → both_lists l r ≡ a → (b : Bool) → both Kind.STRUCT l r ≡ b → (m : Bool) → both Kind.MAP l r ≡ m → Sort l r
    go true x b y m z =
        let p = kind_from 32 34 l.shape.kind (and_fst _ _ x) in
        let q = kind_from 32 34 r.shape.kind (and_snd (is_list l.shape.kind) (is_list r.shape.kind) x) in
        lists x (rw (ne_eqb l.shape.kind 35 (λ e. omega arith))) (rw (ne_eqb l.shape.kind 36 (λ e. omega arith))) (quiet l r (omega arith) (omega arith))
    go false x true y m z =
        let p = eqb-true l.shape.kind 35 (and_fst _ _ y) in
        let q = eqb-true r.shape.kind 35 (and_snd (is_of 35 l) (is_of 35 r) y) in
        structs x y (rw (ne_eqb l.shape.kind 36 (λ e. omega arith))) (quiet l r (omega arith) (omega arith))
    go false x false y true z =
        let p = eqb-true l.shape.kind 36 (and_fst _ _ z) in
        let q = eqb-true r.shape.kind 36 (and_snd (is_of 36 l) (is_of 36 r) z) in
        maps x y z (quiet l r (omega arith) (omega arith))
    go false x false y false z = others x y z

-- the rules of a union or a comparison for types that are no wrappers
abbrev bare_rules : Question → Rules → (DataType → DataType → Option DataType) → DataType → DataType → List (Option DataType)
bare_rules q rules c l r =
    as_type (binary_numeric_coercion (figures_of l) (figures_of r))
    ∷ temporal_coercion_nonstrict_timezone l r
    ∷ of_kind_type (string_coercion l.shape.kind r.shape.kind)
    ∷ list_coercion c l r
    ∷ null_coercion rules.mask l r
    ∷ string_number q l r
    ∷ string_temporal_coercion l r
    ∷ of_kind_type (binary_coercion l.shape.kind r.shape.kind)
    ∷ struct_coercion c l r
    ∷ map_coercion c l r
    ∷ []

module _ (c : DataType → DataType → Option DataType) (l r : DataType) where
  list_none : both_lists l r ≡ false → list_coercion c l r ≡ None
  unfolding list_coercion
  list_none h = rw h

  struct_none : both Kind.STRUCT l r ≡ false → struct_coercion c l r ≡ None
  unfolding struct_coercion
  struct_none h = go (is_of Kind.STRUCT l) (is_of Kind.STRUCT r) (eqb (arity l.parts) (arity r.parts)) _ h
    where
      go : (a b e : Bool) (o : Option DataType) → a && b ≡ false → cond (a && (b && e)) o None ≡ None
      go true true e o h = never (sym h)
      go true false e o h = refl
      go false b e o h = refl

  map_none : both Kind.MAP l r ≡ false → map_coercion c l r ≡ None
  unfolding map_coercion
  map_none h = rw h

  -- a list's types that are no wrappers
  list_nested : (rules : Rules)
      → cond (both Kind.STRUCT l r) (list_struct c l r) (first_of (list_rules (for_list rules) c l r)) ≡ nested_of (for_list rules) c l r
  unfolding nested_of plain_rules
  list_nested rules = go (sort l r)
    where
      rest : Quiet l r
          → Among []
          (temporal_coercion_nonstrict_timezone l r
          ∷ of_kind_type (string_coercion l.shape.kind r.shape.kind)
          ∷ null_coercion rules.mask l r
          ∷ string_number Question.List l r
          ∷ of_kind_type (binary_coercion l.shape.kind r.shape.kind)
          ∷ [])
      rest n = skip n.temporal (skip n.string (skip (n.null rules.mask) (skip (n.number Question.List) (skip n.binary done))))

      go : Sort l r → cond (both Kind.STRUCT l r) (list_struct c l r) (first_of (list_rules (for_list rules) c l r)) ≡ nested_of (for_list rules) c l r
      go (lists x y z n) = rw (x, y) (only (skip n.numeric (keep (skip (map_none z) (rest n)))))
      go (structs x y z n) = rw (x, y)
      go (maps x y z n) = rw (x, y, z) (only (skip n.numeric (skip (list_none x) (keep (rest n)))))
      go (others x y z) =
          rw (x, y, z)
          (first_among (keep (skip (list_none x) (skip (map_none z) (keep (keep (keep (keep (keep done))))))))
          ∙ sym (first_among (keep (keep (keep (keep (keep (skip refl (keep done)))))))))

  -- the other questions' types that are no wrappers
  pair_nested : (q : Question) (rules : Rules) → string_time q l r ≡ string_temporal_coercion l r → struct_rule q c l r ≡ struct_coercion c l r
      → first_of (bare_rules q rules c l r) ≡ nested_of (for_question q rules) c l r
  unfolding nested_of plain_rules
  pair_nested q rules t s = go (sort l r)
    where
      front : {os ps : List (Option DataType)} → Quiet l r → Among os ps
          → Among os
          (as_type (binary_numeric_coercion (figures_of l) (figures_of r))
          ∷ temporal_coercion_nonstrict_timezone l r
          ∷ of_kind_type (string_coercion l.shape.kind r.shape.kind)
          ∷ ps)
      front n a = skip n.numeric (skip n.temporal (skip n.string a))

      middle : {os ps : List (Option DataType)} → Quiet l r → Among os ps
          → Among os
          (null_coercion rules.mask l r
          ∷ string_number q l r
          ∷ string_temporal_coercion l r
          ∷ of_kind_type (binary_coercion l.shape.kind r.shape.kind)
          ∷ ps)
      middle n a = skip (n.null rules.mask) (skip (n.number q) (skip n.time (skip n.binary a)))

      go : Sort l r → first_of (bare_rules q rules c l r) ≡ nested_of (for_question q rules) c l r
      go (lists x y z n) = rw x (only (front n (keep (middle n (skip (struct_none y) (skip (map_none z) done))))))
      go (structs x y z n) = rw (x, y) (only (front n (skip (list_none x) (middle n (keep (skip (map_none z) done))))) ∙ sym s)
      go (maps x y z n) = rw (x, y, z) (only (front n (skip (list_none x) (middle n (skip (struct_none y) (keep done))))))
      go (others x y z) =
          rw (x, y, z, t)
          (first_among
          (keep (keep (keep (skip (list_none x) (keep (keep (keep (keep (skip (struct_none y) (skip (map_none z) done)))))))))))

  -- a number is no wrapper
  numbers_bare : is_numeric l.shape.kind && is_numeric r.shape.kind ≡ true → (k : ℕ) → 17 < k → wrapper_coercion k c l r ≡ None
  numbers_bare h k b =
      let p = kind_from 3 17 l.shape.kind (and_fst _ _ h) in
      let q = kind_from 3 17 r.shape.kind (and_snd (is_numeric l.shape.kind) (is_numeric r.shape.kind) h) in
      wrapper_none k c l r (ne_eqb l.shape.kind k (λ e. omega arith)) (ne_eqb r.shape.kind k (λ e. omega arith))

  -- either the rule for numbers is none, or those for wrappers are
  numbers_apart : (as_type (binary_numeric_coercion (figures_of l) (figures_of r)) ≡ None) ⊎ ((wrapper_coercion 37 c l r ≡ None) × (wrapper_coercion 38 c l r ≡ None))
  unfolding binary_numeric_coercion
  numbers_apart = go (is_numeric l.shape.kind && is_numeric r.shape.kind) refl
    where
      go : (b : Bool) → is_numeric l.shape.kind && is_numeric r.shape.kind ≡ b
          → (as_type (binary_numeric_coercion (figures_of l) (figures_of r)) ≡ None) ⊎ ((wrapper_coercion 37 c l r ≡ None) × (wrapper_coercion 38 c l r ≡ None))
      go true h = inr (numbers_bare h 37 (omega arith), numbers_bare h 38 (omega arith))
      go false h = inl (rw h)

  pair_turns : (q : Question) (rules : Rules) → string_time q l r ≡ string_temporal_coercion l r → struct_rule q c l r ≡ struct_coercion c l r
      → first_of (pair_rules (for_question q rules) c l r) ≡ cond (alike l r) (Some l) (unwrapped (for_question q rules) c l r)
  unfolding first_of unwrapped
  pair_turns q rules t s =
      ap (or_else (cond (alike l r) (Some l) None))
      (later _ numbers_apart ∙ ap (λ o. or_else (wrapper_coercion 37 c l r) (or_else (wrapper_coercion 38 c l r) o)) (pair_nested q rules t s))
      ∙ go (alike l r) (unwrapped (for_question q rules) c l r)
    where
      go : (b : Bool) (o : Option DataType) → or_else (cond b (Some l) None) o ≡ cond b (Some l) o
      go true o = refl
      go false o = refl

  list_turns : (rules : Rules) → resolution_coercion (for_list rules) c l r ≡ cond (equal l r) (Some l) (resolved (for_list rules) c l r)
  unfolding resolved either_wrapped
  list_turns rules =
      ap (cond (equal l r) (Some l))
      (either (is_of 37 l) (is_of 37 r) _ _ _ _
      ∙ ap (cond (is_of 37 l || is_of 37 r) _) (either (is_of 38 l) (is_of 38 r) _ _ _ _ ∙ ap (cond (is_of 38 l || is_of 38 r) _) (list_nested rules)))
    where
      either : (a b : Bool) (x y z w : Option DataType)
          → cond (a && b) x (cond a y (cond b z w)) ≡ cond (a || b) (cond a (cond b x y) (cond b z None)) w
      either true true x y z w = refl
      either true false x y z w = refl
      either false true x y z w = refl
      either false false x y z w = refl

  turns_for_lem : (q : Question) (rules : Rules)
      → ask q (for_question q rules) c l r ≡ cond (same_type (is_list_question q) l r) (Some l) (turns_for q (for_question q rules) c l r)
  turns_for_lem Question.List rules = list_turns rules
  turns_for_lem Question.Union rules = pair_turns Question.Union rules refl refl
  turns_for_lem Question.Compare rules = pair_turns Question.Compare rules refl refl

-- what a question asks, in the merge's order
pub ask_turns : (rules : Rules) (c : DataType → DataType → Option DataType) (l r : DataType)
    → ask rules.question rules c l r ≡ cond (same_type (is_list_question rules.question) l r) (Some l) (turns_of rules c l r)
ask_turns rules c l r = turns_for_lem c l r rules.question rules

-- two types that are no wrappers
module _ (rules : Rules) (c : DataType → DataType → Option DataType) (l r : DataType) (h : l.shape.kind < 37) (g : r.shape.kind < 37) where
  other : (n : ℕ) → 37 ≤ n → (t : DataType) → t.shape.kind < 37 → is_of n t ≡ false
  other n p t q = ne_eqb t.shape.kind n (λ e. omega arith)

  bare_resolved : nested_of rules c l r ≡ resolved rules c l r
  unfolding resolved
  bare_resolved = rw (other 37 (omega arith) l h, other 37 (omega arith) r g, other 38 (omega arith) l h, other 38 (omega arith) r g)

  bare_unwrapped : nested_of rules c l r ≡ unwrapped rules c l r
  unfolding unwrapped wrapper_coercion
  bare_unwrapped = rw (other 37 (omega arith) l h, other 37 (omega arith) r g, other 38 (omega arith) l h, other 38 (omega arith) r g)

  bare_for : (q : Question) → nested_of rules c l r ≡ turns_for q rules c l r
  bare_for Question.List = bare_resolved
  bare_for Question.Union = bare_unwrapped
  bare_for Question.Compare = bare_unwrapped

  pub bare_turns : nested_of rules c l r ≡ turns_of rules c l r
  bare_turns = bare_for rules.question

-- two types without parts, of which the other rules know nothing
module _ (rules : Rules) (c : DataType → DataType → Option DataType) (l r : DataType) (h : l.shape.kind < 32) (g : r.shape.kind < 32) where
  plain_nested : plain_rules rules l r ≡ nested_of rules c l r
  unfolding nested_of between
  plain_nested = rw (lt-leb 32 l.shape.kind h, ne_eqb l.shape.kind 35 (λ e. omega arith), ne_eqb l.shape.kind 36 (λ e. omega arith))

  pub plain_turns : plain_rules rules l r ≡ turns_of rules c l r
  plain_turns = plain_nested ∙ bare_turns rules c l r (omega arith) (omega arith)

-- two maps, by their entries
pub map_turns : (c : DataType → DataType → Option DataType) (l r : DataType) → (is_of Kind.MAP l && is_of Kind.MAP r) ≡ true → map_rule c l r ≡ map_coercion c l r
unfolding map_coercion
map_turns c l r e = rw e refl
