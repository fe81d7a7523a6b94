-- The common type of two types does not hang on the bound on the depth. Assumes nothing.
use mathlib.Core.Path.{◌≡◌, refl, ap, sym, ◌∙◌}
use mathlib.Core.Bool.{cond, ◌&&◌, ◌||◌}
use mathlib.Core.List.{List, [], ◌∷◌}
use Rattle.std.specs.Prelude.{Option, None, Some}
use Prim.Native.Nat.{ℕ, zero, suc, ◌+◌, ◌<◌, ◌≤◌}
use native.Mathlib.Omega.{arith}
use lib.Dec.{eqb}
use Rattle.sheet.specs.declared.kind.TheConstants as Kind
use Rattle.sheet.specs.Types.{Fields, end, field, arity, count}
use Rattle.sheet.specs.Names.{same_bytes}
use Rattle.coercion.specs.Data.{DataType, size, and_then, first_of, figures_of, as_type}
use Rattle.sheet.specs.Kind.{is_list}
use Rattle.coercion.specs.Same.{equal, alike}
use Rattle.coercion.specs.Strings.{string_coercion, binary_coercion}
use Rattle.coercion.specs.Times.{temporal_coercion_nonstrict_timezone}
use Rattle.coercion.specs.Numbers.{binary_numeric_coercion}
use Rattle.coercion.specs.Rules.{null_coercion, string_numeric_coercion, string_temporal_coercion}
use Rattle.coercion.specs.Wrappers.{value_in, is_of, wrapper_coercion}
use Rattle.coercion.specs.Nested.{before, join_fields, fields_have_same_names, with_name, by_name, partners, struct_of, struct_coercion, list_shape, list_of, list_coercion, entry_type, entry_of, map_shape, map_coercion}
use Rattle.coercion.specs.Answers.{of_kind_type, string_number, pair_rules, keep_dictionary, both_parts, run_ends_of, wrapped, list_struct, resolution_coercion, ask, coerce_in, coercion}
use Rattle.coercion.proofs.Maybe.{If, then_same, if_then, if_cond}
use Rattle.coercion.specs.declared.Question.{Question}
use Rattle.coercion.specs.declared.Rules.{Rules}

-- each field of a chain has at most m records
abbrev pub Within : ℕ → Fields → Type 0
Within m end = Unit
Within m (field name nullable shape parts rest) = (1 + count parts ≤ m) × Within m rest

pub within_more : (m k : ℕ) (f : Fields) → m ≤ k → Within m f → Within k f
within_more m k end le h = tt
within_more m k (field name nullable shape parts rest) le h = (omega arith, within_more m k rest le h.1)

pub within_own : (f : Fields) → Within (count f) f
unfolding count
within_own end = tt
within_own (field name nullable shape parts rest) = (omega arith, within_more (count rest) _ rest (omega arith) (within_own rest))

pub within_named : (m : ℕ) (name : List ℕ) (r rest : Fields) → Within m r → Within m rest → If (Within m) (with_name name r rest)
unfolding with_name
within_named m name end rest h k = tt
within_named m name (field name' nullable shape parts more) rest h k =
    if_cond (Within m) (same_bytes name name') (Some (field name' nullable shape parts rest)) (with_name name more rest)
    (λ e. (h.0, k)) (λ e. within_named m name more rest h.1 k)

pub within_by_name : (m : ℕ) (l r : Fields) → Within m r → If (Within m) (by_name l r)
unfolding by_name
within_by_name m end r h = tt
within_by_name m (field name nullable shape parts rest) r h =
    if_then (Within m) (Within m) (by_name rest r) (λ more. with_name name r more) (within_by_name m rest r h) (λ more k. within_named m name r more h k)

pub within_partners : (m : ℕ) (l r : Fields) → Within m r → If (Within m) (partners l r)
unfolding partners
within_partners m l r h =
    if_cond (Within m) (fields_have_same_names l r) (by_name l r) (Some r) (λ e. within_by_name m l r h) (λ e. h)

-- the value of a wrapper, and the entry of a map, are smaller
pub value_small : (f : Fields) → If (λ t. size t ≤ count f) (value_in f)
unfolding count
value_small end = tt
value_small (field n b s p end) = tt
value_small (field n b s p (field n₂ b₂ s₂ p₂ q)) = omega arith

pub entry_small : (f : Fields) → If (λ t. size t ≤ count f) (entry_type f)
unfolding count
entry_small end = tt
entry_small (field n b s p q) = omega arith

-- two functions agree on all pairs of types that have fewer than n records
pub record Agree (n : ℕ) (c d : DataType → DataType → Option DataType) : Type 0 where
  pub at : (x y : DataType) → size x + size y < n → c x y ≡ d x y

-- what a rule asks of parts, it asks of fewer records than its two types have
module _ (n : ℕ) (c d : DataType → DataType → Option DataType) (agree : Agree n c d) where
  join_same : (m : ℕ) (l f s : Fields) → count l + m < n → Within m f → join_fields c l f s ≡ join_fields d l f s
  unfolding join_fields count
  join_same m end end end h w = refl
  join_same m end end (field n₃ b₃ s₃ p₃ q₃) h w = refl
  join_same m end (field n₂ b₂ s₂ p₂ q₂) end h w = refl
  join_same m end (field n₂ b₂ s₂ p₂ q₂) (field n₃ b₃ s₃ p₃ q₃) h w = refl
  join_same m (field n₁ b₁ s₁ p₁ q₁) end end h w = refl
  join_same m (field n₁ b₁ s₁ p₁ q₁) end (field n₃ b₃ s₃ p₃ q₃) h w = refl
  join_same m (field n₁ b₁ s₁ p₁ q₁) (field n₂ b₂ s₂ p₂ q₂) end h w = refl
  join_same m (field n₁ b₁ s₁ p₁ q₁) (field n₂ b₂ s₂ p₂ q₂) (field n₃ b₃ s₃ p₃ q₃) h w =
      let e = agree.at (record { shape = s₁; parts = p₁ }) (record { shape = s₂; parts = p₂ }) (omega arith) in
      let e' = join_same m q₁ q₂ q₃ (omega arith) w.1 in
      λ i. and_then (e i) (λ t. and_then (e' i) (λ fields. Some (before n₁ (b₁ || b₃) t fields)))

  module _ (l r : DataType) (le : size l + size r ≤ n) where
    wrapper_same : (k : ℕ) → wrapper_coercion k c l r ≡ wrapper_coercion k d l r
    unfolding wrapper_coercion
    wrapper_same k =
        let p = then_same _ (value_in l.parts) _ _ (value_small l.parts)
        (λ v h. then_same _ (value_in r.parts) _ _ (value_small r.parts) (λ w g. agree.at v w (omega arith))) in
        let q = then_same _ (value_in l.parts) _ _ (value_small l.parts) (λ v h. ap (λ t. cond (equal v r) (Some l) t) (agree.at v r (omega arith))) in
        let s = then_same _ (value_in r.parts) _ _ (value_small r.parts) (λ w h. ap (λ t. cond (equal w l) (Some r) t) (agree.at l w (omega arith))) in
        λ i. cond (is_of k l && is_of k r) (p i) (cond (is_of k l) (q i) (cond (is_of k r) (s i) None))

    struct_same : struct_coercion c l r ≡ struct_coercion d l r
    unfolding struct_coercion
    struct_same =
        ap (λ t. cond (is_of Kind.STRUCT l && (is_of Kind.STRUCT r && eqb (arity l.parts) (arity r.parts))) (struct_of t) None)
        (then_same (Within (count r.parts)) (partners l.parts r.parts) (λ f. join_fields c l.parts f f) (λ f. join_fields d l.parts f f)
        (within_partners _ l.parts r.parts (within_own r.parts)) (λ f w. join_same (count r.parts) l.parts f f (omega arith) w))

    list_same : list_coercion c l r ≡ list_coercion d l r
    unfolding list_coercion
    list_same =
        ap (λ t. cond (is_list l.shape.kind && is_list r.shape.kind) (list_of (list_shape l.shape r.shape) t) None)
        (join_same (count r.parts) l.parts r.parts r.parts (omega arith) (within_own r.parts))

    both_same : (p q : Fields) → count p ≤ count l.parts → count q ≤ count r.parts → both_parts c l p q ≡ both_parts d l p q
    unfolding count
    both_same end q h k = refl
    both_same (field n₁ b₁ s₁ p₁ end) q h k = refl
    both_same (field n₁ b₁ s₁ p₁ (field n₂ b₂ s₂ p₂ q₁)) end h k = refl
    both_same (field n₁ b₁ s₁ p₁ (field n₂ b₂ s₂ p₂ q₁)) (field m₁ c₁ t₁ u₁ end) h k = refl
    both_same (field n₁ b₁ s₁ p₁ (field n₂ b₂ s₂ p₂ q₁)) (field m₁ c₁ t₁ u₁ (field m₂ c₂ t₂ u₂ v₁)) h k =
        let e = agree.at (record { shape = s₁; parts = p₁ }) (record { shape = t₁; parts = u₁ }) (omega arith) in
        let e' = agree.at (record { shape = s₂; parts = p₂ }) (record { shape = t₂; parts = u₂ }) (omega arith) in
        λ i. and_then (e i) (λ x. and_then (e' i) (λ y. Some (record { shape = l.shape; parts = before n₁ b₁ x (before n₂ b₂ y end) })))

    list_struct_same : list_struct c l r ≡ list_struct d l r
    list_struct_same =
        ap (λ t. cond (eqb (arity l.parts) (arity r.parts)) (struct_of t) None)
        (then_same (Within (count r.parts)) (by_name l.parts r.parts) (λ f. join_fields c l.parts f r.parts) (λ f. join_fields d l.parts f r.parts)
        (within_by_name _ l.parts r.parts (within_own r.parts)) (λ f w. join_same (count r.parts) l.parts f r.parts (omega arith) w))

  -- the wrapped value on the left, whichever side it was on
  wrapped_same : (l r : DataType) (make : DataType → DataType → Option DataType) → size l + size r ≤ n → wrapped c l r make ≡ wrapped d l r make
  wrapped_same l r make le =
      then_same _ (value_in l.parts) _ _ (value_small l.parts) (λ v h. ap (λ o. and_then o (λ t. make l t)) (agree.at v r (omega arith)))

  map_same : (l r : DataType) → size l + size r ≤ n → map_coercion c l r ≡ map_coercion d l r
  unfolding map_coercion
  map_same l r le =
      ap (λ t. cond (is_of Kind.MAP l && is_of Kind.MAP r) t None)
      (then_same _ (entry_type l.parts) _ _ (entry_small l.parts)
      (λ a h. then_same _ (entry_type r.parts) _ _ (entry_small r.parts)
      (λ b g. ap (λ o. and_then o (λ t. Some (record { shape = map_shape (l.shape.sorted && r.shape.sorted); parts = entry_of l.parts t }))) (struct_same a b (omega arith)))))

-- so do the questions
module _ (rules : Rules) (l r : DataType) (c d : DataType → DataType → Option DataType) (agree : Agree (size l + size r) c d) where
  pair_same : first_of (pair_rules rules c l r) ≡ first_of (pair_rules rules d l r)
  pair_same =
      let n = size l + size r in
      let dict = wrapper_same n c d agree l r (omega arith) Kind.DICTIONARY in
      let ree = wrapper_same n c d agree l r (omega arith) Kind.RUN_END_ENCODED in
      let lists = list_same n c d agree l r (omega arith) in
      let structs = struct_same n c d agree l r (omega arith) in
      let maps = map_same n c d agree l r (omega arith) in
      λ i. first_of
      (cond (alike l r) (Some l) None
      ∷ as_type (binary_numeric_coercion (figures_of l) (figures_of r))
      ∷ dict i
      ∷ ree i
      ∷ temporal_coercion_nonstrict_timezone l r
      ∷ of_kind_type (string_coercion l.shape.kind r.shape.kind)
      ∷ lists i
      ∷ null_coercion rules.mask l r
      ∷ string_number rules.question l r
      ∷ string_temporal_coercion l r
      ∷ of_kind_type (binary_coercion l.shape.kind r.shape.kind)
      ∷ structs i
      ∷ maps i
      ∷ [])

  resolution_same : resolution_coercion rules c l r ≡ resolution_coercion rules d l r
  resolution_same =
      let n = size l + size r in
      let both = both_same n c d agree l r (omega arith) l.parts r.parts (omega arith) (omega arith) in
      let keep = wrapped_same n c d agree l r keep_dictionary (omega arith) in
      let keep' = wrapped_same n c d agree r l keep_dictionary (omega arith) in
      let ends = wrapped_same n c d agree l r (λ w t. run_ends_of w w.parts t) (omega arith) in
      let ends' = wrapped_same n c d agree r l (λ w t. run_ends_of w w.parts t) (omega arith) in
      let structs = list_struct_same n c d agree l r (omega arith) in
      let lists = list_same n c d agree l r (omega arith) in
      let maps = map_same n c d agree l r (omega arith) in
      λ i. cond (equal l r) (Some l)
      (cond (is_of Kind.DICTIONARY l && is_of Kind.DICTIONARY r) (both i)
      (cond (is_of Kind.DICTIONARY l) (keep i)
      (cond (is_of Kind.DICTIONARY r) (keep' i)
      (cond (is_of Kind.RUN_END_ENCODED l && is_of Kind.RUN_END_ENCODED r) (both i)
      (cond (is_of Kind.RUN_END_ENCODED l) (ends i)
      (cond (is_of Kind.RUN_END_ENCODED r) (ends' i)
      (cond (is_of Kind.STRUCT l && is_of Kind.STRUCT r) (structs i)
      (first_of
      (as_type (binary_numeric_coercion (figures_of l) (figures_of r))
      ∷ lists i
      ∷ maps i
      ∷ temporal_coercion_nonstrict_timezone l r
      ∷ of_kind_type (string_coercion l.shape.kind r.shape.kind)
      ∷ null_coercion rules.mask l r
      ∷ string_numeric_coercion l r
      ∷ of_kind_type (binary_coercion l.shape.kind r.shape.kind)
      ∷ [])))))))))

  pub ask_same : (q : Question) → ask q rules c l r ≡ ask q rules d l r
  ask_same Question.List = resolution_same
  ask_same Question.Union = pair_same
  ask_same Question.Compare = pair_same

-- the answer is one for every bound that both types' records fit
pub more : (rules : Rules) (f g : ℕ) (l r : DataType) → size l + size r ≤ f → size l + size r ≤ g → coerce_in f rules l r ≡ coerce_in g rules l r
unfolding coerce_in
more rules zero g l r h k = absurd (omega arith)
more rules (suc f) zero l r h k = absurd (omega arith)
more rules (suc f) (suc g) l r h k =
    ask_same rules l r (coerce_in f rules) (coerce_in g rules) (record { at = λ x y lt. more rules f g x y (omega arith) (omega arith) }) rules.question

pub coercion_in : (rules : Rules) (f : ℕ) (l r : DataType) → size l + size r ≤ f → coerce_in f rules l r ≡ coercion rules l r
unfolding coercion
coercion_in rules f l r h = more rules f (size l + size r) l r h (omega arith)

-- what a question asks of parts is the question itself
pub coercion_asks : (rules : Rules) (l r : DataType) → coercion rules l r ≡ ask rules.question rules (coercion rules) l r
unfolding coerce_in
coercion_asks rules l r =
    let f = count l.parts + (1 + count r.parts) in
    sym (coercion_in rules (suc f) l r (omega arith))
    ∙ ask_same rules l r (coerce_in f rules) (coercion rules) (record { at = λ x y lt. coercion_in rules f x y (omega arith) }) rules.question
