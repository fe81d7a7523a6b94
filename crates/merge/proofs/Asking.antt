-- The common type of two types: the test for sameness, and then the rules of the question. Assumes nothing.
use mathlib.Core.Path.{◌≡◌, refl, ap, ap₂, sym, subst, ◌∙◌}
use mathlib.Core.Bool.{Bool, true, false, cond, not, ◌&&◌, ◌||◌}
use mathlib.Core.List.{List}
use Rattle.std.specs.Prelude.{Option, None, Some}
use Rattle.std.proofs.lemmas.Option.{same_Some}
use Prim.Native.Nat.{ℕ, ◌+◌, ◌-◌, ◌<◌}
use native.Mathlib.Omega.{arith}
use lib.Dec.{eqb, ltb}
use borrow.Author.Tests.{eqb-true, ltb-true, eq-eqb, ne_eqb}
use Rattle.sheet.specs.Head.{head_at}
use Rattle.sheet.proofs.Booleans.{never, and_fst, and_snd}
use Rattle.coercion.specs.Data.{DataType, is_list_question}
use Rattle.coercion.specs.Same.{same_type}
use Rattle.coercion.specs.Answers.{coercion}
use Rattle.coercion.proofs.Fuel.{coercion_asks}
use Rattle.coercion.specs.declared.Question.{Question}
use Rattle.coercion.specs.declared.Rules.{Rules}
use Rattle.buffers.specs.Differ.{type_differs, DifferTypes}
use Rattle.buffers.specs.Writes.{side}
use Rattle.buffers.specs.Target.{CopiedType}
use Rattle.buffers.specs.Typed.{Typed, Merges}
use Rattle.plain.specs.Plain.{plain_rules}
use Rattle.rule_order.specs.Order.{nested_of, resolved, unwrapped, either_wrapped, rewrapped, turns_for, turns_of}
use Rattle.merge.specs.Descent.{passes}
use Rattle.merge.specs.Known.{Differs, FirstDifference}
use Rattle.merge.specs.Merge.{MergesKnown, MergesHinted}
use Rattle.buffers.specs.declared.Space.{Space}
use Rattle.buffers.specs.declared.Target.{Target}
use Rattle.buffers.specs.Written.{Written}
use Rattle.rule_order.proofs.Orders.{ask_turns, bare_turns, plain_turns}
use Rattle.merge.proofs.Merging.{chain_some, nothing_known, typed_differs, none_known, hinted_within, known_as, as_known, merges_left}
use Rattle.buffers.proofs.Sameness.{shapes_unlike}
use Rattle.buffers.proofs.Differing.{type_same}
use Rattle.wrappers.proofs.Values.{kind_of_lem}

-- the rules of a question that looks at names, and of one that does not
list_turns : (q : Question) (rules : Rules) (c : DataType → DataType → Option DataType) (x y : DataType) → is_list_question q ≡ true → resolved rules c x y ≡ turns_for q rules c x y
list_turns Question.List rules c x y h = refl
list_turns Question.Union rules c x y h = never h
list_turns Question.Compare rules c x y h = never h

pair_turns : (q : Question) (rules : Rules) (c : DataType → DataType → Option DataType) (x y : DataType) → is_list_question q ≡ false → unwrapped rules c x y ≡ turns_for q rules c x y
pair_turns Question.List rules c x y h = never (sym h)
pair_turns Question.Union rules c x y h = refl
pair_turns Question.Compare rules c x y h = refl

types_unlike : (named : Bool) (x y : DataType) → ¬ (x.shape.kind ≡ y.shape.kind) → same_type named x y ≡ false
unfolding same_type
types_unlike named x y ne = rw (shapes_unlike x.shape y.shape ne) refl

-- the two kinds, and what they meet
data Passed (k j : ℕ) : Type 0 where
  dictionary : k ≡ 37 → ¬ (j ≡ 37) → Passed k j
  run_ends : k ≡ 38 → j < 37 → Passed k j

passed : (k j : ℕ) → passes k j ≡ true → Passed k j
passed k j h = go (eqb k 37) refl (eqb j 37) refl (eqb k 38) refl (ltb j 37) refl h
  where
    go : (a : Bool) → eqb k 37 ≡ a → (b : Bool) → eqb j 37 ≡ b → (c : Bool) → eqb k 38 ≡ c → (d : Bool) → ltb j 37 ≡ d → (a && not b) || (c && d) ≡ true → Passed k j
    go true p true q true r true t h = run_ends (eqb-true k 38 r) (ltb-true j 37 t)
    go true p true q true r false t h = never h
    go true p true q false r d t h = never h
    go true p false q c r d t h = dictionary (eqb-true k 37 p) (λ e. never (sym q ∙ eq-eqb j 37 e))
    go false p b q true r true t h = run_ends (eqb-true k 38 r) (ltb-true j 37 t)
    go false p b q true r false t h = never h
    go false p b q false r d t h = never h

-- a wrapper of a list that is passed comes to the rule for one wrapper of its kind
module _ (rules : Rules) (of_list : is_list_question rules.question ≡ true) where
  abbrev list_both : DataType → DataType → Option DataType
  list_both = coercion rules

  listed : (x y : DataType) → ¬ (x.shape.kind ≡ y.shape.kind) → list_both x y ≡ resolved rules list_both x y
  listed x y ne =
      coercion_asks rules x y ∙ ask_turns rules list_both x y ∙ rw (types_unlike (is_list_question rules.question) x y ne)
      (sym (list_turns rules.question rules list_both x y of_list))

  dictionary_rule : (x y : DataType) → x.shape.kind ≡ 37 → ¬ (y.shape.kind ≡ 37) → resolved rules list_both x y ≡ rewrapped 37 list_both x y
  unfolding resolved either_wrapped
  dictionary_rule x y p q = rw (eq-eqb x.shape.kind 37 p) (rw (ne_eqb y.shape.kind 37 q) refl)

  run_ends_rule : (x y : DataType) → x.shape.kind ≡ 38 → y.shape.kind < 37 → resolved rules list_both x y ≡ rewrapped 38 list_both x y
  unfolding resolved either_wrapped
  run_ends_rule x y p q =
      rw (ne_eqb x.shape.kind 37 (λ e. omega arith), ne_eqb y.shape.kind 37 (λ e. omega arith), eq-eqb x.shape.kind 38 p, ne_eqb y.shape.kind 38 (λ e. omega arith)) refl

  by_kind : (x y : DataType) → Passed x.shape.kind y.shape.kind → list_both x y ≡ rewrapped x.shape.kind list_both x y
  by_kind x y (dictionary p q) = listed x y (λ e. q (sym e ∙ p)) ∙ dictionary_rule x y p q ∙ ap (λ (k : ℕ). rewrapped k list_both x y) (sym p)
  by_kind x y (run_ends p q) = listed x y (λ e. omega arith) ∙ run_ends_rule x y p q ∙ ap (λ (k : ℕ). rewrapped k list_both x y) (sym p)

  pub by_rule : (x y : DataType) → passes x.shape.kind y.shape.kind ≡ true → coercion rules x y ≡ rewrapped x.shape.kind (coercion rules) x y
  by_rule x y h = by_kind x y (passed x.shape.kind y.shape.kind h)

-- where two types first differ, by the flag for their names
pub told : {space : Space} {s t : List ℕ} {l r e : ℕ} {known : Option ℕ} {flag names : Bool} → flag ≡ names → FirstDifference known flag space s l t r e
    → (x y : DataType) → Typed space s l x → Typed space t r y → Differs known names l x y → e ≡ type_differs names l x y
told {space} {s} {t} {l} {r} {e} {known} ef f = subst (λ (n : Bool). FirstDifference known n space s l t r e) ef f

-- two types that are not the same, of which something may be known, and what is handed down of them
abbrev Handed : Bool → Space → List ℕ → ℕ → List ℕ → ℕ → Option ℕ → Option ℕ → Type 0
Handed names space s l t r known d =
    (x y : DataType) → Typed space s l x → Typed space t r y → Differs known names l x y → (same_type names x y ≡ false) × Differs d names l x y

pub handed : {space : Space} {s t : List ℕ} {l r : ℕ} (known : Option ℕ) (e : ℕ) {flag : Bool} (names : Bool) → flag ≡ names → FirstDifference known flag space s l t r e → ¬ (e ≡ 0) → Handed names space s l t r known (Some e)
handed {l = l} known e names ef f z x y a b d =
    let i = told ef f x y a b d in
    (sym (type_same names l x y (chain_some a.chain)) ∙ ne_eqb _ 0 (λ q. z (i ∙ q)), λ c p. sym i ∙ same_Some e c p)

module _ (rules : Rules) (space : Space) (left : ℕ) (swap : Bool) (s w : List ℕ) (l r : ℕ) (g : Target) where
  abbrev both : DataType → DataType → Option DataType
  both = coercion rules

  turns : (x y : DataType) → both x y ≡ cond (same_type (is_list_question rules.question) x y) (Some x) (turns_of rules both x y)
  turns x y = coercion_asks rules x y ∙ ask_turns rules both x y

  abbrev names : Bool
  names = is_list_question rules.question

  -- two types that are the same
  pub coerce_same : {known : Option ℕ} {flag : Bool} {e : ℕ} → flag ≡ names → FirstDifference known flag space (side swap s w) l (side (not swap) s w) r e → (v : List ℕ) (o : Written) → e ≡ 0
      → CopiedType space (side swap s w) w v l g o → MergesKnown known names both space left swap s w v l r g o
  coerce_same {known} ef f v o z c =
      as_known both space swap s w v l r g o known left (omega arith)
      (λ x y a b d. sym (turns x y ∙ rw (sym (type_same names l x y (chain_some a.chain)) ∙ eq-eqb _ 0 (sym (told ef f x y a b d) ∙ z)) refl))
      (merges_left (λ x y. Some x) space left swap s w l r g v o (λ x y a b. refl) c)

  -- two types that are not
  module _ {known d : Option ℕ} (apart : Handed names space (side swap s w) l (side (not swap) s w) r known d) where
    differ : (x y : DataType) → Typed space (side swap s w) l x → Typed space (side (not swap) s w) r y → Differs known names l x y → turns_of rules both x y ≡ both x y
    differ x y a b k = sym (turns x y ∙ rw (apart x y a b k).0 refl)

    pub coerce_list : (v : List ℕ) (o : Written) → names ≡ true → ¬ (left ≡ 0)
        → MergesKnown d names (resolved rules both) space (left - 1 + 1) swap s w v l r g o → MergesKnown known names both space left swap s w v l r g o
    coerce_list v o f more m =
        known_as both space swap s w v l r g o known left (omega arith)
        (λ x y a b k. (list_turns rules.question rules both x y f ∙ differ x y a b k, (apart x y a b k).1)) m

    pub coerce_pair : {hint : ℕ} (v : List ℕ) (o : Written) → names ≡ false → ¬ (left ≡ 0)
        → MergesHinted hint rules.mask d names (unwrapped rules both) space (left - 1 + 1) swap s w v l r g o → MergesHinted hint rules.mask known names both space left swap s w v l r g o
    coerce_pair v o f more m =
        hinted_within both space swap s w v l r g o known left (omega arith)
        (λ x y a b q k n. (pair_turns rules.question rules both x y f ∙ differ x y a b k, (apart x y a b k).1)) m

    -- the kinds of both, where both are below a number
    module _ {k j : ℕ} (ek : k ≡ (head_at (side swap s w) l).kind) (ej : j ≡ (head_at (side (not swap) s w) r).kind) (top : ℕ) (h : (ltb k top && ltb j top) ≡ true) where
      left_kind : {x : DataType} → Typed space (side swap s w) l x → x.shape.kind < top
      left_kind a = let p = ltb-true k top (and_fst (ltb k top) (ltb j top) h) in omega (arith, kind_of_lem ek a)

      right_kind : {y : DataType} → Typed space (side (not swap) s w) r y → y.shape.kind < top
      right_kind b = let p = ltb-true j top (and_snd (ltb k top) (ltb j top) h) in omega (arith, kind_of_lem ej b)

    module _ (v : List ℕ) (o : Written) {k j : ℕ} (ek : k ≡ (head_at (side swap s w) l).kind) (ej : j ≡ (head_at (side (not swap) s w) r).kind) where
      pub coerce_plain : (ltb k 32 && ltb j 32) ≡ true → ((i : ℕ) → Merges (plain_rules rules) space i swap s w v l r g o)
          → MergesKnown known names both space left swap s w v l r g o
      coerce_plain h m =
          as_known both space swap s w v l r g o known left (omega arith)
          (λ x y a b d. plain_turns rules both x y (left_kind ek ej 32 h a) (right_kind ek ej 32 h b) ∙ differ x y a b d) (m left)

      -- no wrappers
      pub coerce_bare : (ltb k 37 && ltb j 37) ≡ true → ¬ (left ≡ 0) → MergesKnown d names (nested_of rules both) space (left - 1 + 1) swap s w v l r g o
          → MergesKnown known names both space left swap s w v l r g o
      coerce_bare h more m =
          known_as both space swap s w v l r g o known left (omega arith)
          (λ x y a b d. (bare_turns rules both x y (left_kind ek ej 37 h a) (right_kind ek ej 37 h b) ∙ differ x y a b d, (apart x y a b d).1)) m

  -- types of unlike kinds are not the same; the rule of two without parts
  module _ {k j : ℕ} (ek : k ≡ (head_at (side swap s w) l).kind) (ej : j ≡ (head_at (side (not swap) s w) r).kind) (ne : ¬ (k ≡ j)) where
    unlike : Handed names space (side swap s w) l (side (not swap) s w) r None None
    unlike x y a b d = (types_unlike names x y (λ q. ne (sym (kind_of_lem ek a) ∙ q ∙ kind_of_lem ej b)), nothing_known names _ x y)

    pub coerce_unlike : (v : List ℕ) (o : Written) → (ltb k 32 && ltb j 32) ≡ true → ((i : ℕ) → Merges (plain_rules rules) space i swap s w v l r g o)
        → Merges both space left swap s w v l r g o
    coerce_unlike v o h m = none_known swap (coerce_plain {known = None} {d = None} unlike v o ek ej h m)

  -- a wrapper in a list that comes to its rule
  pub coerce_wrapper : {k j : ℕ} → k ≡ (head_at (side swap s w) l).kind → j ≡ (head_at (side (not swap) s w) r).kind → passes k j ≡ true → (v : List ℕ) (o : Written) → names ≡ true
      → Merges (rewrapped k both) space (left - 1 + 1) swap s w v l r g o → Merges both space left swap s w v l r g o
  coerce_wrapper {k} {j} ek ej h v o f m =
      none_known {named = names} swap
      (as_known both space swap s w v l r g o None left (omega arith)
      (λ x y a b d.
      let p = kind_of_lem ek a in
      ap (λ (i : ℕ). rewrapped i both x y) (sym p) ∙ sym (by_rule rules f x y (ap₂ passes p (kind_of_lem ej b) ∙ h))) m)

-- what was found
pub difference_found : (named : Bool) {space : Space} {s t : List ℕ} {l r : ℕ} (known : Option ℕ) {e : ℕ} → DifferTypes s space.n l t space.n r named e → FirstDifference known named space s l t r e
difference_found named known f x y a b d = typed_differs named f a b
