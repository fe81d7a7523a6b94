-- Null and the wrappers are foreign to the other rules of a union or a comparison. Assumes nothing.
use mathlib.Core.Path.{◌≡◌, refl, ap, sym, ◌∙◌}
use mathlib.Core.Bool.{Bool, true, false, cond, ◌&&◌, ◌||◌, and-false, and_assoc}
use mathlib.Core.List.{[], ◌∷◌}
use mathlib.Core.Logic.{◌⊎◌, inl, inr, ⊎_swap}
use Rattle.std.specs.Prelude.{Option, None, Some}
use Prim.Native.Nat.{ℕ}
use lib.Dec.{eqb}
use Rattle.sheet.specs.declared.kind.TheConstants as Kind
use Rattle.sheet.specs.Booleans.{between}
use Rattle.sheet.specs.Types.{arity}
use Rattle.sheet.proofs.Booleans.{never, or_fst, or_snd}
use Rattle.coercion.specs.Data.{DataType, or_else, first_of, figures_of, as_type, is_list_question}
use Rattle.sheet.specs.Kind.{is_numeric, is_integer, is_string, is_date, is_time, is_span, is_list, with_kind}
use Rattle.coercion.specs.Same.{alike}
use Rattle.coercion.specs.Strings.{is_long_string, is_binary_or_string, string_coercion, binary_coercion}
use Rattle.coercion.specs.Times.{temporal_coercion, temporal_coercion_nonstrict_timezone}
use Rattle.coercion.specs.Numbers.{binary_numeric_coercion}
use Rattle.coercion.specs.Rules.{null_coercion, string_numeric_coercion, string_numeric_union_coercion, match_rule, string_temporal_coercion}
use Rattle.coercion.specs.Wrappers.{wrapper_coercion}
use Rattle.coercion.specs.Nested.{list_coercion, struct_coercion, map_coercion}
use Rattle.coercion.specs.Answers.{of_kind_type, string_number, pair_rules, ask, coercion}
use Rattle.coercion.proofs.Fuel.{coercion_asks}
use Rattle.coercion.proofs.Words.{or_none}
use Rattle.coercion.specs.declared.Question.{Question}
use Rattle.coercion.specs.declared.Rules.{Rules}

abbrev pub Foreign : ℕ → Type 0
Foreign k = (k ≡ Kind.NULL) ⊎ ((k ≡ Kind.DICTIONARY) ⊎ (k ≡ Kind.RUN_END_ENCODED))

-- a test of kinds that holds for none of them
abbrev Blind : (ℕ → Bool) → Type 0
Blind f = f Kind.NULL || (f Kind.DICTIONARY || f Kind.RUN_END_ENCODED) ≡ false

blind_at : (f : ℕ → Bool) → Blind f → (k : ℕ) → Foreign k → f k ≡ false
blind_at f b k (inl e) = ap f e ∙ or_fst (f 1) _ b
blind_at f b k (inr (inl e)) = ap f e ∙ or_fst (f 37) (f 38) (or_snd (f 1) (f 37 || f 38) b)
blind_at f b k (inr (inr e)) = ap f e ∙ or_snd (f 37) (f 38) (or_snd (f 1) (f 37 || f 38) b)

module _ (k j : ℕ) (one : Foreign k ⊎ Foreign j) where
  both_fail : (f g : ℕ → Bool) → Blind f → Blind g → f k && g j ≡ false
  both_fail f g b d = go one
    where
      go : Foreign k ⊎ Foreign j → f k && g j ≡ false
      go (inl h) = rw (blind_at f b k h)
      go (inr h) = rw (blind_at g d j h) (and-false (f k))

  with_fails : (x : ℕ) (test : ℕ → Bool) → Blind (λ i. eqb i x) → Blind test → with_kind x test k j ≡ false
  with_fails x test b d = rw (both_fail (λ i. eqb i x) test b d) (both_fail test (λ i. eqb i x) d b)

module _ (l r : DataType) (one : Foreign l.shape.kind ⊎ Foreign r.shape.kind) where
  abbrev k : ℕ
  k = l.shape.kind

  abbrev j : ℕ
  j = r.shape.kind

  numeric : as_type (binary_numeric_coercion (figures_of l) (figures_of r)) ≡ None
  unfolding binary_numeric_coercion between
  numeric = rw (both_fail k j one is_numeric is_numeric refl refl)

  temporal : temporal_coercion_nonstrict_timezone l r ≡ None
  unfolding temporal_coercion_nonstrict_timezone temporal_coercion between
  temporal =
      rw (
        both_fail k j one (λ i. eqb i 22) (λ i. eqb i 22) refl refl,
        both_fail k j one is_span is_span refl refl,
        with_fails k j one 18 is_integer refl refl,
        with_fails k j one 19 is_integer refl refl,
        with_fails k j one 19 (λ i. eqb i 18) refl refl,
        with_fails k j one 18 is_time refl refl,
        with_fails k j one 19 is_time refl refl,
        with_fails k j one 22 is_date refl refl,
      )

  string : of_kind_type (string_coercion k j) ≡ None
  unfolding string_coercion between
  string = rw (both_fail k j one is_string is_string refl refl)

  lists : (c : DataType → DataType → Option DataType) → list_coercion c l r ≡ None
  unfolding list_coercion between
  lists c = rw (both_fail k j one is_list is_list refl refl)

  number : (q : Question) → string_number q l r ≡ None
  unfolding string_numeric_coercion string_numeric_union_coercion between
  number q = go q (both_fail k j one is_numeric is_string refl refl) (both_fail k j one is_string is_numeric refl refl)
    where
      go : (q : Question) → is_numeric k && is_string j ≡ false → is_string k && is_numeric j ≡ false → string_number q l r ≡ None
      go Question.List n s = rw (n, s)
      go Question.Union n s = rw (s, n)
      go Question.Compare n s = rw (n, s)

  binary : of_kind_type (binary_coercion k j) ≡ None
  unfolding binary_coercion between
  binary =
      rw (
        both_fail k j one (λ i. eqb i 28) (λ i. eqb i 28) refl refl,
        both_fail k j one (λ i. eqb i 29) (λ i. eqb i 29) refl refl,
        both_fail k j one (λ i. eqb i 30) (λ i. eqb i 30) refl refl,
        with_fails k j one 30 (λ i. eqb i 29 || is_binary_or_string i) refl refl,
        with_fails k j one 29 is_binary_or_string refl refl,
        with_fails k j one 28 is_long_string refl refl,
        with_fails k j one 28 (λ i. eqb i 25) refl refl,
        with_fails k j one 28 (λ i. eqb i 31) refl refl,
        with_fails k j one 30 (λ i. eqb i 31) refl refl,
      )

  structs : (c : DataType → DataType → Option DataType) → struct_coercion c l r ≡ None
  unfolding struct_coercion
  structs c =
      rw (sym (and_assoc (eqb k 35) (eqb j 35) (eqb (arity l.parts) (arity r.parts))), both_fail k j one (λ i. eqb i 35) (λ i. eqb i 35) refl refl)

  maps : (c : DataType → DataType → Option DataType) → map_coercion c l r ≡ None
  unfolding map_coercion
  maps c = rw (both_fail k j one (λ i. eqb i 36) (λ i. eqb i 36) refl refl)

-- a string is no foreign kind, and neither is a time
match_none : (l r : DataType) → Foreign l.shape.kind ⊎ Foreign r.shape.kind → match_rule l r ≡ None
unfolding between
match_none l r (inl h) = rw (blind_at is_string refl l.shape.kind h)
match_none l r (inr h) =
    rw (blind_at is_date refl r.shape.kind h, blind_at is_time refl r.shape.kind h, blind_at (λ i. eqb i 22) refl r.shape.kind h)
    (go (is_string l.shape.kind))
  where
    go : (b : Bool) → cond {A = Option DataType} b None None ≡ None
    go true = refl
    go false = refl

time : (l r : DataType) → Foreign l.shape.kind ⊎ Foreign r.shape.kind → string_temporal_coercion l r ≡ None
unfolding string_temporal_coercion
time l r one = rw (match_none l r one) (match_none r l (⊎_swap one))

-- so of the rules those for alike types, wrappers and Nulls are left
pub foreign_asks : (rules : Rules) → is_list_question rules.question ≡ false → (l r : DataType) → Foreign l.shape.kind ⊎ Foreign r.shape.kind
    → coercion rules l r
    ≡ or_else (cond (alike l r) (Some l) None)
    (or_else (wrapper_coercion Kind.DICTIONARY (coercion rules) l r)
    (or_else (wrapper_coercion Kind.RUN_END_ENCODED (coercion rules) l r) (null_coercion rules.mask l r)))
unfolding first_of
foreign_asks rules pairs l r one = coercion_asks rules l r ∙ asked rules.question pairs ∙ left
  where
    asked : (q : Question) → is_list_question q ≡ false → ask q rules (coercion rules) l r ≡ first_of (pair_rules rules (coercion rules) l r)
    asked Question.List h = never (sym h)
    asked Question.Union h = refl
    asked Question.Compare h = refl

    left : first_of (pair_rules rules (coercion rules) l r)
        ≡ or_else (cond (alike l r) (Some l) None)
        (or_else (wrapper_coercion 37 (coercion rules) l r) (or_else (wrapper_coercion 38 (coercion rules) l r) (null_coercion rules.mask l r)))
    left =
        (λ i. first_of
        (cond (alike l r) (Some l) None
        ∷ numeric l r one i
        ∷ wrapper_coercion 37 (coercion rules) l r
        ∷ wrapper_coercion 38 (coercion rules) l r
        ∷ temporal l r one i
        ∷ string l r one i
        ∷ lists l r one (coercion rules) i
        ∷ null_coercion rules.mask l r
        ∷ number l r one rules.question i
        ∷ time l r one i
        ∷ binary l r one i
        ∷ structs l r one (coercion rules) i
        ∷ maps l r one (coercion rules) i
        ∷ []))
        ∙ ap (λ (o : Option DataType). or_else (cond (alike l r) (Some l) None) (or_else (wrapper_coercion 37 (coercion rules) l r) (or_else (wrapper_coercion 38 (coercion rules) l r) o)))
        (or_none (null_coercion rules.mask l r))
