-- Which rule for types without parts may say a type of two kinds, by one computed test. Assumes nothing.
use mathlib.Core.Path.{◌≡◌, refl, ap, sym, ◌∙◌}
use mathlib.Core.Bool.{Bool, true, false, cond, not, ◌&&◌, ◌||◌}
use mathlib.Core.List.{List, [], ◌∷◌}
use Rattle.std.specs.Prelude.{Option, None, Some}
use Prim.Native.Nat.{ℕ, zero, suc, ◌<◌}
use native.Mathlib.Omega.{arith}
use lib.Dec.{eqb}
use lib.ListN.{get_or}
use borrow.Author.Tests.{not-true}
use Rattle.sheet.specs.Booleans.{between}
use Rattle.sheet.specs.Kind.{is_kind, is_numeric, is_string, is_date, is_time}
use Rattle.sheet.proofs.Booleans.{never, and_fst, and_snd, or_fst, or_snd}
use Rattle.coercion.specs.declared.Figures.{Figures}
use Rattle.coercion.specs.Data.{DataType, first_of, figures_of, as_type}
use Rattle.coercion.specs.Numbers.{binary_numeric_coercion}
use Rattle.coercion.specs.Times.{temporal_coercion, temporal_coercion_nonstrict_timezone}
use Rattle.coercion.specs.Strings.{string_coercion, binary_coercion}
use Rattle.coercion.specs.Rules.{null_coercion, string_numeric_coercion, string_numeric_union_coercion, time_of_string, string_temporal_coercion}
use Rattle.coercion.specs.Answers.{of_kind_type, string_number}
use Rattle.coercion.proofs.Ranked.{kind_from}
use Rattle.coercion.proofs.Tables.{below2, at2}
use Rattle.coercion.proofs.Words.{or_none}
use Rattle.coercion.specs.declared.Question.{Question}
use Rattle.coercion.specs.declared.Rules.{Rules}
use Rattle.plain.specs.Plain.{string_time, plain_answers, plain_rules}
use Rattle.plain.specs.Laws.{picked, PickedRule}
use Rattle.plain.specs.Steps.{Figured}

abbrev is_some : {A : Type 0} → Option A → Bool
is_some None = false
is_some (Some a) = true

-- Date, Time or Timestamp
abbrev is_moment : ℕ → Bool
is_moment k = is_date k || (is_time k || eqb k 22)

-- whether each rule may say a type of two kinds
abbrev speaks : ℕ → ℕ → List Bool
speaks k j =
    (is_numeric k && is_numeric j)
    ∷ ((eqb k 22 && eqb j 22) || is_some (temporal_coercion k j))
    ∷ (is_string k && is_string j)
    ∷ (eqb k 1 || eqb j 1)
    ∷ ((is_numeric k && is_string j) || (is_string k && is_numeric j))
    ∷ ((is_string k && is_moment j) || (is_string j && is_moment k))
    ∷ is_some (binary_coercion k j)
    ∷ []

-- no rule speaks, or none but one
abbrev none_of : List Bool → Bool
none_of [] = true
none_of (b ∷ bs) = not b && none_of bs

abbrev alone : ℕ → List Bool → Bool
alone t [] = true
alone zero (b ∷ bs) = none_of bs
alone (suc t) (b ∷ bs) = not b && alone t bs

tabled : below2 (λ k j. alone (picked k j) (speaks k j)) 39 ≡ true
unfolding between temporal_coercion binary_coercion
tabled = refl

-- answers that are missing where their tests fail
infixr 20 ◌also◌
data Voices : List Bool → List (Option DataType) → Type 0 where
  done : Voices [] []
  ◌also◌ : {b : Bool} {o : Option DataType} {bs : List Bool} {os : List (Option DataType)} → (b ≡ false → o ≡ None) → Voices bs os → Voices (b ∷ bs) (o ∷ os)

silent : {bs : List Bool} {os : List (Option DataType)} → Voices bs os → none_of bs ≡ true → first_of os ≡ None
unfolding first_of
silent done h = refl
silent (◌also◌ {b} {o} {bs} {os} f v) h = rw (f (not-true b (and_fst (not b) (none_of bs) h))) (silent v (and_snd (not b) (none_of bs) h))

sole : (t : ℕ) {bs : List Bool} {os : List (Option DataType)} → Voices bs os → alone t bs ≡ true → first_of os ≡ get_or os t None
unfolding first_of
sole t done h = refl
sole zero (◌also◌ {b} {o} {bs} {os} f v) h = rw (silent v h) (or_none o)
sole (suc t) (◌also◌ {b} {o} {bs} {os} f v) h = rw (f (not-true b (and_fst (not b) (alone t bs) h))) (sole t v (and_snd (not b) (alone t bs) h))

no_figures : (o : Option Figures) → is_some o ≡ false → as_type o ≡ None
no_figures None h = refl
no_figures (Some f) h = never (sym h)

no_kind : (o : Option ℕ) → is_some o ≡ false → of_kind_type o ≡ None
no_kind None h = refl
no_kind (Some k) h = never (sym h)

no_time : (t u : DataType) → is_string t.shape.kind && is_moment u.shape.kind ≡ false → cond (is_string t.shape.kind) (time_of_string u) None ≡ None
no_time t u h = go (is_string t.shape.kind) h
  where
    go : (b : Bool) → b && is_moment u.shape.kind ≡ false → cond b (time_of_string u) None ≡ None
    go true e = let d = or_snd (is_date u.shape.kind) _ e in rw (or_fst (is_date u.shape.kind) _ e, or_fst (is_time u.shape.kind) _ d, or_snd (is_time u.shape.kind) _ d)
    go false e = refl

module _ (rules : Rules) (l r : DataType) where
  abbrev k : ℕ
  k = l.shape.kind

  abbrev j : ℕ
  j = r.shape.kind

  no_number : (q : Question) → (is_numeric k && is_string j) || (is_string k && is_numeric j) ≡ false → string_number q l r ≡ None
  unfolding string_numeric_coercion string_numeric_union_coercion
  no_number q h = go q (or_fst (is_numeric k && is_string j) _ h) (or_snd (is_numeric k && is_string j) _ h)
    where
      go : (q : Question) → is_numeric k && is_string j ≡ false → is_string k && is_numeric j ≡ false → string_number q l r ≡ None
      go Question.List a b = rw (a, b)
      go Question.Union a b = rw (a, b)
      go Question.Compare a b = rw (a, b)

  no_moment : (is_string k && is_moment j) || (is_string j && is_moment k) ≡ false → string_temporal_coercion l r ≡ None
  unfolding string_temporal_coercion
  no_moment h = rw (no_time l r (or_fst (is_string k && is_moment j) _ h), no_time r l (or_snd (is_string k && is_moment j) _ h))

  no_string_time : (q : Question) → (is_string k && is_moment j) || (is_string j && is_moment k) ≡ false → string_time q l r ≡ None
  no_string_time Question.List h = refl
  no_string_time Question.Union h = no_moment h
  no_string_time Question.Compare h = no_moment h

  no_numbers : is_numeric k && is_numeric j ≡ false → as_type (binary_numeric_coercion (figures_of l) (figures_of r)) ≡ None
  unfolding binary_numeric_coercion
  no_numbers h = rw h

  no_times : (eqb k 22 && eqb j 22) || is_some (temporal_coercion k j) ≡ false → temporal_coercion_nonstrict_timezone l r ≡ None
  unfolding temporal_coercion_nonstrict_timezone
  no_times h = rw (or_fst (eqb k 22 && eqb j 22) _ h) (no_figures (temporal_coercion k j) (or_snd (eqb k 22 && eqb j 22) _ h))

  no_strings : is_string k && is_string j ≡ false → of_kind_type (string_coercion k j) ≡ None
  unfolding string_coercion
  no_strings h = rw h

  no_null : eqb k 1 || eqb j 1 ≡ false → null_coercion rules.mask l r ≡ None
  unfolding null_coercion
  no_null h = rw (or_fst (eqb k 1) _ h, or_snd (eqb k 1) _ h)

  heard : Voices (speaks k j) (plain_answers rules l r)
  heard =
      no_numbers also no_times also no_strings also no_null also no_number rules.question also no_string_time rules.question also no_kind (binary_coercion k j)
      also done

-- a kind is below 39
kind_below : (k : ℕ) → is_kind k ≡ true → k < 39
unfolding is_kind
kind_below k h = omega (arith, (kind_from 1 38 k h).1)

-- the rule that two kinds pick
pub picked_answers : PickedRule
unfolding plain_rules
picked_answers rules l r p q =
    sym (sole (picked l.shape.kind r.shape.kind) (heard rules l r)
    (at2 (λ k j. alone (picked k j) (speaks k j)) 39 tabled l.shape.kind r.shape.kind (kind_below l.shape.kind p) (kind_below r.shape.kind q)))

-- what that rule says, by the figures of the two types
pub spoken : (rules : Rules) {x y : Figures} (l r : DataType) → Figured x l → Figured y r → (t : ℕ) → picked x.kind y.kind ≡ t
    → {o : Option DataType} → o ≡ get_or (plain_answers rules l r) t None → o ≡ plain_rules rules l r
spoken rules l r p q t e h =
    let s : picked l.shape.kind r.shape.kind ≡ t = rw (p.kind, q.kind) e in
    h ∙ ap (λ (t : ℕ). get_or (plain_answers rules l r) t None) (sym s) ∙ picked_answers rules l r p.known q.known
