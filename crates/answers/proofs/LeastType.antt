-- The least-type theorem, proved of every family, list, order and cutting. Assumes nothing.
use mathlib.Core.Path.{◌≡◌, refl, ap, ap₂, sym, subst, ◌∙◌}
use mathlib.Core.Logic.{∥∥₁_elim, ∥∥₁_map}
use mathlib.Core.Bool.{false}
use mathlib.Core.List.{List, [], ◌∷◌, map, flatten}
use Rattle.sheet.proofs.Booleans.{never}
use Rattle.coercion.specs.Data.{DataType}
use Rattle.coercion.specs.Rules.{is_null}
use Rattle.coercion.specs.Families.{Family, AllIn, SomeIn}
use Rattle.coercion.proofs.Joins.{all, in_all, member_all, perm_in, perm_all, in_front, in_back, in_cut, all_cut}
use Rattle.coercion.proofs.Resolving.{in_plain}
use Rattle.coercion.proofs.Commons.{Settled, settled}
use Rattle.answers.specs.Call.{Call, rules_of}
use Rattle.answers.specs.LeastType.{Asks, Answers, Calls, end, call, NonEmpty, EachAnswers, Settles, LeastTypeTheorem, TwoFamilies}
use Rattle.answers.proofs.Answering.{answers_prop, answers_of, answers_one}

pub full_rest : (ts : List DataType) (css : List (List DataType)) → NonEmpty (ts ∷ css) → NonEmpty css
full_rest [] css n = absurd n
full_rest (t ∷ ts) css n = n

module _ (f : Family) (s : Settled f) where
  -- a call on a stretch answers its common type
  pub stretch_answers : (c : Call) (ts : List DataType) (css : List (List DataType)) → NonEmpty (ts ∷ css) → AllIn f ts → Asks c ts → Answers c (all ts)
  stretch_answers c [] css n a asks = absurd n
  stretch_answers c (t ∷ ts) css n a asks = answers_of c (t ∷ ts) (all (t ∷ ts)) asks (s.resolves (rules_of c) t ts a)

  -- and no other
  stretch_one : (c : Call) (ts : List DataType) (css : List (List DataType)) (u : DataType) → NonEmpty (ts ∷ css) → AllIn f ts → Asks c ts → Answers c u → u ≡ all ts
  stretch_one c ts css u n a asks ans =
      let g = in_plain f (all ts) (in_all f s.laws ts a) in
      answers_one c g.0 u (subst (Answers c) g.1 (stretch_answers c ts css n a asks)) ans ∙ sym g.1

  -- a call on a list that is not of Nulls alone
  list_answers : (c : Call) (ts : List DataType) → AllIn f ts → is_null (all ts) ≡ false → Asks c ts → Answers c (all ts)
  unfolding all
  list_answers c [] a h asks = never (sym h)
  list_answers c (t ∷ ts) a h asks = stretch_answers c (t ∷ ts) [] tt a asks

  each : (css : List (List DataType)) → NonEmpty css → ∥ AllIn f (flatten css) ∥₁ → EachAnswers css
  unfolding flatten
  each [] n a = tt
  each (ts ∷ css) n a = (
    λ c asks. (all ts, ∥∥₁_elim a (answers_prop c (all ts)) (λ b. stretch_answers c ts css n (in_front f s.laws ts (flatten css) b) asks)),
    each css (full_rest ts css n) (∥∥₁_map a (in_back f s.laws ts (flatten css))),
  )

  -- the answers of the stretches are their common types
  answers_all : {css : List (List DataType)} {us : List DataType} → Calls css us → NonEmpty css → AllIn f (flatten css) → us ≡ map all css
  unfolding flatten
  answers_all end n a = refl
  answers_all (call {stretch} {rest} {answer} {answers} c asks ans more) n a =
      ap₂ (λ (x : DataType) (xs : List DataType). x ∷ xs)
      (stretch_one c stretch rest answer n (in_front f s.laws stretch (flatten rest) a) asks ans)
      (answers_all more (full_rest stretch rest n) (in_back f s.laws stretch (flatten rest) a))

  module _ (types : List DataType) (a : AllIn f types) (some_one : SomeIn f types) where
    solid : is_null (all types) ≡ false
    solid = s.laws.solid (all types) (member_all f s.laws types a some_one)

    -- a list with the same common type gets the same answer
    same_answer : (c : Call) (ts : List DataType) → AllIn f ts → all ts ≡ all types → Asks c ts → Answers c (all types)
    same_answer c ts b e asks = subst (Answers c) e (list_answers c ts b (ap is_null e ∙ solid) asks)

    settles : Settles types (all types)
    settles =
        record {
          in_any_order = λ order p c asks.
              ∥∥₁_elim p (answers_prop c (all types))
              (λ d. same_answer c order (perm_in f s.laws d a) (sym (perm_all f s.laws d a)) asks);
          in_stretches = λ order p cut e n.
              each cut n (∥∥₁_map p (λ d. subst (AllIn f) (sym e) (perm_in f s.laws d a)));
          again = λ order p cut e n answers calls another q c asks.
              ∥∥₁_elim p (answers_prop c (all types)) (λ d.
              ∥∥₁_elim q (answers_prop c (all types)) (λ d'.
              let whole : AllIn f (flatten cut) = subst (AllIn f) (sym e) (perm_in f s.laws d a) in
              let are : answers ≡ map all cut = answers_all calls n whole in
              let own : AllIn f answers = subst (AllIn f) (sym are) (in_cut f s.laws cut whole) in
              same_answer c another (perm_in f s.laws d' own)
              (sym (perm_all f s.laws d' own) ∙ ap all are ∙ all_cut f s.laws cut whole ∙ ap all e ∙ sym (perm_all f s.laws d a)) asks));
        }

pub least_type : LeastTypeTheorem
least_type f types a some_one =
    let s = settled f types some_one in
    (all types, (s.common types a some_one, settles f s types a some_one))

pub two_families : TwoFamilies
two_families f g types a some_one b some_other =
    let s = settled f types some_one in
    (all types, (s.common types a some_one, ((settled g types some_other).common types b some_other, settles f s types a some_one)))
