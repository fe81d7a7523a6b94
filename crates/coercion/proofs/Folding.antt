-- What the common type of two types keeps, the answer for a list keeps. Assumes nothing.
use mathlib.Core.List.{List, [], ◌∷◌}
use Rattle.std.specs.Prelude.{Option}
use Prim.Native.Nat.{ℕ, ◌+◌, ◌≤◌}
use native.Mathlib.Omega.{arith}
use Rattle.sheet.specs.Booleans.{between}
use Rattle.coercion.specs.Data.{DataType}
use Rattle.coercion.specs.Rules.{is_null}
use Rattle.coercion.specs.Answers.{coercion, notSupported, has_category, categories_in, all_equal, fold_from, fold_types, type_union_resolution, pair_answer, answer_of}
use Rattle.coercion.proofs.Maybe.{If, if_then, if_weak, cond_is}
use Rattle.coercion.specs.declared.Question.{Question}
use Rattle.coercion.specs.declared.Rules.{Rules}

-- what the types of a list weigh together
abbrev pub total : (DataType → ℕ) → List DataType → ℕ
total w [] = 0
total w (t ∷ ts) = w t + total w ts

abbrev pub Each : (DataType → Type 0) → List DataType → Type 0
Each P [] = Unit
Each P (t ∷ ts) = P t × Each P ts

-- a type for which P holds and that weighs at most n
abbrev pub Under : (DataType → Type 0) → (DataType → ℕ) → ℕ → DataType → Type 0
Under P w n t = P t × (w t ≤ n)

under_more : (P : DataType → Type 0) (w : DataType → ℕ) (n m : ℕ) (o : Option DataType) → n ≤ m → If (Under P w n) o → If (Under P w m) o
under_more P w n m o le h = if_weak (Under P w n) (Under P w m) o h (λ t g. (g.0, omega arith))

module _ (P : DataType → Type 0) (w : DataType → ℕ) (rules : Rules)
    (kept : (l r : DataType) → P l → P r → If (Under P w (w l + w r)) (coercion rules l r)) where
  pub fold_from_kept : (c : DataType) (ts : List DataType) → P c → Each P ts → If (Under P w (w c + total w ts)) (fold_from rules c ts)
  unfolding fold_from
  fold_from_kept c [] h k = (h, omega arith)
  fold_from_kept c (t ∷ ts) h k =
      let U = Under P w (w c + (w t + total w ts)) in
      cond_is (If U) (is_null t) _ _ (under_more P w _ _ (fold_from rules c ts) (omega arith) (fold_from_kept c ts h k.1))
      (if_then (Under P w (w t + w c)) U (coercion rules t c) (λ d. fold_from rules d ts) (kept t c k.0 h)
      (λ d g. under_more P w _ _ (fold_from rules d ts) (omega arith) (fold_from_kept d ts g.0 k.1)))

  pub fold_kept : (ts : List DataType) → Each P ts → If (Under P w (total w ts)) (fold_types rules ts)
  unfolding fold_types
  fold_kept [] h = tt
  fold_kept (t ∷ ts) h =
      cond_is (If (Under P w (w t + total w ts))) (is_null t) _ _ (under_more P w _ _ (fold_types rules ts) (omega arith) (fold_kept ts h.1))
      (fold_from_kept t ts h.0 h.1)

  pub resolution_kept : (ts : List DataType) → Each P ts → If (Under P w (total w ts)) (type_union_resolution rules ts)
  unfolding type_union_resolution
  resolution_kept [] h = tt
  resolution_kept (t ∷ ts) h =
      let U = If (Under P w (w t + total w ts)) in
      cond_is U (all_equal t ts) _ _ (h.0, omega arith)
      (cond_is U (has_category notSupported (t ∷ ts)) _ _ tt (cond_is U (between 0 1 (categories_in (t ∷ ts))) _ _ (fold_kept (t ∷ ts) h) tt))

  pub pair_kept : (ts : List DataType) → Each P ts → If (Under P w (total w ts)) (pair_answer rules ts)
  pair_kept [] h = tt
  pair_kept (l ∷ []) h = tt
  pair_kept (l ∷ r ∷ []) h = under_more P w _ _ (coercion rules l r) (omega arith) (kept l r h.0 h.1.0)
  pair_kept (l ∷ r ∷ x ∷ xs) h = tt

  pub answer_kept : (q : Question) (ts : List DataType) → Each P ts → If (Under P w (total w ts)) (answer_of q rules ts)
  answer_kept Question.List ts h = resolution_kept ts h
  answer_kept Question.Union ts h = pair_kept ts h
  answer_kept Question.Compare ts h = pair_kept ts h
