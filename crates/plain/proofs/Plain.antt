-- The common type of two types without parts is said by the rules for them. Assumes nothing.
use mathlib.Core.Path.{◌≡◌, refl, ◌∙◌}
use mathlib.Core.Bool.{Bool, true, false, cond}
use Rattle.std.specs.Prelude.{Option, None, Some}
use Prim.Native.Nat.{ℕ, ◌<◌, ◌≤◌}
use native.Mathlib.Omega.{arith}
use lib.Dec.{eqb}
use borrow.Author.Tests.{ne_eqb, lt-leb}
use Rattle.sheet.specs.Booleans.{between}
use Rattle.sheet.specs.Kind.{is_list}
use Rattle.sheet.specs.Types.{Fields, end, field, arity}
use Rattle.coercion.specs.Data.{DataType, first_of, or_else, is_list_question}
use Rattle.coercion.specs.Same.{same_type, alike}
use Rattle.coercion.specs.Wrappers.{wrapper_coercion}
use Rattle.coercion.specs.Nested.{list_coercion, struct_coercion, map_coercion}
use Rattle.coercion.specs.Answers.{ask, coercion}
use Rattle.coercion.specs.declared.Question.{Question}
use Rattle.coercion.specs.declared.Rules.{Rules}
use Rattle.coercion.proofs.Fuel.{coercion_asks}
use Rattle.plain.specs.Plain.{plain_rules}
use Rattle.plain.specs.Laws.{PlainAnswer}

-- a chain of no fields
pub end_is : (t : Fields) → arity t ≡ 0 → t ≡ end
unfolding arity
end_is end e = refl
end_is (field name nullable shape parts rest) e = absurd (omega arith)

module _ (rules : Rules) (c : DataType → DataType → Option DataType) (l r : DataType) (h : l.shape.kind < 32) (g : r.shape.kind < 32) where
  left : (k : ℕ) → 32 ≤ k → eqb l.shape.kind k ≡ false
  left k u = ne_eqb l.shape.kind k (λ e. omega arith)

  right : (k : ℕ) → 32 ≤ k → eqb r.shape.kind k ≡ false
  right k u = ne_eqb r.shape.kind k (λ e. omega arith)

  no_list : is_list l.shape.kind ≡ false
  unfolding between
  no_list = rw (lt-leb 32 l.shape.kind h)

  or_else_test : (b : Bool) (o : Option DataType) → or_else (cond b (Some l) None) o ≡ cond b (Some l) o
  or_else_test true o = refl
  or_else_test false o = refl

  ask_plain : (q : Question) → rules.question ≡ q → ask q rules c l r ≡ cond (same_type (is_list_question q) l r) (Some l) (plain_rules rules l r)
  unfolding first_of plain_rules wrapper_coercion list_coercion struct_coercion map_coercion
  ask_plain Question.List e =
      rw (e, left 37 (omega arith), right 37 (omega arith), left 38 (omega arith), right 38 (omega arith), left 35 (omega arith), left 36 (omega arith), no_list) refl
  ask_plain Question.Union e =
      rw (e, left 37 (omega arith), right 37 (omega arith), left 38 (omega arith), right 38 (omega arith), left 35 (omega arith), left 36 (omega arith), no_list)
      (or_else_test (alike l r) _)
  ask_plain Question.Compare e =
      rw (e, left 37 (omega arith), right 37 (omega arith), left 38 (omega arith), right 38 (omega arith), left 35 (omega arith), left 36 (omega arith), no_list)
      (or_else_test (alike l r) _)

pub plain_answer : PlainAnswer
plain_answer rules l r h g = coercion_asks rules l r ∙ ask_plain rules (coercion rules) l r h g rules.question refl
