-- Of the two rules for wrappers, the one that is asked has the answer of both. Assumes nothing.
use mathlib.Core.Path.{◌≡◌, refl, ap, sym, ◌∙◌}
use mathlib.Core.Bool.{Bool, true, false, cond, ◌||◌}
use mathlib.Core.List.{List}
use mathlib.Core.Logic.{inl, inr}
use Rattle.std.specs.Prelude.{Option, None}
use Prim.Native.Nat.{ℕ}
use native.Mathlib.Omega.{arith}
use borrow.Author.Tests.{eqb-true}
use Rattle.sheet.proofs.Booleans.{or_fst, or_snd}
use Rattle.coercion.specs.Data.{DataType, or_else, is_list_question}
use Rattle.coercion.specs.Same.{alike}
use Rattle.coercion.specs.Wrappers.{is_of, wrapper_coercion}
use Rattle.coercion.specs.Answers.{coercion}
use Rattle.coercion.specs.declared.Rules.{Rules}
use Rattle.buffers.specs.Typed.{Typed}
use Rattle.buffers.specs.declared.Space.{Space}
use Rattle.wrappers.specs.Ways.{may_merge, dictionary_may}
use Rattle.wrappers.specs.Walks.{crosses, chosen_kind}
use Rattle.wrappers.proofs.Cores.{Whole, whole}
use Rattle.wrappers.proofs.Foreign.{Foreign}
use Rattle.wrappers.proofs.Unwrapping.{given, given_none, dictionary_first, wrapper_none, asks}
use Rattle.wrappers.proofs.Ways.{refused, Crossed, crossed, one_way, only_way}

-- a type that stands at a link
pub typed_whole : {space : Space} {s : List ℕ} {link : ℕ} {t : DataType} → Typed space s link t → Whole t.shape t.parts
typed_whole {t = t} a = whole a.chain.up a.name a.nullable t.shape t.parts a.rest a.chain.held.source.right

-- a Dictionary and run ends have no rule of kind 0
crossed_none : (coerce : DataType → DataType → Option DataType) (l r : DataType) → Crossed l r → wrapper_coercion 0 coerce l r ≡ None
crossed_none coerce l r (inl h) = wrapper_none 0 coerce l r (rw (eqb-true l.shape.kind 37 h.0) refl) (rw (eqb-true r.shape.kind 38 h.1) refl)
crossed_none coerce l r (inr h) = wrapper_none 0 coerce l r (rw (eqb-true l.shape.kind 38 h.0) refl) (rw (eqb-true r.shape.kind 37 h.1) refl)

pub way_none : (mask : ℕ) (coerce : DataType → DataType → Option DataType) (l r : DataType) → chosen_kind mask l r ≡ 0 → wrapper_coercion (chosen_kind mask l r) coerce l r ≡ None
unfolding chosen_kind
way_none mask coerce l r e = ap (λ (k : ℕ). wrapper_coercion k coerce l r) e ∙ crossed_none coerce l r (crossed l r (crossing e))
  where
    straight : (b o : Bool) (k : ℕ) → ◌≡◌ {A = ℕ} (cond b k (cond o 37 38)) 0 → b ≡ true
    straight true o k e = refl
    straight false true k e = absurd (omega arith)
    straight false false k e = absurd (omega arith)

    crossing : chosen_kind mask l r ≡ 0 → crosses l r ≡ true
    crossing e = straight (crosses l r) (is_of 37 l || is_of 37 r) (cond (may_merge mask l r) (cond (dictionary_may mask l r) 37 38) 0) e

-- two that can have no common type
module _ (rules : Rules) (pairs : is_list_question rules.question ≡ false) (l r : DataType) (x : Whole l.shape l.parts) (y : Whole r.shape r.parts) where
  abbrev rule : ℕ → Option DataType
  rule k = wrapper_coercion k (coercion rules) l r

  foreign : Crossed l r → Foreign l.shape.kind
  foreign (inl h) = inr (inl (eqb-true l.shape.kind 37 h.0))
  foreign (inr h) = inr (inr (eqb-true l.shape.kind 38 h.0))

  none_way : may_merge rules.mask l r ≡ false → Crossed l r → or_else (rule 37) (rule 38) ≡ rule 0
  none_way m c =
      let neither = or_fst (given (rule 37) || given (rule 38)) _ (or_snd (alike l r) _ (sym (asks rules pairs dictionary_first l r (inl (foreign c))) ∙ refused rules pairs l r x y m)) in
      rw (given_none (rule 37) (or_fst (given (rule 37)) (given (rule 38)) neither), given_none (rule 38) (or_snd (given (rule 37)) (given (rule 38)) neither)) (sym (crossed_none (coercion rules) l r c))

pub way_rule : (rules : Rules) → is_list_question rules.question ≡ false → (l r : DataType) → Whole l.shape l.parts → Whole r.shape r.parts
    → or_else (wrapper_coercion 37 (coercion rules) l r) (wrapper_coercion 38 (coercion rules) l r) ≡ wrapper_coercion (chosen_kind rules.mask l r) (coercion rules) l r
unfolding chosen_kind
way_rule rules pairs l r x y = go (crosses l r) refl (may_merge rules.mask l r) refl
  where
    go : (b : Bool) → crosses l r ≡ b → (m : Bool) → may_merge rules.mask l r ≡ m
        → or_else (wrapper_coercion 37 (coercion rules) l r) (wrapper_coercion 38 (coercion rules) l r) ≡ wrapper_coercion (chosen_kind rules.mask l r) (coercion rules) l r
    go true e true h = one_way rules pairs l r x y (crossed l r e) ∙ rw (e, h) refl
    go true e false h = none_way rules pairs l r x y h (crossed l r e) ∙ rw (e, h) refl
    go false e m h = only_way (coercion rules) l r e ∙ rw e refl
