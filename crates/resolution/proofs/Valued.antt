-- The types at links by value. Assumes nothing.
use mathlib.Core.Path.{◌≡◌, sym, subst, ◌∙◌}
use mathlib.Core.Bool.{true}
use mathlib.Core.List.{List}
use Prim.Native.Nat.{ℕ, ◌<◌}
use native.Mathlib.Omega.{arith}
use Rattle.sheet.specs.Types.{end}
use Rattle.sheet.specs.Head.{head_at}
use Rattle.sheet.specs.declared.Head.{Head}
use Rattle.coercion.specs.Data.{DataType}
use Rattle.coercion.proofs.AnswersRight.{TypeRight, sound_right}
use Rattle.coercion.proofs.PlainRight.{own_right}
use Rattle.plain.specs.declared.value.PlainType.{PlainType}
use Rattle.plain.specs.Value.{is_plain, plain_type_of, type_of_plain, Valued}
use Rattle.plain.proofs.Valuing.{no_parts, plain_kind, plain_shape}
use Rattle.buffers.specs.Typed.{Typed}
use Rattle.buffers.specs.declared.Space.{Space}
use Rattle.buffers.proofs.Sources.{read_shape}
use Rattle.merge.proofs.Merging.{typed_kind, type_differ}

-- a type that stands somewhere is one that a list may have
pub typed_right : {space : Space} {s : List ℕ} {link : ℕ} (t : DataType) → Typed space s link t → TypeRight t
typed_right t a = let r = a.chain.held.source.right in (sound_right t (own_right r.0, r.1.0), type_differ t a)

partless : {space : Space} {s : List ℕ} {link : ℕ} {t : DataType} (h : Head) → h.kind < 32 → h ≡ head_at s link → Typed space s link t → t.parts ≡ end
partless {t = t} h p e a = no_parts t.shape.kind t.parts (omega (arith, p, typed_kind h e a)) (typed_right t a).0.0.filled

-- the type of a plain head
module _ (h : Head) (p : is_plain h ≡ true) where
  pub plain_valued : {space : Space} {s : List ℕ} {link : ℕ} {x : PlainType} {t : DataType} → x ≡ plain_type_of h → h ≡ head_at s link → Typed space s link t → Valued x t
  plain_valued {space} {s} {t = t} ex e a =
      let right = (typed_right t a).0 in
      let es : t.shape ≡ (type_of_plain (plain_type_of h)).shape = sym (read_shape a.chain.held.source h e) ∙ plain_shape h p s space.n in
      let ep : t.parts ≡ end = partless h (plain_kind h p) e a in
      subst (λ (k : PlainType). Valued k t) (sym ex) (record { is = λ i. record { shape = es i; parts = ep i }; low = plain_kind h p; right = right })
