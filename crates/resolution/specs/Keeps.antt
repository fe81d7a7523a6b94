-- The core of a candidate, and when it alone changes or stays as it is.
use Rattle.std.specs.Prelude.{◌≡◌, ℕ, ◌<◌, Bool, false, cond, ◌&&◌, List, eqb}
use Rattle.std.specs.Prelude.{Option, None, Some}
use Rattle.std.specs.List.{last_or}
use Rattle.sheet.specs.declared.kind.TheConstants as Kind
use Rattle.sheet.specs.Types.{Shape, Fields, end, field}
use Rattle.sheet.specs.Head.{zoned_in}
use Rattle.sheet.specs.declared.Head.{Head}
use Rattle.coercion.specs.Data.{DataType, and_then}
use Rattle.coercion.specs.Answers.{coercion}
use Rattle.coercion.specs.Times.{timeunit_coercion}
use Rattle.coercion.specs.declared.Rules.{Rules}
use Rattle.buffers.specs.Target.{type_of}
use Rattle.buffers.specs.Typed.{Typed}
use Rattle.buffers.specs.declared.Space.{Space}
use Rattle.plain.specs.declared.step.Step.{Step}
use Rattle.sheet.specs.Kind.{is_wrapper}
use Rattle.wrappers.specs.Ways.{wrappers_of}
use Rattle.resolution.specs.declared.keep.Bottom.{Bottom}

-- the core of a type: the value below all its wrappers
unfoldable pub core_of : Shape → Fields → DataType
core_of shape end = type_of shape end
core_of shape (field n b s p end) = type_of shape (field n b s p end)
core_of shape (field n b s p (field n₂ b₂ s₂ p₂ rest)) =
    cond (is_wrapper shape.kind) (core_of s₂ p₂) (type_of shape (field n b s p (field n₂ b₂ s₂ p₂ rest)))

-- a type with another core
unfoldable pub with_core : Shape → Fields → DataType → DataType
with_core shape end t = t
with_core shape (field n b s p end) t = t
with_core shape (field n b s p (field n₂ b₂ s₂ p₂ rest)) t =
    cond (is_wrapper shape.kind) (type_of shape (field n b s p (field n₂ b₂ (with_core s₂ p₂ t).shape (with_core s₂ p₂ t).parts rest))) t

-- a type x changes only the core of a type c, and that core has no parts
pub record CoreAlone (rules : Rules) (x c : DataType) : Type 0 where
  pub low : (core_of c.shape c.parts).shape.kind < Kind.LIST
  pub is : coercion rules x c ≡ and_then (coercion rules (core_of c.shape c.parts) x) (λ t. Some (with_core c.shape c.parts t))

-- whether a step lays Utf8View
abbrev pub lays_view : Option Step → Bool
lays_view (Some (Step.Lay f)) = eqb f.kind Kind.UTF8_VIEW
lays_view (Some (Step.Stamp unit)) = false
lays_view (Some Step.Left) = false
lays_view (Some Step.Right) = false
lays_view None = false

-- the core of the type of record r stands at record k, whatever type that is
pub record CoreAt (space : Space) (s : List ℕ) (r k : ℕ) : Type 0 where
  pub is : (t : DataType) → Typed space s r t → Typed space s k (core_of t.shape t.parts)

-- the kind of the wrapper directly around the core of a type, if there is one
abbrev pub inner_kind : DataType → Option ℕ
inner_kind t = last_or None (wrappers_of t.shape t.parts)

-- where the walk down the wrappers of the type of record r ends, whatever type that is
pub record BottomAt (space : Space) (s : List ℕ) (r : ℕ) (bottom : Bottom) : Type 0 where
  pub core : CoreAt space s r bottom.core
  pub inner : (t : DataType) → Typed space s r t → inner_kind t ≡ bottom.wrapper

-- so it does for the type of record 1, where that is known
abbrev pub BottomIf : Space → List ℕ → Option Bottom → Type 0
BottomIf space s (Some bottom) = BottomAt space s 1 bottom
BottomIf space s None = Unit

-- whether a core of kind k, in a wrapper of kind w if there is one, is Utf8View in a Dictionary
abbrev pub gives_way : ℕ → Option ℕ → Bool
gives_way k None = false
gives_way k (Some w) = eqb k Kind.UTF8_VIEW && eqb w Kind.DICTIONARY

-- whether a Timestamp with a zone stays as it is to the left of a Timestamp
abbrev pub stays_zoned : Head → Head → Bool
stays_zoned x y = (eqb x.kind Kind.TIMESTAMP && zoned_in x) && (eqb y.kind Kind.TIMESTAMP && eqb (timeunit_coercion x.figure y.figure) x.figure)
