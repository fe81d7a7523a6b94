-- The name of a field, which is written before its type. Assumes nothing.
use mathlib.Core.Path.{◌≡◌, refl, sym, subst}
use mathlib.Core.Bool.{Bool}
use mathlib.Core.List.{List}
use Prim.Native.Nat.{ℕ}
use Rattle.std.specs.Prelude.{Result, Ok, Err}
use Rattle.std.specs.Result.{IsErrAnd}
use Rattle.sheet.specs.Bounds.{Bounded}
use Rattle.sheet.specs.declared.Head.{Head}
use Rattle.buffers.specs.Region.{Inside, Ready}
use Rattle.buffers.specs.declared.Target.{Target}
use Rattle.buffers.specs.declared.Space.{Space}
use Rattle.buffers.specs.declared.Place.{Place}
use Rattle.buffers.proofs.Fielding.{field_ready}
use Rattle.buffers.specs.Typed.{NamedTarget}

-- what a `?` returns
pub stopped : {T E : Type 0} {e : E} (r : Result T E) → IsErrAnd r (λ d. d ≡ e) → r ≡ Err e
stopped (Ok x) h = absurd h
stopped (Err d) h = rw h refl

pub goal_ready : {space : Space} {s w v : List ℕ} {h : Head} {nullable : Bool} {to : Place} {g : Target} → Inside space to → Bounded h → NamedTarget space s w v h nullable to (Ok g) → Ready space g
goal_ready {space} {nullable = nullable} i b n = subst (λ (g : Target). Ready space g) (sym n.goal) (field_ready nullable i b refl n.named)
