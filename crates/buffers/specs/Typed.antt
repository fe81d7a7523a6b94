-- Types that stand at links and types that were written, whatever types those are.
use Rattle.std.specs.Prelude.{◌≡◌, ℕ, ◌+◌, ◌<◌, ◌≤◌, Bool, true, false, not, List, length}
use Rattle.std.specs.Prelude.{Option, None, Some}
use Rattle.sheet.specs.Head.{head_at}
use Rattle.sheet.specs.declared.Head.{Head}
use Rattle.sheet.specs.Types.{Shape, Fields, end, field, count}
use Rattle.coercion.specs.Data.{DataType, size}
use Rattle.buffers.specs.Writes.{side}
use Rattle.buffers.specs.Region.{Kept, Held, Grows, Further, Short, Wrote, Named}
use Rattle.buffers.specs.Target.{letters, Means, Writes, type_of}
use Rattle.buffers.specs.declared.Space.{Space}
use Rattle.buffers.specs.declared.Place.{Place}
use Rattle.buffers.specs.declared.Target.{Target}
use Rattle.buffers.specs.Written.{Written}
use Rattle.std.specs.Prelude.{Result, Ok, Err, is_ok}
use Rattle.buffers.specs.declared.Failure.{Failure}
use Rattle.buffers.specs.declared.Failure.TheVariants.{NoType, Full}

-- a chain that a link of a source leads to, wherever it stands
pub record Chain (space : Space) (s : List ℕ) (link : ℕ) (t : Fields) : Type 0 where
  pub floor : ℕ
  pub at : ℕ
  pub label : ℕ
  pub up : ℕ
  pub held : Held space s floor link at label up t

-- the type of the record at a link
pub record Typed (space : Space) (s : List ℕ) (link : ℕ) (t : DataType) : Type 0 where
  pub name : List ℕ
  pub nullable : Bool
  pub rest : Fields
  pub chain : Chain space s link (field name nullable t.shape t.parts rest)

-- two types were merged as a rule says, where no more than `left` records are left in both
pub record Merges (answer : DataType → DataType → Option DataType) (space : Space) (left : ℕ) (swap : Bool) (s w v : List ℕ) (l r : ℕ) (g : Target) (o : Written) : Type 0 where
  pub writes : Writes space w v g o
  pub means : (x y : DataType) → Typed space (side swap s w) l x → Typed space (side (not swap) s w) r y → size x + size y ≤ left
      → Means space w v g (size x + size y) (letters x + letters y) o (answer x y)

-- what an answer says of a chain that was written at a place
abbrev pub ChainIs : Space → List ℕ → Place → ℕ → ℕ → Written → Option Fields → Type 0
ChainIs space v to z y (Ok d) None = ⊥
ChainIs space v to z y (Ok d) (Some t) = Wrote space v to d t
ChainIs space v to z y (Err NoType) None = Unit
ChainIs space v to z y (Err NoType) (Some t) = ⊥
ChainIs space v to z y (Err Full) m = Short space to z y

-- the target of a field at a place, under the name of a head
abbrev pub target_at : Place → ℕ → Bool → Target
target_at to name_len nullable = record { at = to.at; label = to.label; name_len = name_len; nullable = nullable }

-- the name of a record was written at a place, where there is room for it
pub record NamedAt (space : Space) (s w v : List ℕ) (h : Head) (to : Place) (b : Bool) : Type 0 where
  pub kept : Kept space w v to.at to.label
  pub fits : b ≡ true → to.label + h.name_len ≤ space.m
  pub full : b ≡ false → space.m < to.label + h.name_len
  pub named : b ≡ true → (link : ℕ) (name : List ℕ) (nullable own : Bool) (shape : Shape) (parts rest : Fields) → Chain space s link (field name nullable shape parts rest)
      → h ≡ head_at s link → Named space v (target_at to h.name_len own) name

-- which goal an answer is
abbrev pub GoalIs : Place → Head → Bool → Result Target Failure → Type 0
GoalIs to h nullable (Ok g) = g ≡ target_at to h.name_len nullable
GoalIs to h nullable (Err e) = e ≡ Full

-- the target of a field at a place, under the name of a record that was written there; or there is no room for the name
pub record NamedTarget (space : Space) (s w v : List ℕ) (h : Head) (nullable : Bool) (to : Place) (o : Result Target Failure) : Type 0 where
  pub named : NamedAt space s w v h to (is_ok o)
  pub goal : GoalIs to h nullable o

-- a field was copied without those behind it
pub record CopiedField (space : Space) (s w v : List ℕ) (link : ℕ) (to : Place) (o : Written) : Type 0 where
  pub kept : Kept space w v to.at to.label
  pub grows : Grows space to o
  pub further : Further to o
  pub means : (name : List ℕ) (nullable : Bool) (shape : Shape) (parts rest : Fields) → Chain space s link (field name nullable shape parts rest)
      → ChainIs space v to (1 + count parts) (length name + letters (type_of shape parts)) o (Some (field name nullable shape parts end))
