-- What the merge of two fields and of two chains says, whatever types stand at its links.
use Rattle.std.specs.Prelude.{ℕ, ◌+◌, ◌≤◌, Bool, not, List, length, Option, None, Some}
use Rattle.sheet.specs.Types.{Shape, Fields, end, field, count, labels}
use Rattle.coercion.specs.Data.{DataType, size}
use Rattle.coercion.specs.Nested.{before, join_fields, list_of}
use Rattle.buffers.specs.Writes.{side}
use Rattle.buffers.specs.Region.{Kept, Grows}
use Rattle.buffers.specs.Target.{letters, Means, Writes}
use Rattle.buffers.specs.Typed.{Chain, Typed, ChainIs}
use Rattle.partners.specs.Feeds.{Feeds}
use Rattle.partners.specs.Partners.{Partners}
use Rattle.wrappers.specs.Ways.{Hint}
use Rattle.buffers.specs.Differ.{RowsKnown}
use Rattle.merge.specs.Known.{Differs}
use Rattle.buffers.specs.declared.Space.{Space}
use Rattle.buffers.specs.declared.Place.{Place}
use Rattle.buffers.specs.declared.Target.{Target}
use Rattle.buffers.specs.Written.{Written}
use Rattle.partners.specs.declared.Feed.{Feed}

-- each entry of a table of partners is true
pub record Tabled (space : Space) (s w table : List ℕ) : Type 0 where
  pub partners : Partners space s w table

-- two types, of which something may be known, were merged as a rule says, where no more than `left` records are
-- left in both
pub record MergesKnown (known : Option ℕ) (named : Bool) (answer : DataType → DataType → Option DataType) (space : Space) (left : ℕ) (swap : Bool) (s w v : List ℕ) (l r : ℕ) (g : Target) (o : Written) : Type 0 where
  pub writes : Writes space w v g o
  pub means : (x y : DataType) → Typed space (side swap s w) l x → Typed space (side (not swap) s w) r y → size x + size y ≤ left → Differs known named l x y
      → Means space w v g (size x + size y) (letters x + letters y) o (answer x y)

-- the same, where something may be known of their wrappers too
pub record MergesHinted (hint mask : ℕ) (known : Option ℕ) (named : Bool) (answer : DataType → DataType → Option DataType) (space : Space) (left : ℕ) (swap : Bool) (s w v : List ℕ) (l r : ℕ) (g : Target) (o : Written) : Type 0 where
  pub writes : Writes space w v g o
  pub means : (x y : DataType) → Typed space (side swap s w) l x → Typed space (side (not swap) s w) r y → size x + size y ≤ left → Differs known named l x y → Hint hint mask x y
      → Means space w v g (size x + size y) (letters x + letters y) o (answer x y)

-- a type as a field
abbrev pub field_of : List ℕ → Bool → Option DataType → Option Fields
field_of name nullable None = None
field_of name nullable (Some t) = Some (before name nullable t end)

-- a field was merged with the type of another, where something may be known of the chains of both, as a rule
-- says, under its own name and nullability
pub record MergesField (known : Option ℕ) (named : Bool) (answer : DataType → DataType → Option DataType) (space : Space) (left : ℕ) (swap : Bool) (s w v : List ℕ) (l r : ℕ) (to : Place) (o : Written) : Type 0 where
  pub kept : Kept space w v to.at to.label
  pub grows : Grows space to o
  pub means : (name : List ℕ) (nullable : Bool) (x y : DataType) (rest : Fields) → Chain space (side swap s w) l (field name nullable x.shape x.parts rest)
      → (t : Typed space (side (not swap) s w) r y) → size x + size y ≤ left
      → RowsKnown known named l (field name nullable x.shape x.parts rest) (field t.name t.nullable y.shape y.parts t.rest)
      → ChainIs space v to (size x + size y) (length name + letters x + letters y) o (field_of name nullable (answer x y))

-- the rows of two chains, of which something may be known, were merged
pub record Rowed (known : Option ℕ) (named : Bool) (coerce : DataType → DataType → Option DataType) (space : Space) (left : ℕ) (swap : Bool) (s w v : List ℕ) (feed : Feed) (l r p : ℕ) (to : Place) (o : Written) : Type 0 where
  pub kept : Kept space w v to.at to.label
  pub grows : Grows space to o
  pub means : (lf rf pf tf nf : Fields) → Chain space (side swap s w) l lf → Chain space (side (not swap) s w) r rf → Chain space (side (not swap) s w) p pf
      → Feeds feed lf rf pf tf nf → count lf + count tf ≤ left → RowsKnown known named l lf pf
      → ChainIs space v to (count lf + count tf) (length (labels lf) + length (labels tf)) o (join_fields coerce lf tf nf)

-- the record of a type with parts, and the merged rows under it
pub record Under (known : Option ℕ) (named : Bool) (coerce : DataType → DataType → Option DataType) (space : Space) (left : ℕ) (swap : Bool) (s w v : List ℕ) (feed : Feed) (shape : Shape) (l r p : ℕ) (g : Target) (o : Written) : Type 0 where
  pub writes : Writes space w v g o
  pub means : (lf rf pf tf nf : Fields) → Chain space (side swap s w) l lf → Chain space (side (not swap) s w) r rf → Chain space (side (not swap) s w) p pf
      → Feeds feed lf rf pf tf nf → count lf + count tf ≤ left → RowsKnown known named l lf pf
      → Means space w v g (1 + count lf + count tf) (length (labels lf) + length (labels tf)) o (list_of shape (join_fields coerce lf tf nf))
