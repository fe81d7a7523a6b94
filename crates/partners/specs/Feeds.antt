-- Which fields of the right feed those of the left.
use Rattle.std.specs.Prelude.{◌≡◌, ℕ, ◌<◌, Bool, true, false, not, ◌||◌, List, ◌⊎◌}
use Rattle.std.specs.Prelude.{Option, Some}
use Rattle.sheet.specs.Types.{Shape, Fields, end, field, arity}
use Rattle.sheet.specs.Names.{repeats}
use Rattle.coercion.specs.Data.{DataType}
use Rattle.coercion.specs.Nested.{by_name}
use Rattle.buffers.specs.Differ.{RowsKnown}
use Rattle.buffers.specs.Writes.{side}
use Rattle.buffers.specs.Typed.{Chain, Typed}
use Rattle.buffers.specs.declared.Space.{Space}
use Rattle.partners.specs.declared.Row.{Row}
use Rattle.partners.specs.declared.Feed.{Feed}

-- a chain is the part of another from a field on
abbrev pub EndOf : Fields → Fields → Type 0
EndOf t end = t ≡ end
EndOf t (field name nullable shape parts rest) = (t ≡ field name nullable shape parts rest) ⊎ EndOf t rest

-- which chains give the fields of lf their types and join their nullability: rf is the right chain, pf the part
-- of it at lf's place. By name the right's names differ, so that whichever field has a name is the one
abbrev pub Feeds : Feed → Fields → Fields → Fields → Fields → Fields → Type 0
Feeds Feed.Place lf rf pf tf nf = (tf ≡ pf) × (nf ≡ pf)
Feeds Feed.Own lf rf pf tf nf = (tf ≡ pf) × (nf ≡ lf)
Feeds Feed.Name lf rf pf tf nf = (by_name lf rf ≡ Some tf) × ((nf ≡ tf) × ((EndOf pf rf × (repeats rf ≡ false)) × (arity pf ≡ arity lf)))
Feeds Feed.NameThenPlace lf rf pf tf nf = (by_name lf rf ≡ Some tf) × ((nf ≡ pf) × (EndOf pf rf × (repeats rf ≡ false)))

-- what feeds the first row of a chain, and the chains of the rows behind it
pub record Fed (space : Space) (s : List ℕ) (feed : Feed) (nullable : Bool) (rest rf : Fields) (row : Row) (tf nf : Fields) : Type 0 where
  pub name : List ℕ
  pub own : Bool
  pub type : DataType
  pub more : Fields
  pub types : tf ≡ field name own type.shape type.parts more
  pub partner : Typed space s row.partner type
  pub name' : List ℕ
  pub joined : Bool
  pub shape' : Shape
  pub parts' : Fields
  pub nulls : Fields
  pub nullables : nf ≡ field name' joined shape' parts' nulls
  pub joins : row.nullable ≡ (nullable || joined)
  pub behind : Fields
  pub next : Chain space s row.next behind
  pub feeds : Feeds feed rest rf behind more nulls

-- a row that nothing feeds
abbrev pub Unfed : Fields → Fields → Type 0
Unfed tf nf = (tf ≡ end) ⊎ (nf ≡ end)

-- what is said of a row, where something may be known of the names of both chains
pub record RowIs (known : Option ℕ) (space : Space) (swap : Bool) (s w : List ℕ) (feed : Feed) (l r p : ℕ) (row : Row) : Type 0 where
  pub fed : (name : List ℕ) (nullable : Bool) (shape : Shape) (parts rest rf pf tf nf : Fields) → Chain space (side swap s w) l (field name nullable shape parts rest)
      → Chain space (side (not swap) s w) r rf → Chain space (side (not swap) s w) p pf → Feeds feed (field name nullable shape parts rest) rf pf tf nf
      → RowsKnown known true l (field name nullable shape parts rest) pf → 0 < row.partner → Fed space (side (not swap) s w) feed nullable rest rf row tf nf
  pub unfed : (name : List ℕ) (nullable : Bool) (shape : Shape) (parts rest rf pf tf nf : Fields) → Chain space (side swap s w) l (field name nullable shape parts rest)
      → Chain space (side (not swap) s w) r rf → Chain space (side (not swap) s w) p pf → Feeds feed (field name nullable shape parts rest) rf pf tf nf
      → RowsKnown known true l (field name nullable shape parts rest) pf → row.partner ≡ 0 → Unfed tf nf
