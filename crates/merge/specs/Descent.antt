-- Wrappers that are passed on the way down to a core, and the records at which the way ends.
use Rattle.std.specs.Prelude.{◌≡◌, ℕ, ◌+◌, ◌<◌, ◌≤◌, Bool, true, false, not, ◌&&◌, ◌||◌, List, [], ◌∷◌, ◌⊎◌, length, eqb, ltb}
use Rattle.sheet.specs.declared.kind.TheConstants as Kind
use Rattle.sheet.specs.Types.{Shape, Fields, end, field, count, labels}
use Rattle.sheet.specs.Head.{head_at}
use Rattle.coercion.specs.Data.{DataType, size}
use Rattle.buffers.specs.Region.{region, Kept, Grows}
use Rattle.buffers.specs.Target.{type_of, shape_for, LaidPlain}
use Rattle.buffers.specs.Typed.{Chain, Typed, ChainIs}
use Rattle.buffers.specs.declared.Space.{Space}
use Rattle.buffers.specs.declared.Place.{Place}
use Rattle.buffers.specs.declared.Target.{Target}
use Rattle.buffers.specs.Written.{Written}
use Rattle.std.specs.Prelude.{Some, Ok}
use Rattle.merge.specs.declared.descent.Descent.{Descent}

-- whether a wrapper of kind k that meets a type of kind j comes to the rule for one wrapper of its kind
abbrev pub passes : ℕ → ℕ → Bool
passes k j = (eqb k Kind.DICTIONARY && not (eqb j Kind.DICTIONARY)) || (eqb k Kind.RUN_END_ENCODED && ltb j Kind.DICTIONARY)

-- a field that is a wrapper, without its value: its name and nullability, its shape, and its first part
pub record Wrapper : Type 0 where
  pub name : List ℕ
  pub nullable : Bool
  pub shape : Shape
  pub part_name : List ℕ
  pub part_nullable : Bool
  pub part : Shape
  pub part_parts : Fields

-- a field of a type, alone in its chain
abbrev pub alone : List ℕ → Bool → DataType → Fields
alone name nullable t = field name nullable t.shape t.parts end

-- a field within wrappers, the outermost first
unfoldable pub nest : List Wrapper → Fields → Fields
nest [] f = f
nest (z ∷ zs) f = field z.name z.nullable z.shape (field z.part_name z.part_nullable z.part z.part_parts (nest zs f)) end

-- each wrapper is passed on the way to a type of kind j
abbrev pub AllPass : ℕ → List Wrapper → Type 0
AllPass j [] = Unit
AllPass j (z ∷ zs) = (passes z.shape.kind j ≡ true) × AllPass j zs

-- each wrapper is a Dictionary
abbrev pub AllDictionaries : List Wrapper → Type 0
AllDictionaries [] = Unit
AllDictionaries (z ∷ zs) = (z.shape.kind ≡ Kind.DICTIONARY) × AllDictionaries zs

-- the kind of the innermost of wrappers, the outermost of which has kind k
abbrev pub innermost : ℕ → List Wrapper → ℕ
innermost k [] = k
innermost k (z ∷ zs) = innermost z.shape.kind zs

-- Where the run of Dictionaries begins whose first is the field f, behind wrappers that are kept: with x, at
-- record l, where that is a Dictionary and all wrappers are; or behind run ends.
abbrev pub Begins : Space → List ℕ → ℕ → DataType → List Wrapper → ℕ → Fields → Type 0
Begins space s l x kept i f =
    ((x.shape.kind ≡ Kind.DICTIONARY) × ((kept ≡ []) × (i ≡ l)))
    ⊎ ((innermost x.shape.kind kept ≡ Kind.RUN_END_ENCODED) × (Chain space s i f × (i + count f ≡ l + size x)))

-- The way down from the wrapper x at record l towards a type of kind j: wrappers that are kept, a run of
-- Dictionaries, and the core. The record of the core is known, and that of the run, which begins with x where x
-- and all others are Dictionaries.
pub record Descends (space : Space) (s : List ℕ) (j l : ℕ) (d : Descent) (x : DataType) : Type 0 where
  pub part_name : List ℕ
  pub part_nullable : Bool
  pub part : Shape
  pub part_parts : Fields
  pub kept : List Wrapper
  pub run : List Wrapper
  pub name : List ℕ
  pub nullable : Bool
  pub core : DataType
  pub first : d.first ≡ l + 1
  pub is : x.parts ≡ field part_name part_nullable part part_parts (nest kept (nest run (alone name nullable core)))
  pub kept_pass : AllPass j kept
  pub run_pass : AllPass j run
  pub dictionaries : AllDictionaries run
  pub stands : Chain space s d.core (alone name nullable core)
  pub ends : d.core + size core ≡ l + size x
  pub begins : Begins space s l x kept d.run (nest run (alone name nullable core))

-- what a walk down says of whatever wrapper of kind k stands at record l
abbrev pub Descended : Space → List ℕ → ℕ → ℕ → ℕ → Descent → Type 0
Descended space s k j l d = (x : DataType) → Typed space s l x → x.shape.kind ≡ k → Descends space s j l d x

-- and that its core is passed no more
abbrev pub Stops : Space → List ℕ → ℕ → ℕ → ℕ → Descent → Type 0
Stops space s k j l d = (x : DataType) → Typed space s l x → x.shape.kind ≡ k → passes (head_at s d.core).kind j ≡ false

-- Utf8View
abbrev pub view : DataType
view = type_of (shape_for Kind.UTF8_VIEW 0 0 0 false) end

-- Utf8View was written at a place under the name and nullability of the field at a link
pub record NamedView (space : Space) (s w v : List ℕ) (link : ℕ) (to : Place) (o : Written) : Type 0 where
  pub kept : Kept space w v to.at to.label
  pub grows : Grows space to o
  pub means : (name : List ℕ) (nullable : Bool) (t : DataType) (rest : Fields) → Chain space s link (field name nullable t.shape t.parts rest)
      → ChainIs space v to 1 (length name) o (Some (alone name nullable view))

-- the parts of a wrapper, the first of which is record r, were written at a place, with Utf8View where record i stands
pub record PlacedView (space : Space) (s w v : List ℕ) (r i : ℕ) (to : Place) (o : Written) : Type 0 where
  pub kept : Kept space w v to.at to.label
  pub grows : Grows space to o
  pub means : (l : ℕ) (x : DataType) (n : List ℕ) (b : Bool) (part : Shape) (p : Fields) (zs : List Wrapper) (name : List ℕ) (nullable : Bool) (t : DataType) → Typed space s l x → r ≡ l + 1
      → x.parts ≡ field n b part p (nest zs (alone name nullable t)) → Chain space s i (alone name nullable t) → i + size t ≡ l + size x
      → ChainIs space v to (count x.parts) (length (labels x.parts)) o (Some (field n b part p (nest zs (alone name nullable view))))

-- whether a run of Dictionaries stands about Utf8View, which was written at record i
abbrev pub run_gives_way : Space → List ℕ → Descent → ℕ → Bool
run_gives_way space w d i = not (eqb d.run d.core) && eqb (head_at (region space w) i).kind Kind.UTF8_VIEW

-- a wrapper, written at a target with its parts from a up to e, stays so, or its run of Dictionaries gives way to
-- the Utf8View at record i
pub record Settled (space : Space) (s w v : List ℕ) (d : Descent) (a : Place) (g : Target) (i : ℕ) (e : Place) (o : Written) : Type 0 where
  pub stays : run_gives_way space w d i ≡ false → (o ≡ Ok e) × (v ≡ w)
  pub whole : run_gives_way space w d i ≡ true → d.run < d.first → LaidPlain space w v g view.shape o
  pub part : run_gives_way space w d i ≡ true → d.first ≤ d.run → PlacedView space s w v d.first d.run a o
