-- A reader on a sheet whose types are known, and what it says where it stands at a chain of types, each as one
-- statement; src/laws.rt promises them.
use Rattle.std.specs.Prelude.{◌≡◌, ℕ, Bool, List}
use Rattle.sheet.specs.Types.{Shape, Fields, end, field}
use Rattle.sheet.specs.Read.{records_of, read}
use Rattle.sheet.specs.Refusals.{refusal}
use Rattle.sheet.specs.Holds.{Plain, Leads}
use Rattle.sheet.specs.Reader.{listed_at, kind_at, first_at, next_at, name_at}

-- a reader at record number at stands at the chain t: its first record is number r, and its labels begin at o
pub record StandsAt (s : List ℕ) (at : ℕ) (t : Fields) : Type 0 where
  pub r : ℕ
  pub o : ℕ
  pub leads : Leads s (records_of s) 0 at r o t

-- a new reader of an accepted sheet stands at its listed types
abbrev pub StandsNew : Type 0
StandsNew = (s : List ℕ) → Plain s → refusal s ≡ 0 → StandsAt s (listed_at s) (read s)

-- at the end of a chain a reader stands at record 0
abbrev pub StandsEnd : Type 0
StandsEnd = (s : List ℕ) (at : ℕ) → StandsAt s at end → at ≡ 0

-- what is said of a reader that stands at a type, whichever type and chain that is
abbrev pub AtType : (List ℕ → ℕ → List ℕ → Shape → Fields → Fields → Type 0) → Type 0
AtType Says =
    (s : List ℕ) (at : ℕ) (name : List ℕ) (nullable : Bool) (shape : Shape) (parts rest : Fields)
    → StandsAt s at (field name nullable shape parts rest) → Says s at name shape parts rest

-- it gives the kind of that type
abbrev pub StandsKind : Type 0
StandsKind = AtType (λ s at name shape parts rest. kind_at s at ≡ shape.kind)

-- it gives its name
abbrev pub StandsName : Type 0
StandsName = AtType (λ s at name shape parts rest. name_at s at ≡ name)

-- its first part stands at the type's parts
abbrev pub StandsFirst : Type 0
StandsFirst = AtType (λ s at name shape parts rest. StandsAt s (first_at s at) parts)

-- its next stands at the types behind it
abbrev pub StandsNext : Type 0
StandsNext = AtType (λ s at name shape parts rest. StandsAt s (next_at s at) rest)
