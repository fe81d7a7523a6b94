-- An answer that was reached in work space, whatever types a sheet lists.
use Rattle.std.specs.Prelude.{◌≡◌, ℕ, ◌+◌, ◌*◌, ◌<◌, ◌≤◌, Bool, true, cond, List, [], ◌∷◌, length, get_or}
use Rattle.std.specs.Prelude.{Option, None, Some}
use Rattle.std.specs.Int.Bits.{bit_or}
use Rattle.sheet.specs.Types.{Fields, field, count, labels}
use Rattle.sheet.specs.Names.{names_differ}
use Rattle.sheet.specs.Carried.{FieldsRight}
use Rattle.coercion.specs.Data.{DataType, size, single, types_of}
use Rattle.coercion.specs.Answers.{fold_types, category_of, has_category, notSupported}
use Rattle.coercion.specs.Meaning.{category_bit}
use Rattle.coercion.specs.declared.Rules.{Rules}
use Rattle.buffers.specs.Region.{Held, Inside, Wrote}
use Rattle.buffers.specs.Typed.{Typed}
use Rattle.buffers.specs.Target.{letters}
use Rattle.buffers.specs.declared.Space.{Space}
use Rattle.buffers.specs.declared.Place.{Place}
use Rattle.buffers.specs.Written.{Written}
use Rattle.std.specs.Prelude.{Ok, Err}
use Rattle.buffers.specs.declared.Failure.TheVariants.{NoType, Full}
use Rattle.merge.specs.Known.{Differs}
use Rattle.plain.specs.declared.value.PlainType.{PlainType}
use Rattle.plain.specs.Value.{Valued, JointIs}
use Rattle.resolution.specs.Keeps.{CoreAlone}

-- where an answer is written: record 1, and the first label
abbrev pub front : Place
front = record { at = 1; label = 0 }

-- listed types that a link of the sheet leads to: they have neither a name nor a nullability
pub record ListedTypes (space : Space) (s : List ℕ) (floor link : ℕ) (types : Fields) : Type 0 where
  pub at : ℕ
  pub label : ℕ
  pub held : Held space s floor link at label 0 types

-- types that fit the sheet together with some that were taken before
pub record Fits (space : Space) (records bytes : ℕ) (types : Fields) : Type 0 where
  pub few : records + count types < space.n
  pub short : bytes + length (labels types) ≤ space.m

-- what an answer in work space says
abbrev pub AnswerIs : Space → List ℕ → Written → Option DataType → Type 0
AnswerIs space v (Ok d) None = ⊥
AnswerIs space v (Ok d) (Some t) = Wrote space v front d (single t)
AnswerIs space v (Err NoType) None = Unit
AnswerIs space v (Err NoType) (Some t) = ⊥
AnswerIs space v (Err Full) m = ⊥

-- what was written ends within the room
abbrev pub Enclosed : Space → Written → Type 0
Enclosed space (Ok d) = Inside space d
Enclosed space (Err NoType) = Unit
Enclosed space (Err Full) = Unit

-- nothing past the two halves has changed
pub record Within (space : Space) (w v : List ℕ) : Type 0 where
  pub long : length v ≡ length w
  pub above : (j : ℕ) → 2 * space.half ≤ j → get_or v j 0 ≡ get_or w j 0

-- the answer for the types at a link past floor
pub record Reached (answer : List DataType → Option DataType) (space : Space) (s w v : List ℕ) (floor link : ℕ) (o : Written) : Type 0 where
  pub within : Within space w v
  pub means : (types : Fields) → ListedTypes space s floor link types → Fits space 0 0 types → AnswerIs space v o (answer (types_of types))

-- a candidate that stands at the front of the second half, up to d, and may stand in a sheet
pub record Candidate (space : Space) (w : List ℕ) (d : Place) (c : DataType) : Type 0 where
  pub wrote : Wrote space w front d (single c)
  pub right : FieldsRight 0 (single c)
  pub differ : names_differ (single c) ≡ true

-- a type of the sheet changes only the core of the candidate
pub record Cored (rules : Rules) (space : Space) (s w : List ℕ) (link : ℕ) (d : Place) : Type 0 where
  pub is : (x c : DataType) → Typed space s link x → Candidate space w d c → CoreAlone rules x c

-- the candidate's bytes were moved to the first half, and nothing else has changed
pub record Shifted (space : Space) (w v : List ℕ) (d : Place) : Type 0 where
  pub long : length v ≡ length w
  pub records : (j : ℕ) → j < 16 * d.at → get_or v j 0 ≡ get_or w (space.half + j) 0
  pub letters : (j : ℕ) → j < d.label → get_or v (16 * space.n + j) 0 ≡ get_or w (space.half + (16 * space.n + j)) 0
  pub above : (j : ℕ) → space.half ≤ j → get_or v j 0 ≡ get_or w j 0

-- the bits of the categories of a list, with those that were seen before
unfoldable pub category_bits : ℕ → List DataType → ℕ
category_bits bits [] = bits
category_bits bits (t ∷ ts) = category_bits (bit_or bits (category_bit (category_of t.shape t.parts))) ts

-- the same, and all bits where a type of the list has no category
unfoldable pub seen_bits : ℕ → List DataType → ℕ
seen_bits bits ts = cond (has_category notSupported ts) 255 (category_bits bits ts)

-- the sheet's bytes were laid in the first half, as far as it has them, and nothing else has changed
pub record Mirrored (space : Space) (s w v : List ℕ) : Type 0 where
  pub long : length v ≡ length w
  pub same : (j : ℕ) → j < space.half → j < length s → get_or v j 0 ≡ get_or s j 0
  pub above : (j : ℕ) → space.half ≤ j → get_or v j 0 ≡ get_or w j 0

-- a type that the sheet lists at a record
pub record Entry (space : Space) (s : List ℕ) (first : ℕ) (c : DataType) : Type 0 where
  pub floor : ℕ
  pub name : List ℕ
  pub nullable : Bool
  pub rest : Fields
  pub listed : ListedTypes space s floor first (field name nullable c.shape c.parts rest)

-- what is known of where a type of the sheet differs from a candidate, which stands as `Is` says
pub record Compared (known : Option ℕ) (named : Bool) (space : Space) (Is : DataType → Type 0) (s : List ℕ) (link : ℕ) : Type 0 where
  pub is : (x c : DataType) → Typed space s link x → Is c → Differs known named link x c

-- a type of the sheet was merged with a candidate, which stands as `Is` says
pub record Steps (coerce : DataType → DataType → Option DataType) (space : Space) (Is : DataType → Type 0) (s w v : List ℕ) (link : ℕ) (o : Written) : Type 0 where
  pub within : Within space w v
  pub inside : Enclosed space o
  pub means : (x c : DataType) → Typed space s link x → Is c → size x + size c < space.n → letters x + letters c ≤ space.m → AnswerIs space v o (coerce x c)

-- such a candidate was folded with the types at a link past floor
pub record Folds (fold : DataType → List DataType → Option DataType) (space : Space) (Is : DataType → Type 0) (s w v : List ℕ) (floor link : ℕ) (o : Written) : Type 0 where
  pub within : Within space w v
  pub means : (c : DataType) (types : Fields) → Is c → ListedTypes space s floor link types → Fits space (size c) (letters c) types → AnswerIs space v o (fold c (types_of types))

-- a type and those behind it, folded
unfoldable pub fold_behind : Rules → DataType → List DataType → Option DataType
fold_behind rules t ts = fold_types rules (t ∷ ts)

-- a value was written as a candidate, whatever type it is
pub record Fronted (space : Space) (w v : List ℕ) (x : PlainType) (d : Place) : Type 0 where
  pub within : Within space w v
  pub inside : Inside space d
  pub candidate : (t : DataType) → Valued x t → Candidate space v d t

-- an answer was written, whatever type it is
pub record JointLaid (space : Space) (w v : List ℕ) (joint : Option PlainType) (o : Written) : Type 0 where
  pub within : Within space w v
  pub inside : Enclosed space o
  pub means : (answer : Option DataType) → JointIs Valued joint answer → AnswerIs space v o answer
