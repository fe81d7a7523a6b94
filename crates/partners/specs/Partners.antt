-- A table of partners: for a record of a side, a chain of the other side and the field of that chain that has its name.
use Rattle.std.specs.Prelude.{◌≡◌, ℕ, ◌+◌, ◌/◌, ◌%◌, ◌<◌, Bool, true, false, not, cond, ◌&&◌, List, get_or}
use Rattle.sheet.specs.Types.{Shape, Fields, end, field}
use Rattle.sheet.specs.Names.{same_bytes}
use Rattle.buffers.specs.Writes.{side}
use Rattle.buffers.specs.Typed.{Chain}
use Rattle.partners.specs.Feeds.{EndOf}
use Rattle.buffers.specs.declared.Space.{Space}

-- the field at a link is one of a chain, and has a name
pub record Present (space : Space) (s : List ℕ) (link : ℕ) (name : List ℕ) (t : Fields) : Type 0 where
  pub nullable : Bool
  pub shape : Shape
  pub parts : Fields
  pub rest : Fields
  pub chain : Chain space s link (field name nullable shape parts rest)
  pub ends : EndOf (field name nullable shape parts rest) t

-- the number of record i of a side: there are 1,024 of each
abbrev pub key_of : Bool → ℕ → ℕ
key_of swap i = cond swap (1024 + i) i

-- what an entry e says of record i of s: field e % 1024 of the chain at e / 1024 % 1024 of t has the name of
-- record i; 0 says nothing
abbrev pub Partner : Space → List ℕ → List ℕ → ℕ → ℕ → Type 0
Partner space s t i e =
    0 < e → (name : List ℕ) (nullable : Bool) (shape : Shape) (parts rest rf : Fields) → Chain space s i (field name nullable shape parts rest) → Chain space t (e / 1024 % 1024) rf
    → Present space t (e % 1024) name rf

-- each entry e of a table, at whatever place, is true of the record of which e / 1,048,576 is the number
abbrev pub Partners : Space → List ℕ → List ℕ → List ℕ → Type 0
Partners space s w table =
    (swap : Bool) (i k : ℕ) → i < 1024 → get_or table k 0 / 1048576 ≡ key_of swap i → Partner space (side swap s w) (side (not swap) s w) i (get_or table k 0)

-- the names of two chains are the same place by place, as far as the first goes
unfoldable pub same_order : Fields → Fields → Bool
same_order end r = true
same_order (field name nullable shape parts rest) end = false
same_order (field name nullable shape parts rest) (field name' nullable' shape' parts' rest') = same_bytes name name' && same_order rest rest'
