-- How a chain stands in bytes, record by record.
use Rattle.std.specs.Prelude.{◌≡◌, ℕ, ◌+◌, ◌*◌, ◌<◌, ◌≤◌, Bool, List, length, get_or, take, drop}
use Rattle.sheet.specs.Types.{Shape, Fields, end, field, count, own_labels, labels}
use Rattle.sheet.specs.Head.{head_at}
use Rattle.sheet.specs.Encode.{link_to, head_of}

-- a list of bytes
abbrev pub Plain : List ℕ → Type 0
Plain s = (i : ℕ) → get_or s i 0 < 256

-- u stands at i in s
pub record Span (s : List ℕ) (i : ℕ) (u : List ℕ) : Type 0 where
  pub same : take (length u) (drop i s) ≡ u

-- record r of s, whose labels begin n records and o bytes into s
pub record Stands (s : List ℕ) (n r o : ℕ) (name : List ℕ) (nullable : Bool) (shape : Shape) (first next : ℕ) : Type 0 where
  pub head : head_at s r ≡ head_of o name nullable shape first next
  pub label : Span s (16 * n + o) (own_labels name shape)

-- the chain whose first record is number r, and whose labels begin at o
abbrev pub Holds : List ℕ → ℕ → ℕ → ℕ → Fields → Type 0
Holds s n r o end = Unit
Holds s n r o (field name nullable shape parts rest) =
    Stands s n r o name nullable shape (link_to (r + 1) parts) (link_to (r + 1 + count parts) rest)
    × (Holds s n (r + 1) (o + length (own_labels name shape)) parts
    × Holds s n (r + 1 + count parts) (o + length (own_labels name shape) + length (labels parts)) rest)

-- a link leads to the chain t at record r, past floor, in a sheet of n records
pub record Leads (s : List ℕ) (n floor link r o : ℕ) (t : Fields) : Type 0 where
  pub holds : Holds s n r o t
  pub is : link ≡ link_to r t
  pub above : floor < r
  pub inside : r + count t ≤ n
