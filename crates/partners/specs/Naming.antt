-- The search for a name in a chain, the table of what was found, and the rows that it feeds.
use Rattle.std.specs.Prelude.{◌≡◌, ℕ, ◌+◌, ◌*◌, ◌/◌, ◌%◌, ◌<◌, Bool, true, false, cond, ◌&&◌, ◌||◌, List, Option, None, Some, ◌⊎◌, length, get_or, set, eqb, ltb}
use Rattle.std.specs.List.{All}
use Rattle.sheet.specs.Types.{Shape, Fields, field}
use Rattle.sheet.specs.Head.{head_at, nullable_in}
use Rattle.sheet.specs.Read.{label_at}
use Rattle.sheet.specs.Names.{has_name, mixed}
use Rattle.sheet.specs.declared.Head.{Head}
use Rattle.coercion.specs.Nested.{fields_have_same_names}
use Rattle.buffers.specs.Differ.{RowsKnown}
use Rattle.buffers.specs.Region.{Held}
use Rattle.buffers.specs.Typed.{Chain}
use Rattle.partners.specs.Feeds.{EndOf}
use Rattle.partners.specs.Partners.{Present, key_of, Partner, same_order}
use Rattle.buffers.specs.declared.Space.{Space}
use Rattle.partners.specs.declared.Row.{Row}
use Rattle.partners.specs.declared.Feed.{Feed}

-- the name of record j
abbrev pub name_of : List ℕ → ℕ → ℕ → List ℕ
name_of s n j = label_at s n (head_at s j).name (head_at s j).name_len

-- what a search for a name in a chain says: the link of a field of that name, or 0
pub record Picks (space : Space) (s : List ℕ) (name : List ℕ) (t : Fields) (found : ℕ) : Type 0 where
  pub missing : found ≡ 0 → has_name name t ≡ false
  pub present : 0 < found → Present space s found name t

-- a search says so of whatever chain stands at a link, in a buffer of n records
abbrev pub Finds : ℕ → List ℕ → List ℕ → ℕ → ℕ → Type 0
Finds n s name link found = (space : Space) (t : Fields) → n ≡ space.n → Chain space s link t → Picks space s name t found

-- what a search says of record l, where p stands at its place in the chain at r and something may be known of
-- the names of both chains
abbrev pub RowPairs : Option ℕ → Space → List ℕ → List ℕ → ℕ → ℕ → ℕ → ℕ → Type 0
RowPairs known space s t l r p found =
    (name : List ℕ) (nullable : Bool) (shape : Shape) (parts rest rf pf : Fields) → Chain space s l (field name nullable shape parts rest) → Chain space t r rf → Chain space t p pf
    → EndOf pf rf → RowsKnown known true l (field name nullable shape parts rest) pf → Picks space t name rf found

-- a record of a chain, whose name is tried before the chain is searched
pub record Tried (space : Space) (s : List ℕ) (link : ℕ) (t : Fields) : Type 0 where
  pub fields : Fields
  pub chain : Chain space s link fields
  pub ends : EndOf fields t

-- an index of a chain by its names has a row for each of 1,024 values of the upper bits of a number that goes
-- by their bytes
abbrev pub row_for : List ℕ → ℕ
row_for name = mixed 0 name / 4194304

-- a link that is 0, or leads to a record of whatever chain stands at another, in a buffer of n records
abbrev pub Within : ℕ → List ℕ → ℕ → ℕ → Type 0
Within n s link j = (space : Space) (t : Fields) → n ≡ space.n → Chain space s link t → 0 < j → Tried space s j t

-- the same, below 1,024
abbrev pub Member : ℕ → List ℕ → ℕ → ℕ → Type 0
Member n s link j = (j < 1024) × Within n s link j

-- each number of a list is one of those
abbrev pub Lists : ℕ → List ℕ → ℕ → List ℕ → Type 0
Lists n s link = All (Member n s link)

-- the rows of an index, and what stands before each record in its row, lead to records of whatever chain stands
-- at a link
abbrev pub Indexed : ℕ → List ℕ → ℕ → List ℕ → List ℕ → Type 0
Indexed n s link heads olds = Lists n s link heads × Lists n s link olds

-- the place of a record's number in a table: there is one for each, or in a short table 8 or 32 for a side
abbrev pub place_in : ℕ → ℕ → ℕ
place_in len k = cond (ltb len 64) (k % 8 + 8 * (k / 1024)) (cond (ltb len 2048) (k % 32 + 32 * (k / 1024)) k)

-- the partner of the record of number k in the chain at r, as an entry e says; 0 where it is of another record or chain
abbrev pub own_partner : ℕ → ℕ → ℕ → ℕ
own_partner k r e = cond (eqb (e / 1024) (1024 * k + r)) (e % 1024) 0

-- the same of record i of a side, as a table says
abbrev pub partner_in : List ℕ → Bool → ℕ → ℕ → ℕ
partner_in table swap i r = cond (ltb i 1024 && ltb r 1024) (own_partner (key_of swap i) r (get_or table (place_in (length table) (key_of swap i)) 0)) 0

-- a table after record j of the chain at r was noted for the record of number k, where there is a place for it
abbrev pub noted : List ℕ → ℕ → ℕ → ℕ → List ℕ
noted table k r j =
    cond (ltb k 2048 && (ltb r 1024 && ltb (place_in (length table) k) (length table))) (set table (place_in (length table) k) (1048576 * k + 1024 * r + j)) table

-- a true entry e, of a record of s, of which the first has number key
pub record News (space : Space) (s t : List ℕ) (key e : ℕ) : Type 0 where
  pub at : ℕ
  pub low : at < 1024
  pub own : e / 1048576 ≡ key + at
  pub says : Partner space s t at e

-- each entry that was noted is true
abbrev pub Notes : ℕ → List ℕ → List ℕ → ℕ → List ℕ → List ℕ → Type 0
Notes n s t key old new = (space : Space) → n ≡ space.n → (k : ℕ) → (get_or new k 0 ≡ get_or old k 0) ⊎ News space s t key (get_or new k 0)

-- the names of the chain at l of s were looked for in the chain at r of t, and noted from number key on
pub record Matched (n : ℕ) (s t : List ℕ) (floor l r key : ℕ) (old new : List ℕ) (b : Bool) : Type 0 where
  pub long : length new ≡ length old
  pub notes : Notes n s t key old new
  pub asks : (space : Space) → n ≡ space.n → (a o up : ℕ) (lf rf : Fields) → Held space s floor l a o up lf → Chain space t r rf → b ≡ fields_have_same_names lf rf

-- which fields feed those of a Struct: the ones at their places where the names stand in one order, by_name's
-- where they are the same in another
abbrev pub structs_feed : Feed → Fields → Fields → Option Feed
structs_feed by_name l r = cond (same_order l r) (Some Feed.Place) (cond (fields_have_same_names l r) (Some by_name) None)

-- the same of whatever chains stand at two links, where something may be known of their names
abbrev pub StructsFed : Option ℕ → Feed → Space → List ℕ → List ℕ → ℕ → ℕ → ℕ → Option Feed → Type 0
StructsFed known by_name space s t floor l r feed =
    (a o up : ℕ) (lf rf : Fields) → Held space s floor l a o up lf → Chain space t r rf → RowsKnown known true l lf rf → feed ≡ structs_feed by_name lf rf

-- the names of the chain at l of s were looked at beside those of the chain at r of t, and noted from number key on
pub record Walked (n : ℕ) (s t : List ℕ) (known : Option ℕ) (by_name : Feed) (floor l r key : ℕ) (old new : List ℕ) (feed : Option Feed) : Type 0 where
  pub long : length new ≡ length old
  pub notes : Notes n s t key old new
  pub feeds : (space : Space) → n ≡ space.n → StructsFed known by_name space s t floor l r feed

-- the row of a field whose nullability is that of two heads
abbrev pub row_of : ℕ → Head → Head → ℕ → Row
row_of partner a b next = record { partner = partner; nullable = nullable_in a || nullable_in b; next = next }
