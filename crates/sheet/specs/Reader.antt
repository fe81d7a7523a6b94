-- What a record says, by its number.
use Rattle.std.specs.Prelude.{ℕ, cond, List, eqb}
use Rattle.sheet.specs.Head.{blank, head_at}
use Rattle.sheet.specs.Read.{records_of, label_at, start}
use Rattle.sheet.specs.declared.Head.{Head}
use Rattle.sheet.specs.declared.reader.Entry.{Entry}

-- the head of the type at record r; record 0 is the header and no type: "the link 0 ends a chain"
unfoldable pub type_at : List ℕ → ℕ → Head
type_at s r = cond (eqb r 0) blank (head_at s r)

-- "The listed types are the chain that begins at record 1, and where n is 1 there are none."
abbrev pub listed_at : List ℕ → ℕ
listed_at s = start (records_of s)

-- "Byte 0 is the kind, a number from 1 to 38."
abbrev pub kind_at : List ℕ → ℕ → ℕ
kind_at s r = (type_at s r).kind

-- "Bytes 8 and 9 lead to the first part, and bytes 10 and 11 to the next record of the same chain."
abbrev pub first_at : List ℕ → ℕ → ℕ
first_at s r = (type_at s r).first

abbrev pub next_at : List ℕ → ℕ → ℕ
next_at s r = (type_at s r).next

-- "Bytes 12 and 13 are the offset of the name, and byte 14 is its length."
abbrev pub name_at : List ℕ → ℕ → List ℕ
name_at s r = label_at s (records_of s) (type_at s r).name (type_at s r).name_len

abbrev pub entry_at : List ℕ → ℕ → Entry
entry_at s r = record { kind = kind_at s r; first = first_at s r; next = next_at s r }
