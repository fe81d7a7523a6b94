-- Records that stand one behind the other, each by itself, and what is said of a copy of them.
use Rattle.std.specs.Prelude.{◌≡◌, ℕ, ◌+◌, ◌*◌, ◌<◌, ◌≤◌, Bool, true, cond, List, [], ◌∷◌, ◌++◌, length}
use Rattle.std.specs.Prelude.{Ok, Err}
use Rattle.sheet.specs.Kind.{is_kind}
use Rattle.sheet.specs.Types.{Shape, zone_bytes, own_labels}
use Rattle.sheet.specs.Head.{head_at, zoned_in, zone_len}
use Rattle.sheet.specs.Encode.{head_of}
use Rattle.sheet.specs.Carried.{Label}
use Rattle.sheet.specs.Holds.{Stands}
use Rattle.sheet.specs.declared.Head.{Head}
use Rattle.buffers.specs.Region.{region, Kept, Grows, Short, moved_link, moved_label}
use Rattle.buffers.specs.declared.Space.{Space}
use Rattle.buffers.specs.declared.Place.{Place}
use Rattle.buffers.specs.Written.{Written}
use Rattle.buffers.specs.declared.Failure.TheVariants.{NoType, Full}

-- a record by itself: what it says, and where its links lead
pub record Item : Type 0 where
  pub name : List ℕ
  pub nullable : Bool
  pub shape : Shape
  pub first : ℕ
  pub next : ℕ

-- the labels of records
unfoldable pub item_labels : List Item → List ℕ
item_labels [] = []
item_labels (x ∷ xs) = own_labels x.name x.shape ++ item_labels xs

-- records that stand one behind the other from number r on, their labels from o on
abbrev pub Strip : List ℕ → ℕ → ℕ → ℕ → List Item → Type 0
Strip s n r o [] = Unit
Strip s n r o (x ∷ xs) =
    Stands s n r o x.name x.nullable x.shape x.first x.next × Strip s n (r + 1) (o + length (own_labels x.name x.shape)) xs

-- a record has a kind, so that it is none past the end of a buffer, and its zone is a label
pub record ItemRight (x : Item) : Type 0 where
  pub known : is_kind x.shape.kind ≡ true
  pub own_zone : Label (zone_bytes x.shape.zone)

abbrev pub ItemsRight : List Item → Type 0
ItemsRight [] = Unit
ItemsRight (x ∷ xs) = ItemRight x × ItemsRight xs

-- a record whose links were moved with it, from number link to number at
abbrev pub moved_item : ℕ → ℕ → Item → Item
moved_item link at x =
    record {
      name = x.name;
      nullable = x.nullable;
      shape = x.shape;
      first = moved_link x.first link at;
      next = moved_link x.next link at;
    }

unfoldable pub moved_items : ℕ → ℕ → List Item → List Item
moved_items link at [] = []
moved_items link at (x ∷ xs) = moved_item link at x ∷ moved_items link at xs

-- what is said of records that were copied, from number link up to end: whatever records stand there stand at
-- the destination
abbrev pub SpanMeans : Space → List ℕ → List ℕ → ℕ → ℕ → Place → Written → Type 0
SpanMeans space s v link end to (Ok d) =
    (o : ℕ) (xs : List Item) → Strip s space.n link o xs → ItemsRight xs → link + length xs ≡ end → end ≤ space.n → o + length (item_labels xs) ≤ space.m
    → (d.at ≡ to.at + length xs) × ((d.label ≡ to.label + length (item_labels xs))
    × Strip (region space v) space.n to.at to.label (moved_items link to.at xs))
SpanMeans space s v link end to (Err NoType) = ⊥
SpanMeans space s v link end to (Err Full) =
    (o : ℕ) (xs : List Item) → Strip s space.n link o xs → ItemsRight xs → link + length xs ≡ end → end ≤ space.n → o + length (item_labels xs) ≤ space.m
    → Short space to (length xs) (length (item_labels xs))

pub record CopiedSpan (space : Space) (s w v : List ℕ) (link end : ℕ) (to : Place) (o : Written) : Type 0 where
  pub kept : Kept space w v to.at to.label
  pub grows : Grows space to o
  pub means : SpanMeans space s v link end to o

-- the heads of records that stand one behind the other
abbrev pub Heads : List ℕ → ℕ → ℕ → List Item → Type 0
Heads s r o [] = Unit
Heads s r o (x ∷ xs) =
    (head_at s r ≡ head_of o x.name x.nullable x.shape x.first x.next) × Heads s (r + 1) (o + length (own_labels x.name x.shape)) xs

-- a head whose links were moved, from number link to number at
abbrev pub relinked : Head → ℕ → ℕ → Head
relinked h link at =
    record {
      kind = h.kind;
      flags = h.flags;
      figure = h.figure;
      scale = h.scale;
      bytes_4_7 = h.bytes_4_7;
      first = moved_link h.first link at;
      next = moved_link h.next link at;
      name = h.name;
      name_len = h.name_len;
      byte_15 = h.byte_15;
    }

-- a head whose labels belong at a place
abbrev pub relabelled : Head → ℕ → Head
relabelled h label =
    record {
      kind = h.kind;
      flags = h.flags;
      figure = h.figure;
      scale = h.scale;
      bytes_4_7 = cond (zoned_in h) (moved_label (label + h.name_len) (zone_len h) + 65536 * zone_len h) h.bytes_4_7;
      first = h.first;
      next = h.next;
      name = moved_label label h.name_len;
      name_len = h.name_len;
      byte_15 = h.byte_15;
    }

-- what is said of heads that were moved, whatever records' heads stood in s from number r on
abbrev pub HeadsMean : Space → List ℕ → ℕ → List ℕ → ℕ → ℕ → Place → Written → Type 0
HeadsMean space s r v link count to (Ok d) =
    ((d.at ≡ to.at + count) × ((to.label ≤ d.label) × (d.label ≤ space.m)))
    × ((o : ℕ) (xs : List Item) → Heads s r o xs → ItemsRight xs → length xs ≡ count → o + length (item_labels xs) ≤ space.m
    → (d.label ≡ to.label + length (item_labels xs)) × Heads (region space v) to.at to.label (moved_items link to.at xs))
HeadsMean space s r v link count to (Err NoType) = ⊥
HeadsMean space s r v link count to (Err Full) =
    (o : ℕ) (xs : List Item) → Heads s r o xs → ItemsRight xs → length xs ≡ count → o + length (item_labels xs) ≤ space.m
    → space.m < to.label + length (item_labels xs)

pub record MovedHeads (space : Space) (s : List ℕ) (r : ℕ) (w v : List ℕ) (link count : ℕ) (to : Place) (o : Written) : Type 0 where
  pub kept : Kept space w v to.at space.m
  pub means : HeadsMean space s r v link count to o

-- where the labels of whatever records stand from number link up to end begin, where there are any
pub record LabelsBegin (s : List ℕ) (link end r : ℕ) : Type 0 where
  pub short : r < 65536
  pub begin : (o : ℕ) (xs : List Item) → Heads s link o xs → ItemsRight xs → link + length xs ≡ end → o + length (item_labels xs) < 65536
      → 0 < length (item_labels xs) → r ≡ o
