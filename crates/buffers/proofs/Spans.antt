-- Records that stand one behind the other, each by itself, and the records of a chain. Assumes nothing.
use mathlib.Core.Path.{◌≡◌, refl, ap, ap₂, sym, subst₂, ◌∙◌}
use mathlib.Core.List.{List, [], ◌∷◌, ◌++◌, append_assoc}
use Prim.Native.Nat.{ℕ, ◌+◌, ◌*◌, ◌-◌, ◌<◌, ◌≤◌}
use native.Mathlib.Omega.{arith}
use lib.ListN.{length, length-append}
use Rattle.sheet.specs.Types.{Fields, end, field, count, own_labels, labels}
use Rattle.sheet.specs.Encode.{link_to, head_of}
use Rattle.sheet.specs.Carried.{FieldsRight}
use Rattle.sheet.specs.Holds.{Span, Holds}
use Rattle.sheet.specs.declared.Head.{Head}
use Rattle.sheet.proofs.Spans.{span_join, span_left, span_right, span_nil, span_move}
use Rattle.buffers.specs.Region.{moved_link}
use Rattle.buffers.specs.Span.{Item, item_labels, Strip, ItemsRight, moved_item, moved_items, Heads}
use Rattle.buffers.proofs.Copying.{moved_link_lem}

-- the head of a record by itself, whose labels begin at o
abbrev pub item_head : ℕ → Item → Head
item_head o x = head_of o x.name x.nullable x.shape x.first x.next

-- how many label bytes a record has
abbrev pub own_length : Item → ℕ
own_length x = length (own_labels x.name x.shape)

-- the records of a chain whose first is number r: a record, its parts, and what follows it
unfoldable pub items_of : ℕ → Fields → List Item
items_of r end = []
items_of r (field name nullable shape parts rest) =
    record {
      name = name;
      nullable = nullable;
      shape = shape;
      first = link_to (r + 1) parts;
      next = link_to (r + 1 + count parts) rest;
    }
    ∷ (items_of (r + 1) parts ++ items_of (r + 1 + count parts) rest)

-- records behind others
pub labels_append : (xs ys : List Item) → item_labels (xs ++ ys) ≡ item_labels xs ++ item_labels ys
unfolding item_labels
labels_append [] ys = refl
labels_append (x ∷ xs) ys =
    ap (λ (l : List ℕ). own_labels x.name x.shape ++ l) (labels_append xs ys) ∙ sym (append_assoc (own_labels x.name x.shape) (item_labels xs) (item_labels ys))

pub labels_sum : (xs ys : List Item) → length (item_labels (xs ++ ys)) ≡ length (item_labels xs) + length (item_labels ys)
labels_sum xs ys = ap (λ (l : List ℕ). length l) (labels_append xs ys) ∙ length-append (item_labels xs) (item_labels ys)

pub labels_cons : (x : Item) (xs : List Item) → length (item_labels (x ∷ xs)) ≡ own_length x + length (item_labels xs)
unfolding item_labels
labels_cons x xs = length-append (own_labels x.name x.shape) (item_labels xs)

pub moved_append : (link at : ℕ) (xs ys : List Item) → moved_items link at (xs ++ ys) ≡ moved_items link at xs ++ moved_items link at ys
unfolding moved_items
moved_append link at [] ys = refl
moved_append link at (x ∷ xs) ys = ap (λ (l : List Item). moved_item link at x ∷ l) (moved_append link at xs ys)

pub right_append : (xs ys : List Item) → ItemsRight xs → ItemsRight ys → ItemsRight (xs ++ ys)
right_append [] ys a b = b
right_append (x ∷ xs) ys a b = (a.0, right_append xs ys a.1 b)

pub right_split : (xs ys : List Item) → ItemsRight (xs ++ ys) → ItemsRight xs × ItemsRight ys
right_split [] ys a = (tt, a)
right_split (x ∷ xs) ys a = let p = right_split xs ys a.1 in ((a.0, p.0), p.1)

module _ (s : List ℕ) (n : ℕ) where
  strip_at : {r q o u : ℕ} (xs : List Item) → r ≡ q → o ≡ u → Strip s n r o xs → Strip s n q u xs
  strip_at xs e f a = subst₂ (λ (i j : ℕ). Strip s n i j xs) e f a

  pub strip_append : (r o : ℕ) (xs ys : List Item) → Strip s n r o xs → Strip s n (r + length xs) (o + length (item_labels xs)) ys → Strip s n r o (xs ++ ys)
  unfolding item_labels
  strip_append r o [] ys a b = strip_at ys (omega arith) (omega arith) b
  strip_append r o (x ∷ xs) ys a b = (
    a.0,
    strip_append (r + 1) (o + own_length x) xs ys a.1 (strip_at ys (omega arith) (omega (arith, labels_cons x xs)) b),
  )

  pub strip_split : (r o : ℕ) (xs ys : List Item) → Strip s n r o (xs ++ ys) → Strip s n r o xs × Strip s n (r + length xs) (o + length (item_labels xs)) ys
  unfolding item_labels
  strip_split r o [] ys a = (tt, strip_at ys (omega arith) (omega arith) a)
  strip_split r o (x ∷ xs) ys a =
      let p = strip_split (r + 1) (o + own_length x) xs ys a.1 in
      ((a.0, p.0), strip_at ys (omega arith) (omega (arith, labels_cons x xs)) p.1)

  -- heads and labels apart
  pub strip_heads : (r o : ℕ) (xs : List Item) → Strip s n r o xs → Heads s r o xs
  strip_heads r o [] a = tt
  strip_heads r o (x ∷ xs) a = (a.0.head, strip_heads (r + 1) (o + own_length x) xs a.1)

  pub strip_labels : (r o : ℕ) (xs : List Item) → Strip s n r o xs → Span s (16 * n + o) (item_labels xs)
  unfolding item_labels
  strip_labels r o [] a = span_nil
  strip_labels r o (x ∷ xs) a =
      span_join (own_labels x.name x.shape) (item_labels xs) a.0.label (span_move (omega arith) (strip_labels (r + 1) (o + own_length x) xs a.1))

  pub strip_join : (r o : ℕ) (xs : List Item) → Heads s r o xs → Span s (16 * n + o) (item_labels xs) → Strip s n r o xs
  unfolding item_labels
  strip_join r o [] a b = tt
  strip_join r o (x ∷ xs) a b =
      let own = own_labels x.name x.shape in (
        record { head = a.0; label = span_left own (item_labels xs) b },
        strip_join (r + 1) (o + own_length x) xs a.1 (span_move (omega arith) (span_right own (item_labels xs) b)),
      )

-- the records of a chain
pub items_count : (r : ℕ) (t : Fields) → length (items_of r t) ≡ count t
unfolding items_of count
items_count r end = refl
items_count r (field name nullable shape parts rest) =
    omega (
      arith,
      length-append (items_of (r + 1) parts) (items_of (r + 1 + count parts) rest),
      items_count (r + 1) parts,
      items_count (r + 1 + count parts) rest,
    )

pub items_labels : (r : ℕ) (t : Fields) → item_labels (items_of r t) ≡ labels t
unfolding items_of item_labels labels
items_labels r end = refl
items_labels r (field name nullable shape parts rest) =
    ap (λ (l : List ℕ). own_labels name shape ++ l)
    (labels_append (items_of (r + 1) parts) (items_of (r + 1 + count parts) rest)
    ∙ ap₂ ◌++◌ (items_labels (r + 1) parts) (items_labels (r + 1 + count parts) rest))

pub items_right : (r up : ℕ) (t : Fields) → FieldsRight up t → ItemsRight (items_of r t)
unfolding items_of
items_right r up end a = tt
items_right r up (field name nullable shape parts rest) a = (
  record { known = a.0.known; own_zone = a.0.own_zone },
  right_append (items_of (r + 1) parts) (items_of (r + 1 + count parts) rest)
      (items_right (r + 1) shape.kind parts a.1.0)
      (items_right (r + 1 + count parts) up rest a.1.1),
)

module _ (s : List ℕ) (n : ℕ) where
  -- where the records of a rest stand, behind those of the parts
  behind : (r o : ℕ) (parts rest : Fields) → (r + length (items_of r parts) ≡ r + count parts) × (o + length (item_labels (items_of r parts)) ≡ o + length (labels parts))
  behind r o parts rest = (
    ap (λ (k : ℕ). r + k) (items_count r parts),
    ap (λ (l : List ℕ). o + length l) (items_labels r parts),
  )

  pub holds_strip : (r o : ℕ) (t : Fields) → Holds s n r o t → Strip s n r o (items_of r t)
  unfolding items_of
  holds_strip r o end a = tt
  holds_strip r o (field name nullable shape parts rest) a =
      let i = o + length (own_labels name shape) in
      let p = items_of (r + 1) parts in
      let q = items_of (r + 1 + count parts) rest in
      let b = behind (r + 1) i parts rest in (
        a.0,
        strip_append s n (r + 1) i p q (holds_strip (r + 1) i parts a.1.0)
            (strip_at s n q (sym b.0) (sym b.1) (holds_strip (r + 1 + count parts) (i + length (labels parts)) rest a.1.1)),
      )

  pub strip_holds : (r o : ℕ) (t : Fields) → Strip s n r o (items_of r t) → Holds s n r o t
  unfolding items_of
  strip_holds r o end a = tt
  strip_holds r o (field name nullable shape parts rest) a =
      let i = o + length (own_labels name shape) in
      let p = items_of (r + 1) parts in
      let q = items_of (r + 1 + count parts) rest in
      let b = behind (r + 1) i parts rest in
      let c = strip_split s n (r + 1) i p q a.1 in (
        a.0,
        (
          strip_holds (r + 1) i parts c.0,
          strip_holds (r + 1 + count parts) (i + length (labels parts)) rest (strip_at s n q b.0 b.1 c.1),
        ),
      )

-- a chain that was moved with what is before it, from number link to number at; its first record is number x
-- behind that
moved_behind : (link at x : ℕ) (t : Fields) → at + x + count t < 65536 → moved_items link at (items_of (link + x) t) ≡ items_of (at + x) t
unfolding items_of moved_items count
moved_behind link at x end h = refl
moved_behind link at x (field name nullable shape parts rest) h =
    let p = items_of (link + x + 1) parts in
    let q = items_of (link + x + 1 + count parts) rest in
    let e : link + x + 1 ≡ link + (x + 1) = omega arith in
    let f : link + x + 1 + count parts ≡ link + (x + 1 + count parts) = omega arith in
    let e' : at + (x + 1) ≡ at + x + 1 = omega arith in
    let f' : at + (x + 1 + count parts) ≡ at + x + 1 + count parts = omega arith in
    let first : moved_link (link_to (link + x + 1) parts) link at ≡ link_to (at + x + 1) parts =
    ap (λ (k : ℕ). moved_link (link_to k parts) link at) e ∙ moved_link_lem link at (x + 1) parts (omega arith) (omega arith) ∙ ap (λ (k : ℕ). link_to k parts) e' in
    let next : moved_link (link_to (link + x + 1 + count parts) rest) link at ≡ link_to (at + x + 1 + count parts) rest =
    ap (λ (k : ℕ). moved_link (link_to k rest) link at) f ∙ moved_link_lem link at (x + 1 + count parts) rest (omega arith) (omega arith) ∙ ap (λ (k : ℕ). link_to k rest) f' in
    let own : moved_item link at (record { name = name; nullable = nullable; shape = shape; first = link_to (link + x + 1) parts; next = link_to (link + x + 1 + count parts) rest })
    ≡ record { name = name; nullable = nullable; shape = shape; first = link_to (at + x + 1) parts; next = link_to (at + x + 1 + count parts) rest } =
    λ i. record { name = name; nullable = nullable; shape = shape; first = first i; next = next i } in
    ap₂ ◌∷◌ own
    (moved_append link at p q
    ∙ ap₂ ◌++◌
    (ap (λ (k : ℕ). moved_items link at (items_of k parts)) e ∙ moved_behind link at (x + 1) parts (omega arith) ∙ ap (λ (k : ℕ). items_of k parts) e')
    (ap (λ (k : ℕ). moved_items link at (items_of k rest)) f ∙ moved_behind link at (x + 1 + count parts) rest (omega arith) ∙ ap (λ (k : ℕ). items_of k rest) f'))

-- a chain that was moved with what is before it, from number link to number at
pub moved_chain : (link at r : ℕ) (t : Fields) → link ≤ r → at + (r - link) + count t < 65536 → moved_items link at (items_of r t) ≡ items_of (at + (r - link)) t
moved_chain link at r t h low =
    ap (λ (k : ℕ). moved_items link at (items_of k t)) {x = r} {y = link + (r - link)} (omega arith) ∙ moved_behind link at (r - link) t low
