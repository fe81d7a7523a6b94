-- Wrappers whose records were copied in one go, and the value that was written behind them. Assumes nothing.
use mathlib.Core.Path.{◌≡◌, refl, ap, ap₂, sym, subst, subst₂, ◌∙◌}
use mathlib.Core.Bool.{Bool}
use mathlib.Core.List.{List, [], ◌∷◌, ◌++◌}
use mathlib.Core.Logic.{inl, inr, ⊎_elim}
use Prim.Native.Nat.{ℕ, ◌+◌, ◌-◌, ◌<◌, ◌≤◌}
use native.Mathlib.Omega.{arith}
use lib.ListN.{length, take, length-append}
use Rattle.std.proofs.Math.Seq.{take-append_seam}
use Rattle.std.proofs.lemmas.List.{append_assoc, append-nil}
use Rattle.sheet.specs.Types.{Shape, Fields, field, count, own_labels, labels}
use Rattle.sheet.specs.Encode.{link_to}
use Rattle.sheet.specs.Head.{head_at}
use Rattle.sheet.specs.Holds.{Holds}
use Rattle.coercion.specs.Data.{DataType, size}
use Rattle.buffers.specs.Region.{region, Kept, Held, Inside, Short, Wrote}
use Rattle.buffers.specs.Typed.{Typed}
use Rattle.buffers.specs.Span.{Item, item_labels, Strip, ItemsRight, moved_items, CopiedSpan}
use Rattle.buffers.specs.declared.Space.{Space}
use Rattle.buffers.specs.declared.Place.{Place}
use Rattle.std.specs.Prelude.{Ok, Err}
use Rattle.buffers.specs.declared.Failure.TheVariants.{Full}
use Rattle.buffers.proofs.Frames.{stands_frame}
use Rattle.buffers.proofs.Chained.{held_first}
use Rattle.buffers.proofs.Moving.{moved_count}
use Rattle.buffers.proofs.Spans.{items_of, items_count, items_labels, items_right, holds_strip, strip_holds, strip_append, strip_split, labels_sum, labels_cons, moved_append, right_split, moved_chain}
use Rattle.merge.specs.Descent.{Wrapper, alone, nest}

-- the parts of a wrapper: the first, and the wrappers on the way to a field
abbrev pub filled : List ℕ → Bool → Shape → Fields → List Wrapper → List ℕ → Bool → DataType → Fields
filled n b part p zs name nullable t = field n b part p (nest zs (alone name nullable t))

-- the records of a chain up to its last field, whose type may be another
pub record Front (r : ℕ) (make : DataType → Fields) (name : List ℕ) (nullable : Bool) : Type 0 where
  pub items : List Item
  pub is : (t : DataType) → items_of r (make t) ≡ items ++ items_of (r + length items) (alone name nullable t)

-- the record of a wrapper's first part, and that of a wrapper below another
abbrev part_item : ℕ → List ℕ → Bool → Shape → Fields → Item
part_item r n b part p = record { name = n; nullable = b; shape = part; first = link_to (r + 1) p; next = r + 1 + count p }

abbrev own_item : ℕ → Wrapper → Item
own_item r z = record { name = z.name; nullable = z.nullable; shape = z.shape; first = r + 1; next = 0 }

pub front : (r : ℕ) (n : List ℕ) (b : Bool) (part : Shape) (p : Fields) (zs : List Wrapper) (name : List ℕ) (nullable : Bool) → Front r (filled n b part p zs name nullable) name nullable
unfolding nest items_of
front r n b part p [] name nullable =
    let xs = items_of (r + 1) p in
    record {
      items = part_item r n b part p ∷ xs;
      is =
          λ t.
          ap (λ (i : ℕ). part_item r n b part p ∷ (xs ++ items_of i (alone name nullable t))) {x = r + 1 + count p} {y = r + length (part_item r n b part p ∷ xs)} (omega (arith, items_count (r + 1) p));
    }
front r n b part p (z ∷ zs) name nullable =
    let i = r + 1 + count p in
    let xs = items_of (r + 1) p in
    let f = front (i + 1) z.part_name z.part_nullable z.part z.part_parts zs name nullable in
    let ys = own_item i z ∷ f.items in
    record {
      items = part_item r n b part p ∷ (xs ++ ys);
      is =
          λ t.
          ap (λ (l : List Item). part_item r n b part p ∷ (xs ++ (own_item i z ∷ l))) (append-nil (items_of (i + 1) (filled z.part_name z.part_nullable z.part z.part_parts zs name nullable t)) ∙ f.is t)
          ∙ ap (λ (l : List Item). part_item r n b part p ∷ l) (sym (append_assoc xs ys (items_of (i + 1 + length f.items) (alone name nullable t))))
          ∙ ap (λ (k : ℕ). (part_item r n b part p ∷ (xs ++ ys)) ++ items_of k (alone name nullable t)) {x = i + 1 + length f.items} {y = r + length (part_item r n b part p ∷ (xs ++ ys))}
          (omega (arith, items_count (r + 1) p, length-append xs ys));
    }

-- a field alone has the records of its type
pub alone_count : (name : List ℕ) (nullable : Bool) (t : DataType) → count (alone name nullable t) ≡ size t
unfolding count
alone_count name nullable t = omega arith

-- how many records and labels the front has
module _ {r : ℕ} {make : DataType → Fields} {name : List ℕ} {nullable : Bool} (f : Front r make name nullable) (t : DataType) where
  front_records : count (make t) ≡ length f.items + size t
  unfolding count
  front_records =
      omega
      (arith, items_count r (make t), ap (λ (l : List Item). length l) (f.is t), length-append f.items (items_of (r + length f.items) (alone name nullable t)), items_count (r + length f.items) (alone name nullable t))

  front_letters : length (labels (make t)) ≡ length (item_labels f.items) + length (labels (alone name nullable t))
  front_letters =
      ap (λ (l : List ℕ). length l) (sym (items_labels r (make t))) ∙ ap (λ (l : List Item). length (item_labels l)) (f.is t)
      ∙ labels_sum f.items (items_of (r + length f.items) (alone name nullable t))
      ∙ ap (λ (l : List ℕ). length (item_labels f.items) + length l) (items_labels (r + length f.items) (alone name nullable t))

-- lists that begin with as many items
same_front : {A : Type 0} (xs ys us vs : List A) → length xs ≡ length ys → xs ++ us ≡ ys ++ vs → xs ≡ ys
same_front xs ys us vs e q = sym (take-append_seam xs us) ∙ ap₂ (λ (n : ℕ) (l : List _). take n l) e q ∙ take-append_seam ys vs

-- what stands before a place stays
strip_frame : {space : Space} (w v : List ℕ) {at label : ℕ} → Kept space w v at label → (r o : ℕ) (xs : List Item) → r + length xs ≤ at → o + length (item_labels xs) ≤ label
    → Strip (region space w) space.n r o xs → Strip (region space v) space.n r o xs
strip_frame w v k r o [] h g a = tt
strip_frame {space} w v {at} {label} k r o (x ∷ xs) h g a = (
  stands_frame space w v at label r o (omega arith) (omega (arith, labels_cons x xs)) k a.0,
  strip_frame w v k (r + 1) (o + length (own_labels x.name x.shape)) xs (omega arith) (omega (arith, labels_cons x xs)) a.1,
)

-- a wrapper x at record l, and below it the type t of record i
pub record Cut (l i : ℕ) (x t : DataType) : Type 0 where
  pub n : List ℕ
  pub b : Bool
  pub part : Shape
  pub p : Fields
  pub zs : List Wrapper
  pub name : List ℕ
  pub nullable : Bool
  pub is : x.parts ≡ filled n b part p zs name nullable t
  pub ends : i + size t ≡ l + size x

module _ {l i : ℕ} {x t : DataType} (c : Cut l i x t) where
  -- its parts with another type there
  abbrev pub with_type : DataType → Fields
  with_type u = filled c.n c.b c.part c.p c.zs c.name c.nullable u

  abbrev pub front_at : (r : ℕ) → Front r (filled c.n c.b c.part c.p c.zs c.name c.nullable) c.name c.nullable
  front_at r = front r c.n c.b c.part c.p c.zs c.name c.nullable

  abbrev pub front_items : ℕ → List Item
  front_items r = (front_at r).items

  abbrev behind : (r : ℕ) → List Item
  behind r = items_of (r + length (front_items r)) (alone c.name c.nullable t)

  records : (r : ℕ) → count x.parts ≡ length (front_items r) + size t
  records r = ap (λ (f : Fields). count f) c.is ∙ front_records (front_at r) t

  letters_of : (r : ℕ) → length (labels x.parts) ≡ length (item_labels (front_items r)) + length (labels (alone c.name c.nullable t))
  letters_of r = ap (λ (f : Fields). length (labels f)) c.is ∙ front_letters (front_at r) t

  -- copied and moved, the records behind the wrapper's own are those of a chain that begins there
  moved : (at : ℕ) → at + count x.parts < 65536 → moved_items (l + 1) at (front_items (l + 1)) ≡ front_items at
  moved at h =
      same_front (moved_items (l + 1) at (front_items (l + 1))) (front_items at) (moved_items (l + 1) at (behind (l + 1))) (behind at)
      (omega (arith, moved_count (l + 1) at (front_items (l + 1)), records (l + 1), records at))
      (sym (moved_append (l + 1) at (front_items (l + 1)) (behind (l + 1)))
      ∙ ap (moved_items (l + 1) at) (sym ((front_at (l + 1)).is t)) ∙ moved_chain (l + 1) at (l + 1) (with_type t) (omega arith) (omega (arith, ap (λ (f : Fields). count f) c.is))
      ∙ ap (λ (r : ℕ). items_of r (with_type t)) {x = at + (l + 1 - (l + 1))} {y = at} (omega arith) ∙ (front_at at).is t)

-- the records behind its own, which are copied in one go
module _ {space : Space} {s : List ℕ} {l i : ℕ} {x t : DataType} (a : Typed space s l x) (c : Cut l i x t) where
  held : Held space s l (head_at s l).first (l + 1) (a.chain.label + length (own_labels a.name x.shape)) x.shape.kind (with_type c t)
  held =
      subst₂ (λ (r : ℕ) (f : Fields). Held space s l (head_at s l).first (r + 1) (a.chain.label + length (own_labels a.name x.shape)) x.shape.kind f) (sym a.chain.held.source.leads.is) c.is
      (held_first a.chain.held (head_at s l) refl)

  -- they stand in the source
  stand : Strip s space.n (l + 1) (a.chain.label + length (own_labels a.name x.shape)) (front_items c (l + 1))
  stand =
      (strip_split s space.n (l + 1) (a.chain.label + length (own_labels a.name x.shape)) (front_items c (l + 1)) (items_of (l + 1 + length (front_items c (l + 1))) (alone c.name c.nullable t))
      (subst (λ (xs : List Item). Strip s space.n (l + 1) (a.chain.label + length (own_labels a.name x.shape)) xs) ((front_at c (l + 1)).is t)
      (holds_strip s space.n (l + 1) (a.chain.label + length (own_labels a.name x.shape)) (with_type c t) held.source.leads.holds))).0

  right : ItemsRight (front_items c (l + 1))
  right =
      (right_split (front_items c (l + 1)) (items_of (l + 1 + length (front_items c (l + 1))) (alone c.name c.nullable t))
      (subst (λ (xs : List Item). ItemsRight xs) ((front_at c (l + 1)).is t) (items_right (l + 1) x.shape.kind (with_type c t) held.source.right))).0

  place : l + 1 + length (front_items c (l + 1)) ≡ i
  place = omega (arith, c.ends, records c (l + 1))

  inside : i ≤ space.n
  inside = omega (arith, place, held.source.leads.inside, front_records (front_at c (l + 1)) t)

  low : a.chain.label + length (own_labels a.name x.shape) + length (item_labels (front_items c (l + 1))) ≤ space.m
  low = omega (arith, held.low, front_letters (front_at c (l + 1)) t)

  module _ {w v : List ℕ} {to : Place} where
    -- there is no room for them, and none for the parts
    pub parts_short : CopiedSpan space s w v (l + 1) i to (Err Full) → Short space to (count x.parts) (length (labels x.parts))
    parts_short k =
        ⊎_elim (λ q. inl (omega (arith, records c (l + 1)))) (λ q. inr (omega (arith, letters_of c (l + 1)))) (k.means _ (front_items c (l + 1)) stand right place inside low)

    module _ {d : Place} (k : CopiedSpan space s w v (l + 1) i to (Ok d)) where
      -- where the type begins that comes behind them
      pub span_records : d.at + size t ≡ to.at + count x.parts
      span_records = let m = k.means _ (front_items c (l + 1)) stand right place inside low in omega (arith, m.0, records c (l + 1))

      pub span_letters : d.label + length (labels (alone c.name c.nullable t)) ≡ to.label + length (labels x.parts)
      span_letters = let m = k.means _ (front_items c (l + 1)) stand right place inside low in omega (arith, m.1.0, letters_of c (l + 1))

      -- the parts, where that type is another
      module _ (few : space.n ≤ 1024) (ahead : Inside space to) {v' : List ℕ} (stays : Kept space v v' d.at d.label) {e : Place} (u : DataType) (wrote : Wrote space v' d e (alone c.name c.nullable u)) where
        short : to.at + count x.parts < 65536
        short = omega (arith, few, ahead.records, held.source.leads.inside, ap (λ (f : Fields). count f) c.is)

        at : to.at + length (front_items c to.at) ≡ d.at
        at = omega (arith, span_records, records c to.at)

        label : to.label + length (item_labels (front_items c to.at)) ≡ d.label
        label = omega (arith, span_letters, letters_of c to.at)

        front_stands : Strip (region space v') space.n to.at to.label (front_items c to.at)
        front_stands =
            strip_frame v v' stays to.at to.label (front_items c to.at) (omega (arith, at)) (omega (arith, label))
            (subst (λ (xs : List Item). Strip (region space v) space.n to.at to.label xs) (moved c to.at short) (k.means _ (front_items c (l + 1)) stand right place inside low).1.1)

        type_stands : Strip (region space v') space.n (to.at + length (front_items c to.at)) (to.label + length (item_labels (front_items c to.at)))
            (items_of (to.at + length (front_items c to.at)) (alone c.name c.nullable u))
        type_stands =
            holds_strip (region space v') space.n (to.at + length (front_items c to.at)) (to.label + length (item_labels (front_items c to.at))) (alone c.name c.nullable u)
            (subst₂ (λ (r o : ℕ). Holds (region space v') space.n r o (alone c.name c.nullable u)) (sym at) (sym label) wrote.holds)

        pub parts_wrote : Wrote space v' to e (with_type c u)
        parts_wrote =
            record {
              records = omega (arith, at, wrote.records, alone_count c.name c.nullable u, front_records (front_at c to.at) u);
              letters = omega (arith, label, wrote.letters, front_letters (front_at c to.at) u);
              holds =
                  strip_holds (region space v') space.n to.at to.label (with_type c u)
                  (subst (λ (xs : List Item). Strip (region space v') space.n to.at to.label xs) (sym ((front_at c to.at).is u))
                  (strip_append (region space v') space.n to.at to.label (front_items c to.at) (items_of (to.at + length (front_items c to.at)) (alone c.name c.nullable u)) front_stands type_stands));
            }
