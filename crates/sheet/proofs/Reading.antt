-- What stands in bytes is what is read from them. Assumes nothing.
use mathlib.Core.Path.{◌≡◌, refl, ap, ap₂, sym, ◌∙◌}
use mathlib.Core.Bool.{Bool, true, false, cond, ◌||◌}
use mathlib.Core.List.{List, [], ◌∷◌, ◌++◌}
use Prim.Native.Nat.{ℕ, zero, suc, ◌+◌, ◌*◌, ◌/◌, ◌%◌, ◌<◌, ◌≤◌}
use native.Mathlib.Omega.{arith}
use lib.ListN.{length, length-append}
use lib.Dec.{eqb, ltb}
use borrow.Author.Tests.{eq-eqb, ne_eqb, lt-ltb, le-ltb, eqb-true}
use Rattle.sheet.specs.Kind.{sized}
use Rattle.sheet.specs.Types.{Zone, absent, present, Shape, Fields, end, field, count, zone_bytes, own_labels, labels}
use Rattle.sheet.specs.Head.{head_at}
use Rattle.sheet.specs.Encode.{link_to, offset, flags_of, quad_of, head_of}
use Rattle.sheet.specs.Read.{start, label_at, field_of, walk_from}
use Rattle.sheet.specs.Refusals.{figures_right, size_right}
use Rattle.sheet.specs.Carried.{Label, FieldRight, FieldsRight, is_zoned}
use Rattle.sheet.specs.Holds.{Span, Stands, Holds}
use Rattle.sheet.specs.declared.Head.{Head}
use Rattle.sheet.proofs.Booleans.{all_at}
use Rattle.sheet.proofs.Spans.{span_left, span_right, span_move}

-- the link to the listed types
pub start_leads : (n : ℕ) (t : Fields) → n ≡ 1 + count t → start n ≡ link_to 1 t
unfolding count
start_leads n end e = rw (le-ltb 1 n (omega arith))
start_leads n (field name nullable shape parts rest) e = rw (lt-ltb 1 n (omega arith))

-- byte 1 says what it was made of
pub flag_nullable : (a b : Bool) (z : Zone) → eqb (flags_of a b z % 2) 1 ≡ a
flag_nullable false false absent = refl
flag_nullable false false (present z) = refl
flag_nullable false true absent = refl
flag_nullable false true (present z) = refl
flag_nullable true false absent = refl
flag_nullable true false (present z) = refl
flag_nullable true true absent = refl
flag_nullable true true (present z) = refl

pub flag_sorted : (a b : Bool) (z : Zone) → eqb (flags_of a b z / 2 % 2) 1 ≡ b
flag_sorted false false absent = refl
flag_sorted false false (present z) = refl
flag_sorted false true absent = refl
flag_sorted false true (present z) = refl
flag_sorted true false absent = refl
flag_sorted true false (present z) = refl
flag_sorted true true absent = refl
flag_sorted true true (present z) = refl

pub flag_zone : (a b : Bool) (z : Zone) → eqb (flags_of a b z / 4 % 2) 1 ≡ is_zoned z
flag_zone false false absent = refl
flag_zone false false (present z) = refl
flag_zone false true absent = refl
flag_zone false true (present z) = refl
flag_zone true false absent = refl
flag_zone true false (present z) = refl
flag_zone true true absent = refl
flag_zone true true (present z) = refl

-- a label at its place is read back, also an empty one
pub label_back : (s : List ℕ) (n o : ℕ) (l : List ℕ) → Span s (16 * n + o) l → label_at s n (offset o l) (length l) ≡ l
label_back s n o [] a = refl
label_back s n o (b ∷ bs) a = a.same

offset_le : (o : ℕ) (l : List ℕ) → offset o l ≤ o
offset_le o [] = omega arith
offset_le o (b ∷ bs) = omega arith

-- the place of a zone, in bytes 4 to 6
pub quad_place : (o : ℕ) (z : List ℕ) → o < 65536 → (offset o z + 65536 * length z) % 65536 ≡ offset o z
quad_place o z h = omega (arith, offset_le o z)

pub quad_length : (o : ℕ) (z : List ℕ) → o < 65536 → length z ≤ 255 → (offset o z + 65536 * length z) / 65536 % 256 ≡ length z
quad_length o z h k = omega (arith, offset_le o z)

-- a type with a zone is a Timestamp, which has no size
zoned_size : (k f c size : ℕ) (b : Bool) → figures_right k f c size b true ≡ true → size ≡ 0
unfolding figures_right size_right sized
zoned_size k f c size b h =
    let e : k ≡ 22 = eqb-true k 22 (all_at _ 3 h) in
    let g : cond (eqb k 31 || eqb k 34) (ltb size 2147483648) (eqb size 0) ≡ true = all_at _ 1 h in
    eqb-true size 0 (rw e at g)

module _ (s : List ℕ) (n o : ℕ) (nullable sorted : Bool) where
  pub size_back : (k f c size : ℕ) (zone : Zone) → figures_right k f c size sorted (is_zoned zone) ≡ true
      → cond (eqb (flags_of nullable sorted zone / 4 % 2) 1) 0 (quad_of o size zone) ≡ size
  size_back k f c size absent h = rw (flag_zone nullable sorted absent)
  size_back k f c size (present z) h = rw (flag_zone nullable sorted (present z)) (sym (zoned_size k f c size sorted h))

  zone_back : (size : ℕ) (zone : Zone) → o < 65536 → Label (zone_bytes zone) → Span s (16 * n + o) (zone_bytes zone)
      → cond (eqb (flags_of nullable sorted zone / 4 % 2) 1) (present (label_at s n (quad_of o size zone % 65536) (quad_of o size zone / 65536 % 256))) absent ≡ zone
  zone_back size absent h l a = rw (flag_zone nullable sorted absent)
  zone_back size (present z) h l a =
      rw (flag_zone nullable sorted (present z))
      (ap present (ap₂ (label_at s n) (quad_place o z h) (quad_length o z h l.short) ∙ label_back s n o z a))

shape_path : {a b : Shape} → a.kind ≡ b.kind → a.figure ≡ b.figure → a.scale ≡ b.scale → a.size ≡ b.size → a.sorted ≡ b.sorted → a.zone ≡ b.zone → a ≡ b
shape_path k f c z t w = λ i. record { kind = k i; figure = f i; scale = c i; size = z i; sorted = t i; zone = w i }

field_path : {l l' : List ℕ} {b b' : Bool} {h h' : Shape} (p q : Fields) → l ≡ l' → b ≡ b' → h ≡ h' → field l b h p q ≡ field l' b' h' p q
field_path p q e f g = λ i. field (e i) (f i) (g i) p q

-- a record that stands is read as the field that it was made of
pub field_back : (s : List ℕ) (n r o up : ℕ) (name : List ℕ) (nullable : Bool) (shape : Shape) (parts rest : Fields) (first next : ℕ)
    → FieldRight up name nullable shape parts → o + length name < 65536 → Stands s n r o name nullable shape first next
    → field_of s n (head_of o name nullable shape first next) parts rest ≡ field name nullable shape parts rest
field_back s n r o up name nullable shape parts rest first next fine h a =
    let z = zone_bytes shape.zone in
    field_path parts rest (label_back s n o name (span_left name z a.label)) (flag_nullable nullable shape.sorted shape.zone)
    (shape_path {b = shape} refl refl refl
    (size_back s n (o + length name) nullable shape.sorted shape.kind shape.figure shape.scale shape.size shape.zone fine.figures)
    (flag_sorted nullable shape.sorted shape.zone)
    (zone_back s n (o + length name) nullable shape.sorted shape.size shape.zone h fine.own_zone
    (span_move (omega arith) (span_right name z a.label))))

-- one step of a walk, at the record that is due
pub walk_step : (f : ℕ) (s : List ℕ) (n r : ℕ) (h : Head) (p q : Fields) → r < n → head_at s r ≡ h → walk_from f s n h.first (r + 1) ≡ p
    → walk_from f s n h.next (r + 1 + count p) ≡ q → walk_from (suc f) s n r r ≡ field_of s n h p q
unfolding walk_from
walk_step f s n r h p q lt e a b = rw (eq-eqb r r refl, lt-ltb r n lt) (rw e (rw a (rw b refl)))

-- a walk along a link to nowhere
pub walk_end : (f : ℕ) (s : List ℕ) (n r : ℕ) → 0 < r → walk_from f s n 0 r ≡ end
unfolding walk_from
walk_end zero s n r h = refl
walk_end (suc f) s n r h = rw (ne_eqb 0 r (omega arith))

-- a chain that stands is the chain that is walked
pub holds_walk : (f : ℕ) (s : List ℕ) (n r o up : ℕ) (t : Fields) → FieldsRight up t → Holds s n r o t → 0 < r → r + count t ≤ n → count t ≤ f
    → o + length (labels t) < 65536 → walk_from f s n (link_to r t) r ≡ t
unfolding count labels
holds_walk f s n r o up end fine a pos in' fuel low = walk_end f s n r pos
holds_walk zero s n r o up (field name nullable shape parts rest) fine a pos in' fuel low = absurd (omega arith)
holds_walk (suc f) s n r o up (field name nullable shape parts rest) fine a pos in' fuel low =
    let i = o + length (own_labels name shape) in
    let h = head_of o name nullable shape (link_to (r + 1) parts) (link_to (r + 1 + count parts) rest) in
    let e = length-append (own_labels name shape) (labels parts ++ labels rest) in
    let e' = length-append (labels parts) (labels rest) in
    walk_step f s n r h parts rest (omega arith) a.0.head
    (holds_walk f s n (r + 1) i shape.kind parts fine.1.0 a.1.0 (omega arith) (omega arith) (omega arith) (omega arith))
    (holds_walk f s n (r + 1 + count parts) (i + length (labels parts)) up rest fine.1.1 a.1.1 (omega arith) (omega arith) (omega arith) (omega arith))
    ∙ field_back s n r o up name nullable shape parts rest (link_to (r + 1) parts) (link_to (r + 1 + count parts) rest) fine.0
    (omega (arith, length-append name (zone_bytes shape.zone))) a.0
