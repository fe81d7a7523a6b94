-- What may be carried is accepted, and is read back. Assumes nothing.
use mathlib.Core.Path.{◌≡◌, refl, ap, sym, ◌∙◌}
use mathlib.Core.Bool.{Bool, true, false, cond, not}
use mathlib.Core.List.{List, [], ◌∷◌, ◌++◌, append-nil, append_assoc}
use Prim.Native.Nat.{ℕ, zero, suc, ◌+◌, ◌*◌, ◌-◌, ◌/◌, ◌%◌, ◌<◌, ◌≤◌}
use native.Mathlib.Omega.{arith}
use native.Mathlib.Decide.{dec_lt, ℕ_discrete}
use lib.ListN.{length, get_or, take, drop, length-append, replicate}
use lib.Dec.{eqb, ltb}
use borrow.Author.Tests.{eq-eqb, ne_eqb, lt-ltb, le-ltb}
use Rattle.sheet.specs.Booleans.{implies}
use Rattle.sheet.specs.Kind.{is_kind, names_parts}
use Rattle.sheet.specs.Types.{Zone, absent, present, Shape, Fields, end, field, count, zone_bytes, own_labels, labels}
use Rattle.sheet.specs.Head.{head_at, labelled}
use Rattle.sheet.specs.Encode.{link_to, offset, flags_of, quad_of, head_of, header, records, encode}
use Rattle.sheet.specs.Read.{records_of, labels_of, start, read}
use Rattle.sheet.specs.Refusals.{all_zero, torn, any_from, bad_kind, linked, bad_chain, Met, met, record_right, any_wrong, bad_figure, placed, label_right, misplaced, bad_label, refusal}
use Rattle.sheet.specs.Carried.{Label, is_named, is_zoned, FieldRight, FieldsRight, Carried}
use Rattle.sheet.specs.Holds.{Span, Holds}
use Rattle.sheet.proofs.Booleans.{all_nil, all_cons, one_nil, one_cons, not_of}
use Rattle.sheet.proofs.Spans.{at_eq, span_left, span_right, span_whole, span_at}
use Rattle.sheet.proofs.Chains.{encode_holds, encode_length}
use Rattle.sheet.proofs.Reading.{flag_nullable, flag_sorted, flag_zone, quad_place, quad_length, size_back, holds_walk}

-- each record of a chain that stands has a kind
holds_kinds : (s : List ℕ) (n r o up : ℕ) (t : Fields) → FieldsRight up t → Holds s n r o t → (j : ℕ) → r ≤ j → j < r + count t → is_kind (head_at s j).kind ≡ true
unfolding count
holds_kinds s n r o up end fine a j lo hi = absurd (omega arith)
holds_kinds s n r o up (field name nullable shape parts rest) fine a j lo hi =
    go (ℕ_discrete j r) (dec_lt j (r + 1 + count parts))
    (holds_kinds s n (r + 1) i shape.kind parts fine.1.0 a.1.0 j)
    (holds_kinds s n (r + 1 + count parts) (i + length (labels parts)) up rest fine.1.1 a.1.1 j)
  where
    i : ℕ
    i = o + length (own_labels name shape)

    go : Dec (j ≡ r) → Dec (j < r + 1 + count parts)
        → (r + 1 ≤ j → j < r + 1 + count parts → is_kind (head_at s j).kind ≡ true)
        → (r + 1 + count parts ≤ j → j < r + 1 + count parts + count rest → is_kind (head_at s j).kind ≡ true)
        → is_kind (head_at s j).kind ≡ true
    go (yes e) d f g = rw (e, a.0.head) fine.0.known
    go (no ne) (yes lt) f g = f (omega arith) lt
    go (no ne) (no ge) f g = g (omega arith) (omega arith)

any_none : (test : ℕ → Bool) (r k : ℕ) → ((j : ℕ) → r ≤ j → j < r + k → test j ≡ false) → any_from test r k ≡ false
any_none test r zero h = refl
any_none test r (suc k) h =
    rw (h r (omega arith) (omega arith)) (any_none test (r + 1) k (λ j lo hi. h j (omega arith) (omega arith)))

-- the links of a chain that stands
holds_linked : (s : List ℕ) (n r o up : ℕ) (t : Fields) → FieldsRight up t → Holds s n r o t → linked s (link_to r t) r t ≡ true
unfolding linked
holds_linked s n r o up end fine a = refl
holds_linked s n r o up (field name nullable shape parts rest) fine a =
    let i = o + length (own_labels name shape) in
    all_cons _ (eq-eqb r r refl)
    (all_cons _ (rw a.0.head fine.0.filled)
    (all_cons _ (rw a.0.head (holds_linked s n (r + 1) i shape.kind parts fine.1.0 a.1.0))
    (all_cons _ (rw a.0.head (holds_linked s n (r + 1 + count parts) (i + length (labels parts)) up rest fine.1.1 a.1.1)) all_nil)))

flags_small : (a b : Bool) (z : Zone) → ltb (flags_of a b z) 8 ≡ true
flags_small false false absent = refl
flags_small false false (present z) = refl
flags_small false true absent = refl
flags_small false true (present z) = refl
flags_small true false absent = refl
flags_small true false (present z) = refl
flags_small true true absent = refl
flags_small true true (present z) = refl

offset_small : (o : ℕ) (z : List ℕ) → offset o z ≤ o
offset_small o [] = omega arith
offset_small o (b ∷ bs) = omega arith

quad_small : (o size : ℕ) (zone : Zone) → o < 65536 → Label (zone_bytes zone) → implies (is_zoned zone) (ltb (quad_of o size zone) 16777216) ≡ true
quad_small o size absent h l = refl
quad_small o size (present z) h l = lt-ltb (offset o z + 65536 * length z) 16777216 (omega (arith, offset_small o z, l.short))

-- the record of a field has nothing of 4
record_right_lem : (o up : ℕ) (name : List ℕ) (nullable : Bool) (shape : Shape) (parts : Fields) (first next : ℕ) → FieldRight up name nullable shape parts
    → o + length name < 65536 → record_right (head_of o name nullable shape first next) up ≡ true
unfolding record_right
record_right_lem o up name nullable shape parts first next fine h =
    let w = o + length name in
    all_cons _
    (rw (size_back [] 0 w nullable shape.sorted shape.kind shape.figure shape.scale shape.size shape.zone fine.figures)
    (rw (flag_sorted nullable shape.sorted shape.zone) (rw (flag_zone nullable shape.sorted shape.zone) fine.figures)))
    (all_cons _ (rw (flag_nullable nullable shape.sorted shape.zone) fine.may_be_null)
    (all_cons _ (flags_small nullable shape.sorted shape.zone)
    (all_cons _ (rw (flag_zone nullable shape.sorted shape.zone) (quad_small w shape.size shape.zone h fine.own_zone))
    (all_cons _ refl all_nil))))

placed_own : (o : ℕ) (l : List ℕ) → placed o (offset o l) (length l) ≡ true
placed_own o [] = refl
placed_own o (b ∷ bs) = rw (ne_eqb (suc (length bs)) 0 (omega arith)) (eq-eqb o o refl)

named_own : (up : ℕ) (l : List ℕ) → implies (is_named l) (names_parts up) ≡ true → implies (not (eqb (length l) 0)) (names_parts up) ≡ true
named_own up [] h = refl
named_own up (b ∷ bs) h = rw (ne_eqb (suc (length bs)) 0 (omega arith)) h

zone_own : (o size : ℕ) (zone : Zone) → o < 65536 → Label (zone_bytes zone)
    → implies (is_zoned zone) (placed o (quad_of o size zone % 65536) (quad_of o size zone / 65536 % 256)) ≡ true
zone_own o size absent h l = refl
zone_own o size (present z) h l = rw (quad_place o z h) (rw (quad_length o z h l.short) (placed_own o z))

-- the labels of a field have nothing of 5
label_right_lem : (o up : ℕ) (name : List ℕ) (nullable : Bool) (shape : Shape) (parts : Fields) (first next : ℕ) → FieldRight up name nullable shape parts
    → o + length name < 65536 → label_right (head_of o name nullable shape first next) up o ≡ true
unfolding label_right
label_right_lem o up name nullable shape parts first next fine h =
    all_cons _ (placed_own o name)
    (all_cons _ (named_own up name fine.may_be_named)
    (all_cons _ (rw (flag_zone nullable shape.sorted shape.zone) (zone_own (o + length name) shape.size shape.zone h fine.own_zone)) all_nil))

pub zone_length_lem : (o size : ℕ) (zone : Zone) → o < 65536 → Label (zone_bytes zone) → cond (is_zoned zone) (quad_of o size zone / 65536 % 256) 0 ≡ length (zone_bytes zone)
zone_length_lem o size absent h l = refl
zone_length_lem o size (present z) h l = quad_length o z h l.short

pub own_length : (o : ℕ) (name : List ℕ) (nullable : Bool) (shape : Shape) (first next : ℕ) → Label (zone_bytes shape.zone) → o + length name < 65536
    → labelled (head_of o name nullable shape first next) ≡ length (own_labels name shape)
own_length o name nullable shape first next l h =
    ap (λ (k : ℕ). length name + k)
    (rw (flag_zone nullable shape.sorted shape.zone) (zone_length_lem (o + length name) shape.size shape.zone h l))
    ∙ sym (length-append name (zone_bytes shape.zone))

-- the records of a chain that stands have nothing of 4
holds_figures : (s : List ℕ) (n r o up : ℕ) (t : Fields) (ms : List Met) → FieldsRight up t → Holds s n r o t → o + length (labels t) < 65536
    → any_wrong s (met up r t ++ ms) ≡ any_wrong s ms
unfolding any_wrong met labels
holds_figures s n r o up end ms fine a low = refl
holds_figures s n r o up (field name nullable shape parts rest) ms fine a low =
    let i = o + length (own_labels name shape) in
    let e = length-append (own_labels name shape) (labels parts ++ labels rest) in
    let e' = length-append (labels parts) (labels rest) in
    rw a.0.head
    (rw (record_right_lem o up name nullable shape parts (link_to (r + 1) parts) (link_to (r + 1 + count parts) rest) fine.0 (omega (arith, length-append name (zone_bytes shape.zone))))
    (rw (append_assoc (met shape.kind (r + 1) parts) (met up (r + 1 + count parts) rest) ms)
    (holds_figures s n (r + 1) i shape.kind parts (met up (r + 1 + count parts) rest ++ ms) fine.1.0 a.1.0 (omega arith)
    ∙ holds_figures s n (r + 1 + count parts) (i + length (labels parts)) up rest ms fine.1.1 a.1.1 (omega arith))))

-- the labels of a chain that stands are in place
holds_placed : (s : List ℕ) (n r o up : ℕ) (t : Fields) (ms : List Met) → FieldsRight up t → Holds s n r o t → o + length (labels t) < 65536
    → misplaced s o (met up r t ++ ms) ≡ misplaced s (o + length (labels t)) ms
unfolding misplaced met labels
holds_placed s n r o up end ms fine a low = ap (λ (k : ℕ). misplaced s k ms) (omega arith)
holds_placed s n r o up (field name nullable shape parts rest) ms fine a low =
    let i = o + length (own_labels name shape) in
    let e = length-append (own_labels name shape) (labels parts ++ labels rest) in
    let e' = length-append (labels parts) (labels rest) in
    let b : o + length name < 65536 = omega (arith, length-append name (zone_bytes shape.zone)) in
    rw a.0.head
    (rw (label_right_lem o up name nullable shape parts (link_to (r + 1) parts) (link_to (r + 1 + count parts) rest) fine.0 b)
    (rw (own_length o name nullable shape (link_to (r + 1) parts) (link_to (r + 1 + count parts) rest) fine.0.own_zone b)
    (rw (append_assoc (met shape.kind (r + 1) parts) (met up (r + 1 + count parts) rest) ms)
    (holds_placed s n (r + 1) i shape.kind parts (met up (r + 1 + count parts) rest ++ ms) fine.1.0 a.1.0 (omega arith)
    ∙ holds_placed s n (r + 1 + count parts) (i + length (labels parts)) up rest ms fine.1.1 a.1.1 (omega arith)
    ∙ ap (λ (k : ℕ). misplaced s k ms) (omega arith)))))

start_link : (t : Fields) → start (1 + count t) ≡ link_to 1 t
unfolding count
start_link end = refl
start_link (field name nullable shape parts rest) = rw (lt-ltb 1 (1 + (1 + (count parts + count rest))) (omega arith))

module _ (t : Fields) (c : Carried t) where
  s : List ℕ
  s = encode t

  top : Span s 0 (header (1 + count t) (length (labels t)))
  unfolding s encode
  top = span_left (header (1 + count t) (length (labels t))) (records 1 0 t ++ labels t) (span_whole (encode t))

  encode_n : records_of s ≡ 1 + count t
  encode_n =
      let a : get_or s 0 0 ≡ (1 + count t) % 256 = at_eq s (omega arith) ∙ span_at 0 (omega arith) top in
      let b : get_or s (0 + 1) 0 ≡ (1 + count t) / 256 = span_at 1 (omega arith) top in
      omega arith

  encode_m : labels_of s ≡ length (labels t)
  encode_m =
      let a : get_or s 2 0 ≡ length (labels t) % 256 = at_eq s (omega arith) ∙ span_at 2 (omega arith) top in
      let b : get_or s (2 + 1) 0 ≡ length (labels t) / 256 = at_eq s (omega arith) ∙ span_at 3 (omega arith) top in
      omega arith

  -- `read (encode ts) ≡ ts`
  pub carried_read : read (encode t) ≡ t
  unfolding read s
  carried_read =
      rw encode_n
      (rw (start_link t)
      (holds_walk (1 + count t) (encode t) (1 + count t) 1 0 0 t c.right (encode_holds t) (omega arith) (omega arith) (omega arith) (omega (arith, c.short))))

  rest_zero : all_zero (take 12 (drop 4 s)) ≡ true
  rest_zero =
      let n = 1 + count t in
      let m = length (labels t) in
      rw (span_right (n % 256 ∷ n / 256 ∷ m % 256 ∷ m / 256 ∷ []) (replicate 12 0) top).same

  carried_torn : torn s ≡ false
  unfolding torn s
  carried_torn =
      let e = encode_length t in
      let n = encode_n in
      let m = encode_m in
      one_cons _ (le-ltb (length s) 16 (omega arith))
      (one_cons _ (le-ltb (records_of s) 1 (omega arith))
      (one_cons _ (le-ltb 1024 (records_of s) (omega (arith, c.few)))
      (one_cons _ (le-ltb 16384 (labels_of s) (omega (arith, c.short)))
      (one_cons _ (not_of (eq-eqb (length s) (16 * records_of s + labels_of s) (omega arith)))
      (one_cons _ (not_of rest_zero) one_nil)))))

  carried_kind : bad_kind s ≡ false
  unfolding bad_kind s
  carried_kind =
      any_none (λ r. not (is_kind (head_at s r).kind)) 1 (records_of s - 1)
      (λ j lo hi. not_of (holds_kinds s (1 + count t) 1 0 0 t c.right (encode_holds t) j lo (omega (arith, encode_n))))

  carried_chain : bad_chain s ≡ false
  unfolding bad_chain s
  carried_chain =
      not_of
      (all_cons _ (rw carried_read (rw encode_n (rw (start_link t) (holds_linked s (1 + count t) 1 0 0 t c.right (encode_holds t)))))
      (all_cons _ (rw carried_read (eq-eqb (count t) (records_of s - 1) (omega (arith, encode_n)))) all_nil))

  carried_figure : bad_figure s ≡ false
  unfolding bad_figure s any_wrong
  carried_figure =
      rw carried_read
      (ap (any_wrong s) (sym (append-nil (met 0 1 t)))
      ∙ holds_figures s (1 + count t) 1 0 0 t [] c.right (encode_holds t) (omega (arith, c.short)))

  carried_label : bad_label s ≡ false
  unfolding bad_label s misplaced
  carried_label =
      one_cons _
      (rw carried_read
      (ap (misplaced s 0) (sym (append-nil (met 0 1 t)))
      ∙ holds_placed s (1 + count t) 1 0 0 t [] c.right (encode_holds t) (omega (arith, c.short))
      ∙ not_of (eq-eqb (0 + length (labels t)) (labels_of s) (omega (arith, encode_m)))))
      (one_cons _ (rw carried_read (not_of c.differ)) one_nil)

  -- `encode ts` meets no condition 1 to 5
  pub carried_accepted : refusal (encode t) ≡ 0
  unfolding refusal s
  carried_accepted = rw carried_torn (rw carried_kind (rw carried_chain (rw carried_figure (rw carried_label refl))))
