-- A chain stands in bytes just where its records and its labels do. Assumes nothing.
use mathlib.Core.Path.{◌≡◌, refl, ap, sym, ◌∙◌}
use mathlib.Core.List.{List, ◌++◌}
use Prim.Native.Nat.{ℕ, ◌+◌, ◌*◌, ◌≤◌}
use native.Mathlib.Omega.{arith}
use lib.ListN.{length, length-append}
use lib.Seq.{take-length}
use Rattle.sheet.specs.Types.{Fields, end, field, count, own_labels, labels}
use Rattle.sheet.specs.Head.{bytes_of}
use Rattle.sheet.specs.Encode.{link_to, head_of, records, header, encode}
use Rattle.sheet.specs.Holds.{Plain, Span, Holds}
use Rattle.sheet.proofs.Spans.{span_join, span_left, span_right, span_whole, span_nil, span_move}
use Rattle.sheet.proofs.Heads.{head_span, span_head}

pub records_length : (r o : ℕ) (t : Fields) → length (records r o t) ≡ 16 * count t
unfolding records count
records_length r o end = refl
records_length r o (field name nullable shape parts rest) =
    let i = o + length (own_labels name shape) in
    omega (
      arith,
      length-append (records (r + 1) i parts) (records (r + 1 + count parts) (i + length (labels parts)) rest),
      records_length (r + 1) i parts,
      records_length (r + 1 + count parts) (i + length (labels parts)) rest,
    )

-- the bytes of a chain that stands in s
pub holds_records : (s : List ℕ) (n r o : ℕ) (t : Fields) → Plain s → 16 * (r + count t) ≤ length s → Holds s n r o t → Span s (16 * r) (records r o t)
unfolding records count
holds_records s n r o end plain h a = span_nil
holds_records s n r o (field name nullable shape parts rest) plain h a =
    let i = o + length (own_labels name shape) in
    let p = records (r + 1) i parts in
    let q = records (r + 1 + count parts) (i + length (labels parts)) rest in
    let b : Span s (16 * r) (bytes_of (head_of o name nullable shape (link_to (r + 1) parts) (link_to (r + 1 + count parts) rest))) =
    rw a.0.head at (head_span s r plain (omega arith)) in
    span_join (bytes_of (head_of o name nullable shape (link_to (r + 1) parts) (link_to (r + 1 + count parts) rest))) (p ++ q) b
    (span_join p q
    (span_move (omega arith) (holds_records s n (r + 1) i parts plain (omega arith) a.1.0))
    (span_move (omega (arith, records_length (r + 1) i parts))
    (holds_records s n (r + 1 + count parts) (i + length (labels parts)) rest plain (omega arith) a.1.1)))

pub holds_labels : (s : List ℕ) (n r o : ℕ) (t : Fields) → Holds s n r o t → Span s (16 * n + o) (labels t)
unfolding labels
holds_labels s n r o end a = span_nil
holds_labels s n r o (field name nullable shape parts rest) a =
    let i = o + length (own_labels name shape) in
    span_join (own_labels name shape) (labels parts ++ labels rest) a.0.label
    (span_join (labels parts) (labels rest)
    (span_move (omega arith) (holds_labels s n (r + 1) i parts a.1.0))
    (span_move (omega arith) (holds_labels s n (r + 1 + count parts) (i + length (labels parts)) rest a.1.1)))

pub spans_hold : (s : List ℕ) (n r o : ℕ) (t : Fields) → Span s (16 * r) (records r o t) → Span s (16 * n + o) (labels t) → Holds s n r o t
unfolding records labels
spans_hold s n r o end a b = tt
spans_hold s n r o (field name nullable shape parts rest) a b =
    let i = o + length (own_labels name shape) in
    let h = head_of o name nullable shape (link_to (r + 1) parts) (link_to (r + 1 + count parts) rest) in
    let p = records (r + 1) i parts in
    let q = records (r + 1 + count parts) (i + length (labels parts)) rest in
    let own = own_labels name shape in
    let a' = span_right (bytes_of h) (p ++ q) a in
    let b' = span_right own (labels parts ++ labels rest) b in (
      record { head = span_head s r h (span_left (bytes_of h) (p ++ q) a); label = span_left own (labels parts ++ labels rest) b },
      (
        spans_hold s n (r + 1) i parts (span_move (omega arith) (span_left p q a')) (span_move (omega arith) (span_left (labels parts) (labels rest) b')),
        spans_hold s n (r + 1 + count parts) (i + length (labels parts)) rest
            (span_move (omega (arith, records_length (r + 1) i parts)) (span_right p q a'))
            (span_move (omega arith) (span_right (labels parts) (labels rest) b')),
      ),
    )

-- what is encoded stands in its encoding
pub encode_holds : (t : Fields) → Holds (encode t) (1 + count t) 1 0 t
unfolding encode
encode_holds t =
    let n = 1 + count t in
    let m = length (labels t) in
    let a = span_right (header n m) (records 1 0 t ++ labels t) (span_whole (encode t)) in
    spans_hold (encode t) n 1 0 t
    (span_left (records 1 0 t) (labels t) a)
    (span_move (omega (arith, records_length 1 0 t)) (span_right (records 1 0 t) (labels t) a))

pub encode_length : (t : Fields) → length (encode t) ≡ 16 * (1 + count t) + length (labels t)
unfolding encode
encode_length t =
    omega (arith, length-append (header (1 + count t) (length (labels t))) (records 1 0 t ++ labels t), length-append (records 1 0 t) (labels t), records_length 1 0 t)

-- bytes of a length that have the header and hold the chain are its encoding
pub holds_encode : (s : List ℕ) (t : Fields) → Plain s → length s ≡ 16 * (1 + count t) + length (labels t) → Span s 0 (header (1 + count t) (length (labels t)))
    → Holds s (1 + count t) 1 0 t → encode t ≡ s
unfolding encode
holds_encode s t plain e h a =
    let n = 1 + count t in
    let m = length (labels t) in
    let w : Span s 0 (encode t) =
    span_join (header n m) (records 1 0 t ++ labels t) h
    (span_join (records 1 0 t) (labels t) (holds_records s n 1 0 t plain (omega arith) a)
    (span_move (omega (arith, records_length 1 0 t)) (holds_labels s n 1 0 t a))) in
    sym w.same ∙ ap (λ (k : ℕ). lib.ListN.take k s) (encode_length t ∙ sym e) ∙ take-length s
