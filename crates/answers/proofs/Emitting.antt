-- What stands in an output after the writes. Assumes nothing.
use mathlib.Core.Path.{◌≡◌, refl, ap, ap₂, sym, ◌∙◌}
use mathlib.Core.List.{List, ◌++◌}
use Prim.Native.Nat.{ℕ, ◌+◌, ◌*◌, ◌-◌, ◌≤◌}
use native.Mathlib.Omega.{arith}
use lib.ListN.{length, get_or, take, drop, length-append, length-drop, take-append-drop}
use lib.Seq.{ext_get_or, get_or-drop, drop-drop}
use Rattle.sheet.specs.Types.{Fields, count, labels}
use Rattle.sheet.specs.Encode.{header, records, encode}
use Rattle.sheet.specs.Holds.{Plain, Span}
use Rattle.sheet.proofs.Spans.{span_join, span_move}
use Rattle.sheet.proofs.Chains.{records_length, holds_records, holds_labels}
use Rattle.sheet.specs.Writes.{Put}
use Rattle.buffers.specs.Region.{Room, Inside, Wrote}
use Rattle.buffers.specs.declared.Space.{Space}
use Rattle.buffers.specs.declared.Place.{Place}
use Rattle.sheet.proofs.Puts.{put_list, put_part}
use Rattle.buffers.proofs.Frames.{span_frame}
use Rattle.resolution.specs.Reached.{front}
use Rattle.answers.specs.Call.{at_front}

-- bytes that are the same from k on
pub drop_same : (k : ℕ) (a b : List ℕ) → length a ≡ length b → ((j : ℕ) → k ≤ j → get_or a j 0 ≡ get_or b j 0) → drop k a ≡ drop k b
drop_same k a b l f =
    ext_get_or 0 (drop k a) (drop k b) (length-drop k a ∙ ap (λ (n : ℕ). n - k) l ∙ sym (length-drop k b))
    (λ j q. get_or-drop k a j 0 ∙ f (k + j) (omega arith) ∙ sym (get_or-drop k b j 0))

-- three writes in a row, from the front on
pub puts_front : (out a b c x y z : List ℕ) (i j : ℕ) → i ≡ length x → j ≡ length x + length y → Put out a 0 x → Put a b i y → Put b c j z
    → c ≡ at_front (x ++ (y ++ z)) out
puts_front out a b c x y z i j ei ej p q r =
    let n = length (x ++ (y ++ z)) in
    let len : n ≡ length x + (length y + length z) = length-append x (y ++ z) ∙ ap (λ (k : ℕ). length x + k) (length-append y z) in
    let long : length c ≡ length out = r.long ∙ q.long ∙ p.long in
    let sx : Span c 0 x =
    span_frame c x (r.long ∙ q.long) (λ k lo hi. r.below k (omega arith) ∙ q.below k (omega arith)) p.span in
    let sy : Span c i y = span_frame c y r.long (λ k lo hi. r.below k (omega arith)) q.span in
    let s : Span c 0 (x ++ (y ++ z)) =
    span_join x (y ++ z) sx (span_join y z (span_move (omega arith) sy) (span_move (omega arith) r.span)) in
    let rest : drop n c ≡ drop n out =
    drop_same n c out long (λ k le. r.above k (omega arith) ∙ q.above k (omega arith) ∙ p.above k (omega arith)) in
    sym (take-append-drop n c) ∙ ap₂ ◌++◌ s.same rest

module _ (space : Space) (d : Place) (w : List ℕ) (plain : Plain w) (room : Room w space) (inside : Inside space d) (t : Fields) (wrote : Wrote space w front d t) where
  -- the records and the labels of what was written, as parts of the work space
  records_are : take (space.half + 16 * d.at - (space.half + 16)) (drop (space.half + 16) w) ≡ records 1 0 t
  records_are =
      let v = drop space.half w in
      let s = holds_records v space.n 1 0 t (λ i. let e : get_or v i 0 ≡ get_or w (space.half + i) 0 = get_or-drop space.half w i 0 in omega (arith, plain (space.half + i)))
      (omega (arith, length-drop space.half w, room.inside, room.half, inside.records, wrote.records)) wrote.holds in
      let e : space.half + 16 * d.at - (space.half + 16) ≡ length (records 1 0 t) = omega (arith, wrote.records, records_length 1 0 t) in
      ap₂ (λ (k : ℕ) (l : List ℕ). take k l) e (sym (drop-drop 16 space.half w)) ∙ s.same

  labels_are : take (space.half + 16 * space.n + d.label - (space.half + 16 * space.n)) (drop (space.half + 16 * space.n) w) ≡ labels t
  labels_are =
      let s = holds_labels (drop space.half w) space.n 1 0 t wrote.holds in
      let e : space.half + 16 * space.n + d.label - (space.half + 16 * space.n) ≡ length (labels t) = omega (arith, wrote.letters) in
      let f : space.half + 16 * space.n ≡ space.half + (16 * space.n + 0) = omega arith in
      ap₂ (λ (k : ℕ) (l : List ℕ). take k l) e (ap (λ (k : ℕ). drop k w) f ∙ sym (drop-drop (16 * space.n + 0) space.half w)) ∙ s.same

  -- the header, then a copy of the records and one of the labels: the sheet of what was written
  pub emitted : (out a u v p q : List ℕ) (j k : ℕ) → space.half ≤ length out → a ≡ header d.at d.label ++ drop 16 out
      → u ≡ take (space.half + 16 * d.at - (space.half + 16)) (drop (space.half + 16) w) → j ≡ length a - 16
      → p ≡ take (length u) u ++ drop (length u) (take j (drop 16 a))
      → v ≡ take (space.half + 16 * space.n + d.label - (space.half + 16 * space.n)) (drop (space.half + 16 * space.n) w)
      → k ≡ length (take 16 a ++ (p ++ drop j (drop 16 a))) - 16 * d.at
      → q ≡ take (length v) v ++ drop (length v) (take k (drop (16 * d.at) (take 16 a ++ (p ++ drop j (drop 16 a)))))
      → take (16 * d.at) (take 16 a ++ (p ++ drop j (drop 16 a))) ++ (q ++ drop k (drop (16 * d.at) (take 16 a ++ (p ++ drop j (drop 16 a))))) ≡ at_front (encode t) out
  unfolding encode
  emitted out a u v p q j k long ea eu ej ep ev ek eq =
      let m = length (labels t) in
      let eh : header d.at d.label ≡ header (1 + count t) m = ap₂ header wrote.records (omega (arith, wrote.letters)) in
      let lu : length u ≡ 16 * count t = ap length (eu ∙ records_are) ∙ records_length 1 0 t in
      let lv : length v ≡ m = ap length (ev ∙ labels_are) in
      let first : Put out a 0 (header (1 + count t) m) =
      put_list out a (header (1 + count t) m) 0 (omega (arith, room.half, inside.some, inside.records)) (ea ∙ ap (λ (l : List ℕ). l ++ drop 16 out) eh) in
      let second = put_part a u p 16 j (omega (arith, first.long, room.half, inside.records, wrote.records)) ej ep in
      let third = put_part (take 16 a ++ (p ++ drop j (drop 16 a))) v q (16 * d.at) k
      (omega (arith, second.long, first.long, room.half, inside.records, inside.letters, wrote.letters)) ek eq in
      puts_front out a (take 16 a ++ (p ++ drop j (drop 16 a))) _ (header (1 + count t) m) (records 1 0 t) (labels t) 16 (16 * d.at) refl
      (omega (arith, wrote.records, records_length 1 0 t)) first (rw (eu ∙ records_are) at second) (rw (ev ∙ labels_are) at third)
