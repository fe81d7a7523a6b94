-- Where the labels of records begin that stand one behind the other. Assumes nothing.
use mathlib.Core.Path.{◌≡◌, refl, ap, subst, ◌∙◌}
use mathlib.Core.Bool.{cond}
use mathlib.Core.List.{List, [], ◌∷◌}
use Prim.Native.Nat.{ℕ, ◌+◌, ◌%◌, ◌<◌, ◌≤◌}
use native.Mathlib.Omega.{arith}
use lib.ListN.{length, length-append}
use Rattle.sheet.specs.Types.{Zone, absent, present, zone_bytes}
use Rattle.sheet.specs.Head.{head_at, zoned_in, zone_at, zone_len, labelled}
use Rattle.sheet.specs.Encode.{offset, quad_of}
use Rattle.sheet.specs.Bounds.{Bounded}
use Rattle.sheet.specs.declared.Head.{Head}
use Rattle.sheet.proofs.Reading.{quad_place}
use Rattle.buffers.specs.Span.{Item, item_labels, ItemsRight, Heads, LabelsBegin}
use Rattle.buffers.proofs.Spans.{item_head, own_length, labels_cons}
use Rattle.buffers.proofs.Moving.{item_length}

name_some : (o : ℕ) (l : List ℕ) → ¬ (length l ≡ 0) → offset o l ≡ o
name_some o [] e = absurd (e refl)
name_some o (b ∷ bs) e = refl

zone_some : (o size : ℕ) (zone : Zone) → o < 65536 → 0 < length (zone_bytes zone) → quad_of o size zone % 65536 ≡ o
zone_some o size absent h pos = absurd (omega arith)
zone_some o size (present []) h pos = absurd (omega arith)
zone_some o size (present (b ∷ bs)) h pos = quad_place o (b ∷ bs) h

-- how far a walk over records is that looks for the first with labels
pub record Unlabelled (s : List ℕ) (at end o : ℕ) (xs : List Item) : Type 0 where
  pub rest : List Item
  pub heads : Heads s at o rest
  pub right : ItemsRight rest
  pub long : at + length rest ≡ end
  pub labels : length (item_labels rest) ≡ length (item_labels xs)

-- the same of whatever records stand there
pub record Seeking (s : List ℕ) (link end at : ℕ) : Type 0 where
  pub all : (o : ℕ) (xs : List Item) → Heads s link o xs → ItemsRight xs → link + length xs ≡ end → o + length (item_labels xs) < 65536 → Unlabelled s at end o xs

module _ {s : List ℕ} {link end at : ℕ} (k : Seeking s link end at) where
  module _ (h : Head) (eh : h ≡ head_at s at) (lt : at < end) where
    module _ (o : ℕ) (x : Item) (ys : List Item) (a : Heads s at o (x ∷ ys)) (p : ItemsRight (x ∷ ys)) (low : o + length (item_labels (x ∷ ys)) < 65536) where
      is : h ≡ item_head o x
      is = eh ∙ a.0

      name_low : o + length x.name < 65536
      name_low = omega (arith, low, labels_cons x ys, length-append x.name (zone_bytes x.shape.zone))

      name_long : h.name_len ≡ length x.name
      name_long = ap (λ (y : Head). y.name_len) is

      zone_long : (zlen : ℕ) → zlen ≡ cond (zoned_in h) (zone_len h) 0 → zlen ≡ length (zone_bytes x.shape.zone)
      zone_long zlen ez =
          omega (arith, ez, ap labelled is, item_length o x p.0 name_low, name_long, length-append x.name (zone_bytes x.shape.zone))

    found : (r : ℕ) → r < 65536
        → ((o : ℕ) (x : Item) (ys : List Item) → Heads s at o (x ∷ ys) → ItemsRight (x ∷ ys) → o + length (item_labels (x ∷ ys)) < 65536 → r ≡ o)
        → LabelsBegin s link end r
    found r short f =
        record {
          short = short;
          begin = λ o xs a p e low pos. let u = k.all o xs a p e low in go o u.rest u.heads u.right u.long (omega (arith, u.labels));
        }
      where
        go : (o : ℕ) (rest : List Item) → Heads s at o rest → ItemsRight rest → at + length rest ≡ end → o + length (item_labels rest) < 65536 → r ≡ o
        go o [] a p e low = absurd (omega arith)
        go o (x ∷ ys) a p e low = f o x ys a p low

    pub found_name : Bounded h → ¬ (h.name_len ≡ 0) → LabelsBegin s link end h.name
    found_name b q =
        found h.name b.name
        (λ o x ys a p low.
        ap (λ (y : Head). y.name) (is o x ys a p low) ∙ name_some o x.name (λ e. q (name_long o x ys a p low ∙ e)))

    pub found_zone : (zlen : ℕ) → zlen ≡ cond (zoned_in h) (zone_len h) 0 → h.name_len ≡ 0 → ¬ (zlen ≡ 0) → (r : ℕ) → r ≡ zone_at h → r < 65536 → LabelsBegin s link end r
    found_zone zlen ez none q r er short =
        found r short
        (λ o x ys a p low.
        er ∙ ap (λ (y : Head). y.bytes_4_7 % 65536) (is o x ys a p low)
        ∙ zone_some (o + length x.name) x.shape.size x.shape.zone (name_low o x ys a p low) (omega (arith, zone_long o x ys a p low zlen ez))
        ∙ omega (arith, name_long o x ys a p low))

    pub seeking_on : (zlen : ℕ) → zlen ≡ cond (zoned_in h) (zone_len h) 0 → h.name_len ≡ 0 → zlen ≡ 0 → Seeking s link end (at + 1)
    seeking_on zlen ez none zero = record { all = λ o xs a p e low. let u = k.all o xs a p e low in go o xs u u.rest u.heads u.right u.long u.labels low }
      where
        go : (o : ℕ) (xs : List Item) → Unlabelled s at end o xs → (rest : List Item) → Heads s at o rest → ItemsRight rest → at + length rest ≡ end
            → length (item_labels rest) ≡ length (item_labels xs) → o + length (item_labels xs) < 65536 → Unlabelled s (at + 1) end o xs
        go o xs u [] a p e l low = absurd (omega arith)
        go o xs u (x ∷ ys) a p e l low =
            let lo : o + length (item_labels (x ∷ ys)) < 65536 = omega arith in
            let none' : own_length x ≡ 0 =
            omega (arith, length-append x.name (zone_bytes x.shape.zone), name_long o x ys a p lo, zone_long o x ys a p lo zlen ez) in
            record {
              rest = ys;
              heads = subst (λ (i : ℕ). Heads s (at + 1) i ys) {x = o + own_length x} {y = o} (omega arith) a.1;
              right = p.1;
              long = omega arith;
              labels = omega (arith, labels_cons x ys);
            }

  pub found_none : end ≤ at → LabelsBegin s link end 0
  unfolding item_labels
  found_none stop =
      record {
        short = omega arith;
        begin = λ o xs a p e low pos. let u = k.all o xs a p e low in go u.rest u.long (omega (arith, u.labels));
      }
    where
      go : {o : ℕ} (rest : List Item) → at + length rest ≡ end → 0 < length (item_labels rest) → 0 ≡ o
      go [] e pos = absurd (omega arith)
      go (x ∷ ys) e pos = absurd (omega arith)
