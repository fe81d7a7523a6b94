-- What is accepted is the spelling of what is read from it, and may be carried. Assumes nothing.
use mathlib.Core.Path.{◌≡◌, refl, ap, ap₂, sym, ◌∙◌}
use mathlib.Core.Bool.{Bool, true, false, cond, not}
use mathlib.Core.List.{List, [], ◌∷◌}
use Prim.Native.Nat.{ℕ, zero, suc, ◌+◌, ◌*◌, ◌/◌, ◌%◌, ◌<◌, ◌≤◌}
use native.Mathlib.Omega.{arith}
use native.Mathlib.Decide.{dec_lt, ℕ_discrete}
use lib.ListN.{length, get_or, take, drop, length-append, length-take, get_or-eq_default}
use lib.Seq.{get_or-take, get_or-drop}
use lib.Dec.{eqb, ltb}
use borrow.Author.Tests.{eq-eqb, ne_eqb, ltb-true, eqb-true}
use Rattle.sheet.specs.Booleans.{implies}
use Rattle.sheet.specs.Kind.{is_kind, parts_right}
use Rattle.sheet.specs.Types.{absent, present, Fields, arity, zone_bytes, own_labels}
use Rattle.sheet.specs.Head.{nullable_in, zoned_in, size_in, zone_at, zone_len, labelled}
use Rattle.sheet.specs.Encode.{offset, flags_of, quad_of, head_of}
use Rattle.sheet.specs.Read.{labels_of, label_at, zone_of, shape_of}
use Rattle.sheet.specs.Refusals.{record_right, placed, label_right}
use Rattle.sheet.specs.Carried.{Label, is_named, is_zoned, FieldRight}
use Rattle.sheet.specs.Holds.{Plain, Span}
use Rattle.sheet.specs.declared.Head.{Head}
use Rattle.sheet.proofs.Booleans.{all_at}
use Rattle.sheet.proofs.Spans.{part_length, span_join, span_nil, span_move}

-- byte 1 is what it says
flags_made : (f : ℕ) (z : List ℕ) → f < 8 → flags_of (eqb (f % 2) 1) (eqb (f / 2 % 2) 1) (cond (eqb (f / 4 % 2) 1) (present z) absent) ≡ f
flags_made zero z h = refl
flags_made (suc zero) z h = refl
flags_made (suc (suc zero)) z h = refl
flags_made (suc (suc (suc zero))) z h = refl
flags_made (suc (suc (suc (suc zero)))) z h = refl
flags_made (suc (suc (suc (suc (suc zero))))) z h = refl
flags_made (suc (suc (suc (suc (suc (suc zero)))))) z h = refl
flags_made (suc (suc (suc (suc (suc (suc (suc zero))))))) z h = refl
flags_made (suc (suc (suc (suc (suc (suc (suc (suc f)))))))) z h = absurd (omega arith)

-- a label in its place, empty or not
offset_made : (o : ℕ) (l : List ℕ) (at len : ℕ) → length l ≡ len → placed o at len ≡ true → offset o l ≡ at
offset_made o [] at len e h = sym (eqb-true at 0 (rw (eq-eqb len 0 (sym e)) at h))
offset_made o (b ∷ bs) at len e h = sym (eqb-true at o (rw (ne_eqb len 0 (omega arith)) at h))

zero_part : (s : List ℕ) (i k : ℕ) → k ≡ 0 → take k (drop i s) ≡ []
zero_part s i k e = ap (λ (j : ℕ). take j (drop i s)) e

module _ (s : List ℕ) (n : ℕ) (plain : Plain s) (long : length s ≡ 16 * n + labels_of s) where
  -- the length of a label that is in its place
  label_length : (o at len : ℕ) → o + len ≤ labels_of s → placed o at len ≡ true → length (label_at s n at len) ≡ len
  label_length o at len h p = go (ℕ_discrete len 0)
    where
      go : Dec (len ≡ 0) → length (label_at s n at len) ≡ len
      go (yes e) = ap length (zero_part s (16 * n + at) len e) ∙ sym e
      go (no ne) =
          let e : at ≡ o = eqb-true at o (rw (ne_eqb len 0 ne) at p) in
          part_length s (16 * n + at) len (omega arith)

  label_span : (o at len : ℕ) → o + len ≤ labels_of s → placed o at len ≡ true → Span s (16 * n + o) (label_at s n at len)
  label_span o at len h p = go (ℕ_discrete len 0)
    where
      go : Dec (len ≡ 0) → Span s (16 * n + o) (label_at s n at len)
      go (yes e) = rw (zero_part s (16 * n + at) len e) span_nil
      go (no ne) =
          let e : at ≡ o = eqb-true at o (rw (ne_eqb len 0 ne) at p) in
          record { same = ap₂ (λ (k i : ℕ). take k (drop (16 * n + i) s)) (label_length o at len h p) (sym e) }

  part_plain : (i k j : ℕ) → get_or (take k (drop i s)) j 0 < 256
  part_plain i k j = go (dec_lt j k)
    where
      go : Dec (j < k) → get_or (take k (drop i s)) j 0 < 256
      go (yes lt) = rw (get_or-take k (drop i s) j 0 lt) (rw (get_or-drop i s j 0) (plain (i + j)))
      go (no ge) = rw (get_or-eq_default (take k (drop i s)) 0 {n = j} (omega (arith, length-take k (drop i s)))) (omega arith)

  label_label : (o at len : ℕ) → len < 256 → o + len ≤ labels_of s → placed o at len ≡ true → Label (label_at s n at len)
  label_label o at len b h p = record { short = omega (arith, label_length o at len h p); plain = part_plain (16 * n + at) len }

  -- a record that has nothing of 4 and 5, h its head and o the place of its labels
  module _ (h : Head) (up o : ℕ) (right : record_right h up ≡ true) (placed' : label_right h up o ≡ true) (in' : o + labelled h ≤ labels_of s) where
    abbrev name : List ℕ
    name = label_at s n h.name h.name_len

    name_placed : placed o h.name h.name_len ≡ true
    unfolding label_right
    name_placed = all_at _ 0 placed'

    name_inside : o + h.name_len ≤ labels_of s
    name_inside = omega (arith, in')

    name_length_lem : length name ≡ h.name_len
    name_length_lem = label_length o h.name h.name_len name_inside name_placed

    flags_right : h.flags < 8
    unfolding record_right
    flags_right = ltb-true h.flags 8 (all_at _ 2 right)

    -- the zone, where there is one
    module _ (z : zoned_in h ≡ true) where
      zone_placed : placed (o + h.name_len) (zone_at h) (zone_len h) ≡ true
      unfolding label_right
      zone_placed =
          let g : implies (zoned_in h) (placed (o + h.name_len) (zone_at h) (zone_len h)) ≡ true = all_at _ 2 placed' in
          rw z at g

      zone_inside : o + h.name_len + zone_len h ≤ labels_of s
      zone_inside =
          let g : o + (h.name_len + cond (zoned_in h) (zone_len h) 0) ≤ labels_of s = in' in
          let g' : o + (h.name_len + zone_len h) ≤ labels_of s = rw z at g in
          omega arith

      zone_length_lem : length (label_at s n (zone_at h) (zone_len h)) ≡ zone_len h
      zone_length_lem = label_length (o + h.name_len) (zone_at h) (zone_len h) zone_inside zone_placed

      quad_low : h.bytes_4_7 < 16777216
      unfolding record_right
      quad_low =
          let g : implies (zoned_in h) (ltb h.bytes_4_7 16777216) ≡ true = all_at _ 3 right in
          ltb-true h.bytes_4_7 16777216 (rw z at g)

      quad_zone : offset (o + length name) (label_at s n (zone_at h) (zone_len h)) + 65536 * length (label_at s n (zone_at h) (zone_len h)) ≡ h.bytes_4_7
      quad_zone =
          let e : offset (o + h.name_len) (label_at s n (zone_at h) (zone_len h)) ≡ zone_at h =
          offset_made (o + h.name_len) (label_at s n (zone_at h) (zone_len h)) (zone_at h) (zone_len h) zone_length_lem zone_placed in
          rw name_length_lem (omega (arith, e, zone_length_lem, quad_low))

    quad_made : quad_of (o + length name) (size_in h) (zone_of s n h) ≡ h.bytes_4_7
    quad_made = go (zoned_in h) refl
      where
        go : (b : Bool) → zoned_in h ≡ b → quad_of (o + length name) (cond b 0 h.bytes_4_7) (cond b (present (label_at s n (zone_at h) (zone_len h))) absent) ≡ h.bytes_4_7
        go true z = quad_zone z
        go false z = refl

    pub head_made : h ≡ head_of o name (nullable_in h) (shape_of s n h) h.first h.next
    unfolding record_right
    head_made =
        let e = sym (flags_made h.flags (label_at s n (zone_at h) (zone_len h)) flags_right) in
        let q = sym quad_made in
        let a = sym (offset_made o name h.name h.name_len name_length_lem name_placed) in
        let l = sym name_length_lem in
        let z = eqb-true h.byte_15 0 (all_at _ 4 right) in
        λ i. record { kind = h.kind; flags = e i; figure = h.figure; scale = h.scale; bytes_4_7 = q i; first = h.first; next = h.next; name = a i; name_len = l i; byte_15 = z i }

    zone_span : Span s (16 * n + o + length name) (zone_bytes (zone_of s n h))
    zone_span = go (zoned_in h) refl
      where
        go : (b : Bool) → zoned_in h ≡ b → Span s (16 * n + o + length name) (zone_bytes (cond b (present (label_at s n (zone_at h) (zone_len h))) absent))
        go true z =
            span_move (omega (arith, name_length_lem)) (label_span (o + h.name_len) (zone_at h) (zone_len h) (zone_inside z) (zone_placed z))
        go false z = span_nil

    pub own_span : Span s (16 * n + o) (own_labels name (shape_of s n h))
    own_span = span_join name (zone_bytes (zone_of s n h)) (label_span o h.name h.name_len name_inside name_placed) zone_span

    zone_label : Label (zone_bytes (zone_of s n h))
    zone_label = go (zoned_in h) refl
      where
        go : (b : Bool) → zoned_in h ≡ b → Label (zone_bytes (cond b (present (label_at s n (zone_at h) (zone_len h))) absent))
        go true z = label_label (o + h.name_len) (zone_at h) (zone_len h) (omega arith) (zone_inside z) (zone_placed z)
        go false z = record { short = omega arith; plain = λ i. omega arith }

    pub own_labelled : length (own_labels name (shape_of s n h)) ≡ labelled h
    own_labelled = length-append name (zone_bytes (zone_of s n h)) ∙ ap₂ ◌+◌ name_length_lem (go (zoned_in h) refl)
      where
        go : (b : Bool) → zoned_in h ≡ b → length (zone_bytes (cond b (present (label_at s n (zone_at h) (zone_len h))) absent)) ≡ cond b (zone_len h) 0
        go true z = zone_length_lem z
        go false z = refl

    zoned_is : is_zoned (zone_of s n h) ≡ zoned_in h
    zoned_is = go (zoned_in h)
      where
        go : (b : Bool) → is_zoned (cond b (present (label_at s n (zone_at h) (zone_len h))) absent) ≡ b
        go true = refl
        go false = refl

    named_is : is_named name ≡ not (eqb h.name_len 0)
    named_is = go name h.name_len name_length_lem
      where
        go : (l : List ℕ) (k : ℕ) → length l ≡ k → is_named l ≡ not (eqb k 0)
        go [] k e = rw (eq-eqb k 0 (sym e))
        go (b ∷ bs) k e = rw (ne_eqb k 0 (omega arith))

    pub field_made : (parts : Fields) → is_kind h.kind ≡ true → parts_right h.kind (arity parts) ≡ true → h.scale < 256 → h.name_len < 256
        → FieldRight up name (nullable_in h) (shape_of s n h) parts
    unfolding record_right label_right
    field_made parts k f c l =
        record {
          known = k;
          filled = f;
          figures = rw zoned_is (all_at _ 0 right);
          byte = c;
          may_be_null = all_at _ 1 right;
          may_be_named = rw named_is (all_at _ 1 placed');
          own_name = label_label o h.name h.name_len l name_inside name_placed;
          own_zone = zone_label;
        }
