-- Records that stand one behind the other, copied with their labels. Assumes nothing.
use mathlib.Core.Path.{◌≡◌, refl, ap₂, sym, subst, ◌∙◌}
use mathlib.Core.Bool.{Bool, true, false, not, ◌&&◌}
use mathlib.Core.List.{List, [], ◌∷◌}
use mathlib.Core.Logic.{inr}
use Prim.Native.Nat.{ℕ, ◌+◌, ◌*◌, ◌-◌, ◌<◌, ◌≤◌}
use native.Mathlib.Omega.{arith}
use lib.ListN.{length, get_or, take, drop, length-take, length-drop}
use lib.Seq.{get_or-drop, get_or-take}
use lib.Dec.{eqb}
use Rattle.std.specs.Prelude.{Ok, Err}
use Rattle.std.proofs.lemmas.Bool.{and_parts, eqb-true, not-true}
use Rattle.sheet.specs.Head.{head_at, bytes_of, zoned_in}
use Rattle.sheet.specs.Holds.{Span}
use Rattle.sheet.specs.declared.Head.{Head}
use Rattle.sheet.proofs.Spans.{at_eq, span_at, span_move, span_nil}
use Rattle.sheet.proofs.Heads.{head_inside}
use Rattle.buffers.specs.Writes.{side, Put}
use Rattle.buffers.specs.Region.{Room, region, Kept, Inside}
use Rattle.buffers.specs.Span.{Item, item_labels, Strip, ItemsRight, moved_items, Heads, relinked, MovedHeads, LabelsBegin, CopiedSpan}
use Rattle.buffers.specs.declared.Space.{Space}
use Rattle.buffers.specs.declared.Place.{Place}
use Rattle.buffers.specs.Written.{Written}
use Rattle.buffers.specs.declared.Failure.{Failure}
use Rattle.buffers.specs.declared.Failure.TheVariants.{NoType, Full}
use Rattle.buffers.proofs.Frames.{span_frame, head_frame, head_moved, region_head, kept_trans, kept_wider, kept_self}
use Rattle.buffers.proofs.Copying.{span_region, label_kept}
use Rattle.buffers.proofs.Spans.{strip_heads, strip_labels, strip_join}
use Rattle.buffers.proofs.Moving.{heads_agree, heads_inside, moved_labels, moved_count, bare_moved}

-- heads that were put at a place, as they stand in a source
module _ (space : Space) (s w v : List ℕ) (link count : ℕ) (to : Place) (room : Room w space) (fit : to.at + count ≤ space.n)
    (put : Put w v (space.half + 16 * to.at) (take (16 * count) (drop (16 * link) s))) where
  heads_long : length (take (16 * count) (drop (16 * link) s)) ≤ 16 * count
  heads_long = omega (arith, length-take (16 * count) (drop (16 * link) s))

  pub heads_kept : Kept space w v to.at space.m
  heads_kept =
      record {
        long = put.long;
        below = λ j q. put.below j q;
        between = λ j lo hi. put.above j (omega (arith, heads_long));
        above = λ j q. put.above j (omega (arith, heads_long));
      }

  module _ (j : ℕ) (lt : j < count) (inside : 16 * (link + j) + 16 ≤ length s) where
    byte : (k : ℕ) → k < 16 → get_or (region space v) (16 * (to.at + j) + k) 0 ≡ get_or s (16 * (link + j) + k) 0
    byte k h =
        get_or-drop space.half v (16 * (to.at + j) + k) 0
        ∙ at_eq v {i = space.half + (16 * (to.at + j) + k)} {j = space.half + 16 * to.at + (16 * j + k)} (omega arith)
        ∙ span_at (16 * j + k) (omega (arith, length-take (16 * count) (drop (16 * link) s), length-drop (16 * link) s)) put.span
        ∙ get_or-take (16 * count) (drop (16 * link) s) (16 * j + k) 0 (omega arith) ∙ get_or-drop (16 * link) s (16 * j + k) 0
        ∙ at_eq s {i = 16 * link + (16 * j + k)} {j = 16 * (link + j) + k} (omega arith)

    head_put : head_at (region space v) (to.at + j) ≡ head_at s (link + j)
    head_put =
        head_inside (region space v) (to.at + j) (omega (arith, length-drop space.half v, put.long, room.half, room.inside))
        ∙ head_moved s (region space v) (link + j) (to.at + j) byte ∙ sym (head_inside s (link + j) inside)

  pub heads_put : (o : ℕ) (xs : List Item) → Heads s link o xs → ItemsRight xs → length xs ≡ count → Heads (region space v) to.at o xs
  heads_put o xs a p e =
      heads_agree s (region space v) link to.at o xs (λ j q. head_put j (omega arith) (heads_inside s link o xs a p j q)) a

  -- heads that were moved after they were put there
  pub heads_moved : (u : List ℕ) (o : Written) → MovedHeads space (region space v) to.at v u link count to o → MovedHeads space s link w u link count to o
  heads_moved u (Ok d) m =
      record { kept = kept_trans heads_kept m.kept; means = (m.means.0, λ o xs a p e low. m.means.1 o xs (heads_put o xs a p e) p e low) }
  heads_moved u (Err NoType) m = absurd m.means
  heads_moved u (Err Full) m =
      record { kept = kept_trans heads_kept m.kept; means = λ o xs a p e low. m.means o xs (heads_put o xs a p e) p e low }

-- what stands in a source's half stays
side_span : (swap : Bool) (space : Space) (s w v : List ℕ) (at label o : ℕ) (u : List ℕ) → space.half ≡ 16 * space.n + space.m → o + length u ≤ space.m
    → Kept space w v at label → Span (side swap s w) (16 * space.n + o) u → Span (side swap s v) (16 * space.n + o) u
side_span true space s w v at label o u half low k a = span_frame {w = w} v u k.long (λ j lo hi. k.below j (omega arith)) a
side_span false space s w v at label o u half low k a = a

side_heads : (swap : Bool) (space : Space) (s w v : List ℕ) (at label link o : ℕ) (xs : List Item) → space.half ≡ 16 * space.n + space.m → link + length xs ≤ space.n
    → Kept space w v at label → Heads (side swap s w) link o xs → Heads (side swap s v) link o xs
side_heads true space s w v at label link o xs half few k a =
    heads_agree w v link link o xs (λ j q. head_frame w v (link + j) k.long (λ i lo hi. k.below i (omega arith))) a
side_heads false space s w v at label link o xs half few k a = a

module _ (space : Space) (s : List ℕ) (swap : Bool) (link end : ℕ) (to : Place) (w : List ℕ) where
  -- nothing is asked for
  pub span_none : Inside space to → end ≤ link → CopiedSpan space (side swap s w) w w link end to (Ok to)
  unfolding item_labels moved_items
  span_none inside h = record { kept = kept_self w to.at to.label; grows = (inside, (omega arith, omega arith)); means = go }
    where
      go : (o : ℕ) (xs : List Item) → Strip (side swap s w) space.n link o xs → ItemsRight xs → link + length xs ≡ end → end ≤ space.n → o + length (item_labels xs) ≤ space.m
          → (to.at ≡ to.at + length xs) × ((to.label ≡ to.label + length (item_labels xs))
          × Strip (region space w) space.n to.at to.label (moved_items link to.at xs))
      go o [] a p e f low = (omega arith, (omega arith, tt))
      go o (x ∷ xs) a p e f low = absurd (omega arith)

  module _ (room : Room w space) (inside : Inside space to) (lt : link < end) (few : end ≤ space.n) (count : ℕ) (ec : count ≡ end - link) (fit : to.at + count ≤ space.n) where
    pub span_stop : (v : List ℕ) (f : Failure) → MovedHeads space (side swap s w) link w v link count to (Err f) → CopiedSpan space (side swap s w) w v link end to (Err f)
    span_stop v NoType m = absurd m.means
    span_stop v Full m =
        record {
          kept = kept_wider to.at to.label (omega arith) inside.letters m.kept;
          grows = tt;
          means = λ o xs a p e f low. inr (m.means o xs (strip_heads (side swap s w) space.n link o xs a) p (omega arith) low);
        }

    module _ (v : List ℕ) (d : Place) (m : MovedHeads space (side swap s w) link w v link count to (Ok d)) where
      -- the labels that stand in a source, after the heads were moved
      labels_2 : (o : ℕ) (xs : List Item) → Strip (side swap s w) space.n link o xs → o + length (item_labels xs) ≤ space.m
          → Span (side swap s v) (16 * space.n + o) (item_labels xs)
      labels_2 o xs a low =
          side_span swap space s w v to.at space.m o (item_labels xs) room.half low m.kept (strip_labels (side swap s w) space.n link o xs a)

      module _ (u : List ℕ) (k : Kept space v u to.at to.label) (above : (r : ℕ) → r < space.n → head_at (region space u) r ≡ head_at (region space v) r)
          (labels : (o : ℕ) (xs : List Item) → Strip (side swap s w) space.n link o xs → ItemsRight xs → length xs ≡ count → o + length (item_labels xs) ≤ space.m
          → d.label ≡ to.label + length (item_labels xs) → Span (region space u) (16 * space.n + to.label) (item_labels xs)) where
        copied : CopiedSpan space (side swap s w) w u link end to (Ok d)
        copied =
            record {
              kept = kept_trans (kept_wider to.at to.label (omega arith) inside.letters m.kept) k;
              grows = (
                record { some = omega (arith, inside.some, m.means.0.0); records = omega (arith, m.means.0.0); letters = m.means.0.1.1 },
                (omega (arith, m.means.0.0), m.means.0.1.0),
              );
              means =
                  λ o xs a p e f low.
                  let c : length xs ≡ count = omega arith in
                  let q = m.means.1 o xs (strip_heads (side swap s w) space.n link o xs a) p c low in
                  let moved = moved_items link to.at xs in
                  let heads = heads_agree (region space v) (region space u) to.at to.at to.label moved (λ j i. above (to.at + j) (omega (arith, moved_count link to.at xs))) q.1 in (
                    omega (arith, m.means.0.0),
                    (
                      q.0,
                      strip_join (region space u) space.n to.at to.label moved heads
                          (subst (λ (l : List ℕ). Span (region space u) (16 * space.n + to.label) l) (sym (moved_labels link to.at xs))
                          (labels o xs a p c low q.0)),
                    ),
                  );
            }

      -- there are no labels
      pub span_bare : d.label ≡ to.label → CopiedSpan space (side swap s w) w v link end to (Ok d)
      span_bare none =
          copied v (kept_self v to.at to.label) (λ r h. refl)
          (λ o xs a p c low e. subst (λ (l : List ℕ). Span (region space v) (16 * space.n + to.label) l) (sym (empty (item_labels xs) (omega arith))) span_nil)
        where
          empty : (l : List ℕ) → length l ≡ 0 → l ≡ []
          empty [] e = refl
          empty (b ∷ bs) e = absurd (omega arith)

      pub span_done : ¬ (d.label ≡ to.label) → (from : ℕ) → LabelsBegin (side swap s v) link end from → (u : List ℕ)
          → Put v u (space.half + 16 * space.n + to.label) (take (d.label - to.label) (drop (16 * space.n + from) (side swap s v)))
          → CopiedSpan space (side swap s w) w u link end to (Ok d)
      span_done some from b u put =
          let taken = take (d.label - to.label) (drop (16 * space.n + from) (side swap s v)) in
          let short : length taken ≤ d.label - to.label = omega (arith, length-take (d.label - to.label) (drop (16 * space.n + from) (side swap s v))) in
          copied u
          (label_kept space v u to.at to.label to.label taken inside.records (omega arith) (omega (arith, short, m.means.0.1.0, m.means.0.1.1)) put)
          (λ r h. region_head space v u r put.long (λ j lo hi. put.below j (omega arith)))
          (λ o xs a p c low e.
          let heads : Heads (side swap s v) link o xs =
          side_heads swap space s w v to.at space.m link o xs room.half (omega arith) m.kept (strip_heads (side swap s w) space.n link o xs a) in
          let t : taken ≡ item_labels xs =
          ap₂ (λ (i j : ℕ). take i (drop (16 * space.n + j) (side swap s v))) {x = d.label - to.label} {y = length (item_labels xs)} (omega arith)
          (b.begin o xs heads p (omega arith) (omega (arith, room.short)) (omega arith))
          ∙ (labels_2 o xs a low).same in
          subst (λ (l : List ℕ). Span (region space u) (16 * space.n + to.label) l) t
          (span_region space u (16 * space.n + to.label) taken
          (span_move {i = space.half + 16 * space.n + to.label} {j = space.half + (16 * space.n + to.label)} (omega arith) put.span)))

    -- one record without labels
    pub span_one : count ≡ 1 → (h : Head) → h ≡ head_at (side swap s w) link → true ≡ (eqb h.name_len 0 && not (zoned_in h)) → (v : List ℕ) (g : Head) → g ≡ relinked h link to.at
        → Put w v (space.half + 16 * to.at) (bytes_of g) → CopiedSpan space (side swap s w) w v link end to (Ok (record { at = to.at + 1; label = to.label }))
    span_one one h eh bare v g eg put =
        let b = and_parts (eqb h.name_len 0) (not (zoned_in h)) (sym bare) in
        let m = bare_moved space (side swap s w) w link to room inside.letters (omega arith) h eh (not-true (zoned_in h) b.1) (eqb-true h.name_len 0 b.0) v g eg put in
        span_bare v _ (subst (λ (k : ℕ). MovedHeads space (side swap s w) link w v link k to (Ok (record { at = to.at + 1; label = to.label }))) (sym one) m) refl
