-- Records that stand one behind the other, whose heads are moved. Assumes nothing.
use mathlib.Core.Path.{◌≡◌, refl, ap, sym, subst, ◌∙◌}
use mathlib.Core.Bool.{Bool, true, false, cond}
use mathlib.Core.List.{List, [], ◌∷◌, ◌++◌, append_assoc}
use Prim.Native.Nat.{ℕ, suc, ◌+◌, ◌*◌, ◌-◌, ◌<◌, ◌≤◌}
use native.Mathlib.Omega.{arith}
use borrow.Author.Tests.{ne_eqb}
use lib.ListN.{length, take, length-append, length-drop}
use lib.Seq.{take_all}
use Rattle.std.specs.Prelude.{Ok, Err}
use Rattle.sheet.specs.Types.{zone_bytes, own_labels}
use Rattle.sheet.specs.Head.{head_at, head_from, bytes_of, zoned_in, zone_len, labelled}
use Rattle.sheet.specs.Encode.{offset, flags_of}
use Rattle.sheet.specs.Holds.{Span}
use Rattle.sheet.specs.declared.Head.{Head}
use Rattle.sheet.proofs.Heads.{head_inside, span_head}
use Rattle.sheet.proofs.Carrying as Carrying
use Rattle.buffers.specs.Writes.{Put}
use Rattle.buffers.specs.Region.{Room, region, Kept, Inside, moved_link, moved_label}
use Rattle.buffers.specs.Span.{Item, item_labels, ItemRight, ItemsRight, moved_item, moved_items, Heads, relinked, relabelled, MovedHeads}
use Rattle.buffers.specs.declared.Space.{Space}
use Rattle.buffers.specs.declared.Place.{Place}
use Rattle.buffers.specs.declared.Failure.TheVariants.{Full}
use Rattle.buffers.proofs.Frames.{record_inside, region_head, kept_trans, kept_wider, kept_self}
use Rattle.buffers.proofs.Copying.{span_region, head_kept, moved_name, moved_zone}
use Rattle.buffers.proofs.Chained.{room_kept}
use Rattle.buffers.proofs.Spans.{item_head, own_length, labels_sum, labels_cons, moved_append}

-- heads that stand at other records as well
pub heads_agree : (s v : List ℕ) (r q o : ℕ) (xs : List Item) → ((j : ℕ) → j < length xs → head_at v (q + j) ≡ head_at s (r + j)) → Heads s r o xs → Heads v q o xs
heads_agree s v r q o [] f a = tt
heads_agree s v r q o (x ∷ xs) f a = (
  ap (head_at v) {x = q} {y = q + 0} (omega arith) ∙ f 0 (omega arith) ∙ ap (head_at s) {x = r + 0} {y = r} (omega arith) ∙ a.0,
  heads_agree s v (r + 1) (q + 1) (o + own_length x) xs
      (λ j h.
      ap (head_at v) {x = q + 1 + j} {y = q + (1 + j)} (omega arith) ∙ f (1 + j) (omega arith) ∙ ap (head_at s) {x = r + (1 + j)} {y = r + 1 + j} (omega arith))
      a.1,
)

-- one more behind others
pub heads_on : (s : List ℕ) (r o : ℕ) (xs : List Item) (x : Item) → Heads s r o xs → head_at s (r + length xs) ≡ item_head (o + length (item_labels xs)) x
    → Heads s r o (xs ++ (x ∷ []))
unfolding item_labels
heads_on s r o [] x a e = (ap (head_at s) {x = r} {y = r + 0} (omega arith) ∙ e ∙ ap (λ (k : ℕ). item_head k x) {x = o + 0} {y = o} (omega arith), tt)
heads_on s r o (y ∷ ys) x a e = (
  a.0,
  heads_on s (r + 1) (o + own_length y) ys x a.1
      (ap (head_at s) {x = r + 1 + length ys} {y = r + suc (length ys)} (omega arith) ∙ e
      ∙ ap (λ (k : ℕ). item_head k x) {x = o + length (item_labels (y ∷ ys))} {y = o + own_length y + length (item_labels ys)} (omega (arith, labels_cons y ys))),
)

-- each record lies inside the bytes in which it stands
pub heads_inside : (s : List ℕ) (r o : ℕ) (xs : List Item) → Heads s r o xs → ItemsRight xs → (j : ℕ) → j < length xs → 16 * (r + j) + 16 ≤ length s
heads_inside s r o [] a p j h = absurd (omega arith)
heads_inside s r o (x ∷ xs) a p ℕ.zero h = omega (arith, record_inside s r x.shape.kind (ap (λ (y : Head). y.kind) a.0) p.0.known)
heads_inside s r o (x ∷ xs) a p (suc j) h = omega (arith, heads_inside s (r + 1) (o + own_length x) xs a.1 p.1 j (omega arith))

pub moved_labels : (link at : ℕ) (xs : List Item) → item_labels (moved_items link at xs) ≡ item_labels xs
unfolding item_labels moved_items
moved_labels link at [] = refl
moved_labels link at (x ∷ xs) = ap (λ (l : List ℕ). own_labels x.name x.shape ++ l) (moved_labels link at xs)

pub moved_count : (link at : ℕ) (xs : List Item) → length (moved_items link at xs) ≡ length xs
unfolding moved_items
moved_count link at [] = refl
moved_count link at (x ∷ xs) = ap suc (moved_count link at xs)

-- how many label bytes a head says
pub item_length : (o : ℕ) (x : Item) → ItemRight x → o + length x.name < 65536 → labelled (item_head o x) ≡ own_length x
item_length o x p h = Carrying.own_length o x.name x.nullable x.shape x.first x.next p.own_zone h

-- the head of a record that was moved
moved_is : (o label link at : ℕ) (x : Item) → ItemRight x → o + length x.name < 65536
    → relabelled (relinked (item_head o x) link at) label ≡ item_head label (moved_item link at x)
moved_is o label link at x p h =
    let q = moved_zone o (label + length x.name) x.shape.size x.nullable x.shape.sorted x.name x.shape.zone h p.own_zone in
    let c = moved_name label x.name in
    λ i.
    record {
      kind = x.shape.kind;
      flags = flags_of x.nullable x.shape.sorted x.shape.zone;
      figure = x.shape.figure;
      scale = x.shape.scale;
      bytes_4_7 = q i;
      first = moved_link x.first link at;
      next = moved_link x.next link at;
      name = c i;
      name_len = length x.name;
      byte_15 = 0;
    }

-- the head of a record that was moved and put at a place
put_is : (space : Space) (v : List ℕ) (place o label link at : ℕ) (x : Item) (g : Head) → ItemRight x → o + length x.name < 65536
    → g ≡ relabelled (relinked (item_head o x) link at) label → Span v (space.half + 16 * place) (bytes_of g)
    → head_at (region space v) place ≡ item_head label (moved_item link at x)
put_is space v place o label link at x g p h eg a =
    span_head (region space v) place g (span_region space v (16 * place) (bytes_of g) a) ∙ eg ∙ moved_is o label link at x p h

-- a head with another place of its name
abbrev renamed : Head → ℕ → Head
renamed h name =
    record { kind = h.kind; flags = h.flags; figure = h.figure; scale = h.scale; bytes_4_7 = h.bytes_4_7; first = h.first; next = h.next; name = name; name_len = h.name_len; byte_15 = h.byte_15 }

-- a head without a zone, and what its labels change in it
plain_head : (h : Head) (label name : ℕ) → zoned_in h ≡ false → name ≡ moved_label label h.name_len
    → renamed h name ≡ relabelled h label
plain_head h label name z e =
    let q : h.bytes_4_7 ≡ cond (zoned_in h) (moved_label (label + h.name_len) (zone_len h) + 65536 * zone_len h) h.bytes_4_7 = rw z in
    λ i.
    record {
      kind = h.kind;
      flags = h.flags;
      figure = h.figure;
      scale = h.scale;
      bytes_4_7 = q i;
      first = h.first;
      next = h.next;
      name = e i;
      name_len = h.name_len;
      byte_15 = h.byte_15;
    }

name_none : (o : ℕ) (l : List ℕ) → length l ≡ 0 → offset o l ≡ 0
name_none o [] e = refl
name_none o (b ∷ bs) e = absurd (omega arith)

-- a head without labels, moved
bare_is : (h : Head) (link at label o : ℕ) (x : Item) → zoned_in h ≡ false → h.name_len ≡ 0 → h ≡ item_head o x → relinked h link at ≡ relabelled (relinked h link at) label
bare_is h link at label o x z none e =
    let c : moved_label label h.name_len ≡ 0 = rw none in
    plain_head (relinked h link at) label h.name z (ap (λ (y : Head). y.name) e ∙ name_none o x.name (sym (ap (λ (y : Head). y.name_len) e) ∙ none) ∙ sym c)

-- how far a walk over records is that moves their heads: those behind number at are as they were
pub record Progress (space : Space) (w : List ℕ) (link : ℕ) (to : Place) (at label o : ℕ) (xs : List Item) : Type 0 where
  pub done : List Item
  pub rest : List Item
  pub split : xs ≡ done ++ rest
  pub place : at ≡ to.at + length done
  pub moved : Heads (region space w) to.at to.label (moved_items link to.at done)
  pub left : Heads (region space w) at (o + length (item_labels done)) rest
  pub right : ItemsRight rest
  pub labels : label ≡ to.label + length (item_labels done)

-- the records of a walk, where it is at one of them
module _ (space : Space) (w : List ℕ) (link count : ℕ) (to : Place) (at label : ℕ) (h : Head) (own o : ℕ) (xs : List Item) (room : Room w space)
    (lt : at < to.at + count) (eh : h ≡ head_at (region space w) at) (eo : own ≡ labelled h)
    (long : length xs ≡ count) (low : o + length (item_labels xs) ≤ space.m) where
  module _ (done : List Item) (x : Item) (ys : List Item) (split : xs ≡ done ++ (x ∷ ys)) (place : at ≡ to.at + length done)
      (left : Heads (region space w) at (o + length (item_labels done)) (x ∷ ys)) (right : ItemsRight (x ∷ ys)) where
    all : length (item_labels xs) ≡ length (item_labels done) + (own_length x + length (item_labels ys))
    all =
        ap (λ (l : List Item). length (item_labels l)) split ∙ labels_sum done (x ∷ ys)
        ∙ ap (λ (k : ℕ). length (item_labels done) + k) (labels_cons x ys)

    name_low : o + length (item_labels done) + length x.name < 65536
    name_low = omega (arith, all, low, room.short, length-append x.name (zone_bytes x.shape.zone))

    head_is : h ≡ item_head (o + length (item_labels done)) x
    head_is = eh ∙ left.0

    own_is : own ≡ own_length x
    own_is = eo ∙ ap labelled head_is ∙ item_length (o + length (item_labels done)) x right.0 name_low

  -- there is no room for the labels of all
  walk_full : space.m < label + own → Progress space w link to at label o xs → space.m < to.label + length (item_labels xs)
  walk_full q p = go p.rest p.split p.left p.right
    where
      go : (rest : List Item) → xs ≡ p.done ++ rest → Heads (region space w) at (o + length (item_labels p.done)) rest → ItemsRight rest → space.m < to.label + length (item_labels xs)
      go [] split left right = absurd (omega (arith, ap (λ (l : List Item). length l) split, length-append p.done [], p.place))
      go (x ∷ ys) split left right =
          omega (arith, p.labels, all p.done x ys split p.place left right, own_is p.done x ys split p.place left right)

  module _ (v : List ℕ) (g : Head) (eg : (b : ℕ) (x : Item) → h ≡ item_head b x → g ≡ relabelled (relinked h link to.at) label)
      (put : Put w v (space.half + 16 * at) (bytes_of g)) where
    before : (r : ℕ) → r < at → head_at (region space v) r ≡ head_at (region space w) r
    before r q = region_head space w v r put.long (λ j lo hi. put.below j (omega arith))

    behind : (r : ℕ) → at < r → head_at (region space v) r ≡ head_at (region space w) r
    behind r q = region_head space w v r put.long (λ j lo hi. put.above j (omega arith))

    -- one record further
    walk_on : Progress space w link to at label o xs → Progress space v link to (at + 1) (label + own) o xs
    unfolding item_labels moved_items
    walk_on p = go p.rest p.split p.left p.right
      where
        go : (rest : List Item) → xs ≡ p.done ++ rest → Heads (region space w) at (o + length (item_labels p.done)) rest → ItemsRight rest
            → Progress space v link to (at + 1) (label + own) o xs
        go [] split left right = absurd (omega (arith, ap (λ (l : List Item). length l) split, length-append p.done [], p.place))
        go (x ∷ ys) split left right =
            let done = p.done in
            let b = o + length (item_labels p.done) in
            let moved = moved_items link to.at done in
            let same-count = moved_count link to.at done in
            let same-labels = ap (λ (l : List ℕ). length l) (moved_labels link to.at done) in
            let ex = head_is done x ys split p.place left right in
            let sum : length (item_labels (done ++ (x ∷ []))) ≡ length (item_labels p.done) + own_length x =
            labels_sum done (x ∷ []) ∙ omega (arith, labels_cons x []) in
            let here : head_at (region space v) at ≡ item_head label (moved_item link to.at x) =
            put_is space v at b label link to.at x g right.0 (name_low done x ys split p.place left right)
            (eg b x ex ∙ ap (λ (y : Head). relabelled (relinked y link to.at) label) ex) put.span in
            let old : Heads (region space v) to.at to.label moved =
            heads_agree (region space w) (region space v) to.at to.at to.label moved (λ j q. before (to.at + j) (omega (arith, p.place, same-count))) p.moved in
            let new : Heads (region space v) to.at to.label (moved ++ (moved_item link to.at x ∷ [])) =
            heads_on (region space v) to.at to.label moved (moved_item link to.at x) old
            (ap (head_at (region space v)) {x = to.at + length moved} {y = at} (omega (arith, p.place, same-count)) ∙ here
            ∙ ap (λ (k : ℕ). item_head k (moved_item link to.at x)) {x = label} {y = to.label + length (item_labels moved)} (omega (arith, p.labels, same-labels))) in
            let after : Heads (region space v) (at + 1) (b + own_length x) ys =
            heads_agree (region space w) (region space v) (at + 1) (at + 1) (b + own_length x) ys (λ j q. behind (at + 1 + j) (omega arith)) left.1 in
            record {
              done = done ++ (x ∷ []);
              rest = ys;
              split = split ∙ sym (append_assoc done (x ∷ []) ys);
              place = omega (arith, p.place, length-append done (x ∷ []));
              moved = subst (λ (l : List Item). Heads (region space v) to.at to.label l) (sym (moved_append link to.at done (x ∷ []))) new;
              left =
                  subst (λ (k : ℕ). Heads (region space v) (at + 1) k ys) {x = b + own_length x} {y = o + length (item_labels (done ++ (x ∷ [])))}
                  (omega (arith, sum)) after;
              right = right.1;
              labels = omega (arith, p.labels, own_is done x ys split p.place left right, sum);
            }

-- what holds at each turn of the loop that moves heads
pub record Moving (space : Space) (w₀ w : List ℕ) (link count : ℕ) (to : Place) (at label : ℕ) : Type 0 where
  pub kept : Kept space w₀ w to.at space.m
  pub room : Room w space
  pub after : to.at ≤ at
  pub inside : at ≤ to.at + count
  pub grown : to.label ≤ label
  pub fits : label ≤ space.m
  pub progress : (o : ℕ) (xs : List Item) → Heads (region space w₀) to.at o xs → ItemsRight xs → length xs ≡ count → o + length (item_labels xs) ≤ space.m
      → Progress space w link to at label o xs

pub moving_start : (space : Space) (w : List ℕ) (link count : ℕ) (to : Place) → Room w space → Inside space to → Moving space w w link count to to.at to.label
unfolding item_labels moved_items
moving_start space w link count to room inside =
    record {
      kept = kept_self w to.at space.m;
      room = room;
      after = omega arith;
      inside = omega arith;
      grown = omega arith;
      fits = inside.letters;
      progress =
          λ o xs a p e low.
          record {
            done = [];
            rest = xs;
            split = refl;
            place = omega arith;
            moved = tt;
            left = subst (λ (k : ℕ). Heads (region space w) to.at k xs) {x = o} {y = o + 0} (omega arith) a;
            right = p;
            labels = omega arith;
          };
    }

module _ {space : Space} {w₀ w : List ℕ} {link count : ℕ} {to : Place} {at label : ℕ} (fit : to.at + count ≤ space.n)
    (l : Moving space w₀ w link count to at label) where
  module _ (h : Head) (lt : at < to.at + count) (eh : h ≡ head_from (take (length w - space.half) (region space w)) (16 * at)) where
    here : h ≡ head_at (region space w) at
    here =
        eh
        ∙ ap (λ (s : List ℕ). head_from s (16 * at)) (take_all (length w - space.half) (region space w) (omega (arith, length-drop space.half w)))
        ∙ sym (head_inside (region space w) at (omega (arith, length-drop space.half w, l.room.half, l.room.inside)))

    full : (own : ℕ) → own ≡ labelled h → space.m < label + own → MovedHeads space (region space w₀) to.at w₀ w link count to (Err Full)
    full own eo q =
        record {
          kept = l.kept;
          means = λ o xs a p e low. walk_full space w link count to at label h own o xs l.room lt here eo e low q (l.progress o xs a p e low);
        }

    on : (own : ℕ) → own ≡ labelled h → label + own ≤ space.m → (v : List ℕ) (g : Head)
        → ((b : ℕ) (x : Item) → h ≡ item_head b x → g ≡ relabelled (relinked h link to.at) label) → Put w v (space.half + 16 * at) (bytes_of g)
        → Moving space w₀ v link count to (at + 1) (label + own)
    on own eo fits v g eg put =
        let k : Kept space w v to.at space.m = kept_wider to.at space.m l.after (omega arith) (head_kept space w v at space.m g (omega arith) put) in
        record {
          kept = kept_trans l.kept k;
          room = room_kept k l.room;
          after = omega (arith, l.after);
          inside = omega arith;
          grown = omega (arith, l.grown);
          fits = fits;
          progress =
              λ o xs a p e low. walk_on space w link count to at label h own o xs l.room lt here eo e low v g eg put (l.progress o xs a p e low);
        }

    module _ (z : zoned_in h ≡ true) (zlen : ℕ) (ez : zlen ≡ zone_len h) where
      zoned_own : h.name_len + zlen ≡ labelled h
      zoned_own = ap (λ (k : ℕ). h.name_len + k) (ez ∙ ap (λ (b : Bool). cond b (zone_len h) 0) (sym z))

      pub zoned_full : space.m < label + (h.name_len + zlen) → MovedHeads space (region space w₀) to.at w₀ w link count to (Err Full)
      zoned_full q = full (h.name_len + zlen) zoned_own q

      pub zoned_on : label + (h.name_len + zlen) ≤ space.m → (v : List ℕ) (g : Head) → g ≡ relabelled (relinked h link to.at) label
          → Put w v (space.half + 16 * at) (bytes_of g) → Moving space w₀ v link count to (at + 1) (label + (h.name_len + zlen))
      zoned_on fits v g eg put = on (h.name_len + zlen) zoned_own fits v g (λ b x e. eg) put

    module _ (z : zoned_in h ≡ false) where
      no_zone : cond (zoned_in h) (zone_len h) 0 ≡ 0
      no_zone = ap (λ (b : Bool). cond b (zone_len h) 0) z

      plain_own : h.name_len ≡ labelled h
      plain_own = omega (arith, no_zone)

      pub named_full : space.m < label + h.name_len → MovedHeads space (region space w₀) to.at w₀ w link count to (Err Full)
      named_full q = full h.name_len plain_own q

      pub named_on : ¬ (h.name_len ≡ 0) → label + h.name_len ≤ space.m → (v : List ℕ) (g : Head) → g ≡ relinked h link to.at
          → Put w v (space.half + 16 * at) (bytes_of (renamed g label)) → Moving space w₀ v link count to (at + 1) (label + h.name_len)
      named_on some fits v g eg put =
          let c : label ≡ moved_label label h.name_len = rw (ne_eqb h.name_len 0 some) in
          on h.name_len plain_own fits v (renamed g label)
          (λ b x e. ap (λ (y : Head). renamed y label) eg ∙ plain_head (relinked h link to.at) label label z c) put

      pub bare_on : h.name_len ≡ 0 → (v : List ℕ) (g : Head) → g ≡ relinked h link to.at → Put w v (space.half + 16 * at) (bytes_of g)
          → Moving space w₀ v link count to (at + 1) label
      bare_on none v g eg put =
          subst (λ (k : ℕ). Moving space w₀ v link count to (at + 1) k) {x = label + 0} {y = label} (omega arith)
          (on 0 (omega (arith, no_zone)) (omega (arith, l.fits)) v g (λ b x e. eg ∙ bare_is h link to.at label b x z none e) put)

-- one record without labels, wherever it was read
pub bare_moved : (space : Space) (s w : List ℕ) (link : ℕ) (to : Place) → Room w space → to.label ≤ space.m → to.at < space.n
    → (h : Head) → h ≡ head_at s link → zoned_in h ≡ false → h.name_len ≡ 0 → (v : List ℕ) (g : Head) → g ≡ relinked h link to.at
    → Put w v (space.half + 16 * to.at) (bytes_of g) → MovedHeads space s link w v link 1 to (Ok (record { at = to.at + 1; label = to.label }))
unfolding item_labels moved_items
bare_moved space s w link to room letters lt h eh z none v g eg put =
    record { kept = head_kept space w v to.at space.m g lt put; means = ((refl, (omega arith, letters)), go) }
  where
    go : (o : ℕ) (xs : List Item) → Heads s link o xs → ItemsRight xs → length xs ≡ 1 → o + length (item_labels xs) ≤ space.m
        → (to.label ≡ to.label + length (item_labels xs)) × Heads (region space v) to.at to.label (moved_items link to.at xs)
    go o [] a p e low = absurd (omega arith)
    go o (x ∷ []) a p e low =
        let i : h ≡ item_head o x = eh ∙ a.0 in
        let short : o + length x.name < 65536 = omega (arith, low, labels_cons x [], room.short, length-append x.name (zone_bytes x.shape.zone)) in
        let own = ap (λ (b : Bool). cond b (zone_len h) 0) z in (
          omega (arith, none, own, ap labelled i, item_length o x p.0 short, labels_cons x []),
          (
            put_is space v to.at o to.label link to.at x g p.0 short
                (eg ∙ bare_is h link to.at to.label o x z none i ∙ ap (λ (y : Head). relabelled (relinked y link to.at) to.label) i) put.span,
            tt,
          ),
        )
    go o (x ∷ y ∷ ys) a p e low = absurd (omega arith)
