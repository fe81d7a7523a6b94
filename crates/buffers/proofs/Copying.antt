-- A record that was copied. Assumes nothing.
use mathlib.Core.Path.{◌≡◌, refl, ap, ap₂, sym, subst, subst₂, ◌∙◌}
use mathlib.Core.Bool.{Bool, true, false, cond}
use mathlib.Core.List.{List, [], ◌∷◌}
use Prim.Native.Nat.{ℕ, suc, ◌+◌, ◌*◌, ◌-◌, ◌/◌, ◌%◌, ◌<◌, ◌≤◌}
use native.Mathlib.Omega.{arith}
use lib.ListN.{length, take, drop, length-append, length-take, length-drop}
use lib.Seq.{drop-drop, get_or-drop}
use lib.Dec.{eqb}
use borrow.Author.Tests.{ne_eqb, lt-ltb, le-ltb}
use Rattle.sheet.specs.Types.{Zone, absent, present, Shape, Fields, end, field, count, zone_bytes, own_labels}
use Rattle.sheet.specs.Head.{head_at, bytes_of, nullable_in, zoned_in, zone_at, zone_len, labelled}
use Rattle.sheet.specs.Encode.{link_to, offset, bit, flags_of, quad_of, head_of}
use Rattle.sheet.specs.Read.{label_at, zone_of}
use Rattle.sheet.specs.Carried.{Label, FieldRight}
use Rattle.sheet.specs.Holds.{Span, Stands}
use Rattle.sheet.specs.declared.Head.{Head}
use Rattle.sheet.proofs.Spans.{span_join, span_move}
use Rattle.sheet.proofs.Heads.{span_head}
use Rattle.sheet.proofs.Reading.{flag_zone, quad_length}
use Rattle.sheet.proofs.Repeating.{head_is}
use Rattle.sheet.proofs.Carrying.{own_length}
use Rattle.buffers.specs.Writes.{side, Put}
use Rattle.buffers.specs.Region.{Room, region, Kept, Held, Inside, moved_link, moved_label, target_head, Ready, Named, CopiedHead, CopiedBare, CopiedRecord}
use Rattle.buffers.specs.Target.{past}
use Rattle.buffers.specs.Typed.{Chain, target_at, NamedAt}
use Rattle.buffers.specs.declared.Space.{Space}
use Rattle.buffers.specs.declared.Place.{Place}
use Rattle.buffers.specs.declared.Target.{Target}
use Rattle.buffers.specs.Written.{Written}
use Rattle.std.specs.Prelude.{Ok, Err}
use Rattle.buffers.specs.declared.Failure.TheVariants.{NoType, Full}
use Rattle.buffers.proofs.Sources.{name_short, read_name, read_nullable, read_shape}
use Rattle.sheet.proofs.Puts.{put_none}
use Rattle.buffers.proofs.Frames.{span_frame, held_frame, kept_trans, kept_wider}

-- a place in the second half
pub span_region : (space : Space) (v : List ℕ) (i : ℕ) (u : List ℕ) → Span v (space.half + i) u → Span (region space v) i u
span_region space v i u a = record { same = ap (take (length u)) (drop-drop i space.half v) ∙ a.same }

-- labels that are put after a place
pub label_kept : (space : Space) (w v : List ℕ) (at label i : ℕ) (u : List ℕ) → at ≤ space.n → label ≤ i → i + length u ≤ space.m
    → Put w v (space.half + 16 * space.n + i) u → Kept space w v at label
label_kept space w v at label i u ha hl hm p =
    record {
      long = p.long;
      below = λ j q. p.below j (omega arith);
      between = λ j lo hi. p.below j (omega arith);
      above = λ j q. p.above j (omega arith);
    }

-- a head that is put at a place
pub head_kept : (space : Space) (w v : List ℕ) (at label : ℕ) (h : Head) → at < space.n → Put w v (space.half + 16 * at) (bytes_of h) → Kept space w v at label
head_kept space w v at label h ha p =
    record {
      long = p.long;
      below = λ j q. p.below j q;
      between = λ j lo hi. p.above j (omega arith);
      above = λ j q. p.above j (omega arith);
    }

-- a source of either side stays
pub held_side : (swap : Bool) (space : Space) (s w v : List ℕ) (at label : ℕ) {floor link r o up : ℕ} {t : Fields} → space.half ≡ 16 * space.n + space.m
    → Kept space w v at label → Held space (side swap s w) floor link r o up t → Held space (side swap s v) floor link r o up t
held_side true space s w v at label half k a = held_frame space w v at label _ _ _ _ _ _ half k a
held_side false space s w v at label half k a = a

pub moved_name : (label : ℕ) (l : List ℕ) → moved_label label (length l) ≡ offset label l
moved_name label [] = refl
moved_name label (b ∷ bs) = rw (ne_eqb (suc (length bs)) 0 (omega arith))

pub moved_link_lem : (r at x : ℕ) (t : Fields) → at + x < 65536 → 0 < x → moved_link (link_to (r + x) t) r at ≡ link_to (at + x) t
moved_link_lem r at x end h pos = rw (le-ltb r 0 (omega arith))
moved_link_lem r at x (field name nullable shape parts rest) h pos =
    let e : at + (r + x - r) ≡ at + x = omega arith in
    rw (lt-ltb r (r + x) (omega arith)) (rw e (rw (lt-ltb (at + x) 65536 h) refl))

pub moved_zone : (o place size : ℕ) (nullable sorted : Bool) (name : List ℕ) (zone : Zone) → o + length name < 65536 → Label (zone_bytes zone)
    → cond (eqb (flags_of nullable sorted zone / 4 % 2) 1)
    (moved_label place (quad_of (o + length name) size zone / 65536 % 256) + 65536 * (quad_of (o + length name) size zone / 65536 % 256))
    (quad_of (o + length name) size zone)
    ≡ quad_of place size zone
moved_zone o place size nullable sorted name absent h l = rw (flag_zone nullable sorted absent)
moved_zone o place size nullable sorted name (present z) h l =
    rw (flag_zone nullable sorted (present z))
    (rw (quad_length (o + length name) z h l.short) (ap (λ (x : ℕ). x + 65536 * length z) (moved_name place z)))

goal_flags : (a b sorted : Bool) (zone : Zone) → flags_of a sorted zone / 2 * 2 + bit b ≡ flags_of b sorted zone
goal_flags true true sorted zone = omega arith
goal_flags true false sorted zone = omega arith
goal_flags false true sorted zone = omega arith
goal_flags false false sorted zone = omega arith

-- the head of a field, at a goal
goal_is : (o r up next : ℕ) (name : List ℕ) (nullable : Bool) (shape : Shape) (parts rest : Fields) (g : Target) (own : List ℕ) → length own ≡ g.name_len
    → FieldRight up name nullable shape parts → o + length name < 65536 → g.at + 1 < 65536
    → target_head (head_of o name nullable shape (link_to (r + 1) parts) (link_to (r + 1 + count parts) rest)) r g next
    ≡ head_of g.label own g.nullable shape (link_to (g.at + 1) parts) next
goal_is o r up next name nullable shape parts rest g own e fine h low =
    let q =
    moved_zone o (g.label + g.name_len) shape.size nullable shape.sorted name shape.zone h fine.own_zone
    ∙ ap (λ (k : ℕ). quad_of (g.label + k) shape.size shape.zone) (sym e) in
    let a = moved_link_lem r g.at 1 parts low (omega arith) in
    let c = ap (moved_label g.label) (sym e) ∙ moved_name g.label own in
    let f = goal_flags nullable g.nullable shape.sorted shape.zone in
    let l = sym e in
    λ i.
    record {
      kind = shape.kind;
      flags = f i;
      figure = shape.figure;
      scale = shape.scale;
      bytes_4_7 = q i;
      first = a i;
      next = next;
      name = c i;
      name_len = l i;
      byte_15 = 0;
    }

zone_bytes_lem : (s : List ℕ) (n : ℕ) (h : Head) → take (cond (zoned_in h) (zone_len h) 0) (drop (16 * n + zone_at h) s) ≡ zone_bytes (zone_of s n h)
zone_bytes_lem s n h = go (zoned_in h)
  where
    go : (b : Bool) → take (cond b (zone_len h) 0) (drop (16 * n + zone_at h) s) ≡ zone_bytes (cond b (present (label_at s n (zone_at h) (zone_len h))) absent)
    go true = refl
    go false = refl

-- the label bytes of a record that stands
pub own_labelled : (space : Space) (s : List ℕ) {floor link r o up : ℕ} {name : List ℕ} {nullable : Bool} {shape : Shape} {parts rest : Fields} (h : Head) → h ≡ head_at s link
    → Held space s floor link r o up (field name nullable shape parts rest) → labelled h ≡ length (own_labels name shape)
own_labelled space s {floor} {link} {r} {o} {up} {name} {nullable} {shape} {parts} {rest} h e a =
    ap labelled (head_is s space.n floor link r o name nullable shape parts rest a.source.leads h e)
    ∙ own_length o name nullable shape (link_to (r + 1) parts) (link_to (r + 1 + count parts) rest) a.source.right.0.own_zone (name_short a.source)

module _ (space : Space) (s w : List ℕ) (swap : Bool) (h : Head) (link : ℕ) (g : Target) (next : ℕ) (room : Room w space) (ready : Ready space g)
    (zlen : ℕ) (ez : zlen ≡ cond (zoned_in h) (zone_len h) 0) where
  -- the zone of a record that stands
  zone_is : (v : List ℕ) {floor r o up : ℕ} {name : List ℕ} {nullable : Bool} {shape : Shape} {parts rest : Fields}
      → Held space (side swap s v) floor link r o up (field name nullable shape parts rest) → h ≡ head_at (side swap s v) link
      → take zlen (drop (16 * space.n + h.bytes_4_7 % 65536) (side swap s v)) ≡ zone_bytes shape.zone
  zone_is v a e =
      ap (λ (k : ℕ). take k (drop (16 * space.n + h.bytes_4_7 % 65536) (side swap s v))) ez ∙ zone_bytes_lem (side swap s v) space.n h
      ∙ ap (λ (x : Shape). zone_bytes x.zone) (read_shape a.source h e)

  zone_long : {floor r o up : ℕ} {name : List ℕ} {nullable : Bool} {shape : Shape} {parts rest : Fields}
      → Held space (side swap s w) floor link r o up (field name nullable shape parts rest) → h ≡ head_at (side swap s w) link → zlen ≡ length (zone_bytes shape.zone)
  zone_long {name = name} {shape = shape} a e =
      omega (arith, own_labelled space (side swap s w) h e a, ez, length-append name (zone_bytes shape.zone), ap (λ (x : List ℕ). length x) (read_name a.source h e), name_long a e)
    where
      name_long : {floor r o up : ℕ} {name : List ℕ} {nullable : Bool} {shape : Shape} {parts rest : Fields}
          → Held space (side swap s w) floor link r o up (field name nullable shape parts rest) → h ≡ head_at (side swap s w) link → h.name_len ≡ length name
      name_long {floor} {r} {o} {up} {name} {nullable} {shape} {parts} {rest} a e =
          ap (λ (x : Head). x.name_len) (head_is (side swap s w) space.n floor link r o name nullable shape parts rest a.source.leads h e)

  module _ (v₁ v : List ℕ) (lt : g.at < space.n) (fits : g.label + g.name_len + zlen ≤ space.m)
      (q : Put w v₁ (space.half + 16 * space.n + (g.label + g.name_len)) (take zlen (drop (16 * space.n + h.bytes_4_7 % 65536) (side swap s w))))
      (x : Head) (ex : x ≡ target_head h link g next) (c : Put v₁ v (space.half + 16 * g.at) (bytes_of x)) where
    kept_1 : Kept space w v₁ g.at (g.label + g.name_len)
    kept_1 =
        label_kept space w v₁ g.at (g.label + g.name_len) (g.label + g.name_len) _ ready.records (omega arith)
        (omega (arith, length-take zlen (drop (16 * space.n + h.bytes_4_7 % 65536) (side swap s w)))) q

    kept : Kept space w v g.at (g.label + g.name_len)
    kept = kept_trans kept_1 (head_kept space v₁ v g.at (g.label + g.name_len) x lt c)

    stands : (floor r o up : ℕ) (name : List ℕ) (nullable : Bool) (shape : Shape) (parts rest : Fields) → Held space (side swap s w) floor link r o up (field name nullable shape parts rest)
        → h ≡ head_at (side swap s w) link → (own : List ℕ) → Named space w g own
        → Stands (region space v) space.n g.at g.label own g.nullable shape (link_to (g.at + 1) parts) next
    stands floor r o up name nullable shape parts rest a e own nm =
        let n = space.n in
        let eh = head_is (side swap s w) n floor link r o name nullable shape parts rest a.source.leads h e in
        let zone_span : Span v (space.half + 16 * n + (g.label + g.name_len)) (zone_bytes shape.zone) =
        span_frame {w = v₁} v (zone_bytes shape.zone) c.long (λ j lo hi. c.above j (omega arith))
        (subst (λ (u : List ℕ). Span v₁ (space.half + 16 * n + (g.label + g.name_len)) u) (zone_is w a e) q.span) in
        let name-span : Span (region space v) (16 * n + g.label) own =
        span_frame {w = region space w} (region space v) own
        (length-drop space.half v ∙ ap (λ (k : ℕ). k - space.half) kept.long ∙ sym (length-drop space.half w))
        (λ j lo hi.
        get_or-drop space.half v j 0 ∙ kept.between (space.half + j) (omega arith) (omega (arith, nm.long)) ∙ sym (get_or-drop space.half w j 0)) nm.span in
        let ex' : x ≡ head_of g.label own g.nullable shape (link_to (g.at + 1) parts) next =
        ex ∙ ap₂ (λ (y : Head) (k : ℕ). target_head y k g next) eh a.source.leads.is
        ∙ goal_is o r up next name nullable shape parts rest g own nm.long a.source.right.0 (name_short a.source)
        (omega (arith, room.few)) in
        record {
          head = span_head (region space v) g.at x (span_region space v (16 * g.at) (bytes_of x) c.span) ∙ ex';
          label =
              span_join own (zone_bytes shape.zone) name-span
              (span_region space v (16 * n + g.label + length own) (zone_bytes shape.zone)
              (span_move {i = space.half + 16 * n + (g.label + g.name_len)} (omega (arith, nm.long)) zone_span));
        }

    pub head_copied : {d : Place} → d ≡ past g zlen → CopiedHead space (side swap s w) w v h link g next (Ok d)
    head_copied ed =
        rw ed
        (record {
          kept = kept;
          passes = (record { some = omega arith; records = omega arith; letters = fits }, (omega arith, omega arith));
          means = (
            refl,
            λ floor r o up name nullable shape parts rest a e. (omega (arith, zone_long a e), stands floor r o up name nullable shape parts rest a e),
          );
        })

-- a head without a zone, of whatever source
pub bare_copied : (space : Space) (w v : List ℕ) (h : Head) (link : ℕ) (g : Target) → Room w space → Ready space g → g.at < space.n → zoned_in h ≡ false
    → (x : Head) → x ≡ target_head h link g 0 → Put w v (space.half + 16 * g.at) (bytes_of x) → {d : Place} → d ≡ past g 0 → CopiedBare space w v h link g (Ok d)
bare_copied space w v h link g room ready lt z x ex c ed s =
    head_copied space s w false h link g 0 room ready 0 (ap (λ (b : Bool). cond b (zone_len h) 0) (sym z)) w v lt (omega (arith, ready.letters))
    (put_none w (drop (16 * space.n + h.bytes_4_7 % 65536) s) (space.half + 16 * space.n + (g.label + g.name_len)) (omega (arith, room.half, room.inside, ready.letters))) x ex c ed

-- a record with its name: the name is put, and then the head
module _ (space : Space) (s w : List ℕ) (swap : Bool) (h : Head) (link : ℕ) (to : Place) (room : Room w space) (inside : Inside space to) (e : h ≡ head_at (side swap s w) link) where
  name_long : {floor r o up : ℕ} {name : List ℕ} {nullable : Bool} {shape : Shape} {parts rest : Fields}
      → Held space (side swap s w) floor link r o up (field name nullable shape parts rest) → length name ≡ h.name_len
  name_long {floor} {r} {o} {up} {name} {nullable} {shape} {parts} {rest} a =
      sym (ap (λ (x : Head). x.name_len) (head_is (side swap s w) space.n floor link r o name nullable shape parts rest a.source.leads h e))

  module _ {v₁ : List ℕ} (v : List ℕ) (lt : to.at < space.n) (nm : NamedAt space (side swap s w) w v₁ h to true) {g : Target} (eg : g ≡ target_at to h.name_len (nullable_in h))
      {next : ℕ} (en : next ≡ moved_link h.next link to.at) where
    module _ {floor r o up : ℕ} {name : List ℕ} {nullable : Bool} {shape : Shape} {parts rest : Fields}
        (a : Held space (side swap s w) floor link r o up (field name nullable shape parts rest)) where
      held_1 : Held space (side swap s v₁) floor link r o up (field name nullable shape parts rest)
      held_1 = held_side swap space s w v₁ to.at to.label room.half nm.kept a

      head_1 : h ≡ head_at (side swap s v₁) link
      head_1 =
          head_is (side swap s w) space.n floor link r o name nullable shape parts rest a.source.leads h e
          ∙ sym (head_is (side swap s v₁) space.n floor link r o name nullable shape parts rest held_1.source.leads (head_at (side swap s v₁) link) refl)

      chain : Chain space (side swap s w) link (field name nullable shape parts rest)
      chain = record { floor = floor; at = r; label = o; up = up; held = a }

      next_is : next ≡ link_to (to.at + 1 + count parts) rest
      unfolding count
      next_is =
          en
          ∙ ap₂ (λ (x l : ℕ). moved_link x l to.at)
          (ap (λ (x : Head). x.next) (head_is (side swap s w) space.n floor link r o name nullable shape parts rest a.source.leads h e)
          ∙ ap (λ (x : ℕ). link_to x rest) {x = r + 1 + count parts} {y = r + (1 + count parts)} (omega arith)) a.source.leads.is
          ∙ moved_link_lem r to.at (1 + count parts) rest (omega (arith, room.few, inside.records, a.source.leads.inside)) (omega arith)
          ∙ ap (λ (x : ℕ). link_to x rest) {x = to.at + (1 + count parts)} {y = to.at + 1 + count parts} (omega arith)

    copied : (o : Written) → CopiedHead space (side swap s v₁) v₁ v h link (target_at to h.name_len (nullable_in h)) next o → CopiedRecord space (side swap s w) w v link to o
    copied (Ok d) c =
        record {
          kept = kept_trans nm.kept (kept_wider to.at to.label (omega arith) (omega arith) c.kept);
          grows = (c.passes.0, (omega (arith, c.passes.1.0), omega (arith, c.passes.1.1)));
          further = c.passes.1.0;
          means =
              λ floor r o up name nullable shape parts rest a.
              let m = c.means.1 floor r o up name nullable shape parts rest (held_1 a) (head_1 a) in
              let l = length-append name (zone_bytes shape.zone) in
              let st = m.1 name (nm.named refl link name nullable (nullable_in h) shape parts rest (chain a) e) in (
                c.means.0,
                (
                  omega (arith, m.0, l, name_long a),
                  subst₂ (λ (y : Bool) (k : ℕ). Stands (region space v) space.n to.at to.label name y shape (link_to (to.at + 1) parts) k)
                      (read_nullable a.source h e) (next_is a) st,
                ),
              );
        }
    copied (Err NoType) c = absurd c.means
    copied (Err Full) c =
        record {
          kept = kept_trans nm.kept (kept_wider to.at to.label (omega arith) (omega arith) c.kept);
          grows = tt;
          further = tt;
          means =
              λ floor r o up name nullable shape parts rest a.
              omega (arith, c.means floor r o up name nullable shape parts rest (held_1 a) (head_1 a), length-append name (zone_bytes shape.zone), name_long a);
        }

    pub record_copied : (o : Written) → CopiedHead space (side swap s v₁) v₁ v h link g next o → CopiedRecord space (side swap s w) w v link to o
    record_copied o c = copied o (rw eg at c)
