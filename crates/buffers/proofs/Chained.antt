-- A chain that was copied, record by record. Assumes nothing.
use mathlib.Core.Path.{◌≡◌, refl, ap, sym, subst, subst₂, ◌∙◌}
use mathlib.Core.Bool.{Bool}
use mathlib.Core.List.{List, ◌++◌}
use mathlib.Core.Logic.{inl, inr, ⊎_elim}
use Prim.Native.Nat.{ℕ, ◌+◌, ◌≤◌}
use native.Mathlib.Omega.{arith}
use lib.ListN.{length, length-append}
use Rattle.sheet.specs.Types.{Shape, Fields, end, field, count, own_labels, labels}
use Rattle.sheet.specs.Names.{names_differ}
use Rattle.sheet.specs.Head.{head_at}
use Rattle.sheet.specs.Holds.{Holds}
use Rattle.sheet.specs.declared.Head.{Head}
use Rattle.sheet.proofs.Booleans.{all_at}
use Rattle.buffers.specs.Writes.{side}
use Rattle.buffers.specs.Region.{Room, region, Kept, Held, Inside, Short, Wrote, CopiedRecord, CopiedChain}
use Rattle.buffers.specs.declared.Space.{Space}
use Rattle.buffers.specs.declared.Place.{Place}
use Rattle.buffers.specs.Written.{Written}
use Rattle.std.specs.Prelude.{Ok, Err}
use Rattle.buffers.specs.declared.Failure.{Failure}
use Rattle.buffers.specs.declared.Failure.TheVariants.{NoType, Full}
use Rattle.buffers.proofs.Sources.{source_first, source_next}
use Rattle.buffers.proofs.Frames.{stands_frame, wrote_frame, kept_trans, kept_wider, kept_self}
use Rattle.buffers.proofs.Copying.{held_side}

-- the room stays
pub room_kept : {space : Space} {w v : List ℕ} {at label : ℕ} → Kept space w v at label → Room w space → Room v space
room_kept k r = record { half = r.half; few = r.few; short = r.short; inside = omega (arith, r.inside, k.long) }

-- a link to nowhere leads to no record
pub held_end : {space : Space} {s : List ℕ} {floor link r o up : ℕ} (t : Fields) → link ≡ 0 → Held space s floor link r o up t → t ≡ end
held_end end e a = refl
held_end (field name nullable shape parts rest) e a = absurd (omega (arith, a.source.leads.is, a.source.leads.above))

-- the labels of a chain
pub labels_sum : (name : List ℕ) (nullable : Bool) (shape : Shape) (parts rest : Fields)
    → length (labels (field name nullable shape parts rest)) ≡ length (own_labels name shape) + (length (labels parts) + length (labels rest))
unfolding labels
labels_sum name nullable shape parts rest =
    length-append (own_labels name shape) (labels parts ++ labels rest) ∙ ap (λ (k : ℕ). length (own_labels name shape) + k) (length-append (labels parts) (labels rest))

module _ {space : Space} {s : List ℕ} {floor link r o up : ℕ} {name : List ℕ} {nullable : Bool} {shape : Shape} {parts rest : Fields}
    (a : Held space s floor link r o up (field name nullable shape parts rest)) (h : Head) (e : h ≡ head_at s link) where
  pub held_first : Held space s link h.first (r + 1) (o + length (own_labels name shape)) shape.kind parts
  unfolding names_differ
  held_first =
      record {
        source = source_first a.source h e;
        low = omega (arith, a.low, labels_sum name nullable shape parts rest);
        differ = all_at _ 1 a.differ;
      }

  pub held_next : Held space s link h.next (r + 1 + count parts) (o + length (own_labels name shape) + length (labels parts)) up rest
  unfolding names_differ
  held_next =
      record {
        source = source_next a.source h e;
        low = omega (arith, a.low, labels_sum name nullable shape parts rest);
        differ = all_at _ 2 a.differ;
      }

module _ (space : Space) (s : List ℕ) (swap : Bool) (link : ℕ) (to : Place) where
  pub chain_none : (w : List ℕ) → Inside space to → link ≡ 0 → CopiedChain space (side swap s w) w w link to (Ok to)
  unfolding count labels
  chain_none w inside z =
      record {
        kept = kept_self w to.at to.label;
        grows = (inside, (omega arith, omega arith));
        means =
            λ floor r o up t a.
            subst (λ (x : Fields). Wrote space w to to x) (sym (held_end t z a)) (record { records = omega arith; letters = omega arith; holds = tt });
      }

  pub chain_past : (w : List ℕ) → ¬ (link ≡ 0) → space.n ≤ to.at → CopiedChain space (side swap s w) w w link to (Err Full)
  unfolding count
  chain_past w z q = record { kept = kept_self w to.at to.label; grows = tt; means = go }
    where
      go : (floor r o up : ℕ) (t : Fields) → Held space (side swap s w) floor link r o up t → Short space to (count t) (length (labels t))
      go floor r o up end a = absurd (z a.source.leads.is)
      go floor r o up (field name nullable shape parts rest) a = inl (omega arith)

  module _ (w : List ℕ) (room : Room w space) (h : Head) (eh : h ≡ head_at (side swap s w) link) (z : ¬ (link ≡ 0)) where
    pub chain_full : (v : List ℕ) → CopiedRecord space (side swap s w) w v link to (Err Full) → CopiedChain space (side swap s w) w v link to (Err Full)
    unfolding count
    chain_full v c = record { kept = c.kept; grows = tt; means = go }
      where
        go : (floor r o up : ℕ) (t : Fields) → Held space (side swap s w) floor link r o up t → Short space to (count t) (length (labels t))
        go floor r o up end a = absurd (z a.source.leads.is)
        go floor r o up (field name nullable shape parts rest) a =
            inr (omega (arith, c.means floor r o up name nullable shape parts rest a, labels_sum name nullable shape parts rest))

    module _ (v : List ℕ) (d : Place) (c : CopiedRecord space (side swap s w) w v link to (Ok d)) where
      -- the same links, after the record was written
      first_held : {floor r o up : ℕ} {name : List ℕ} {nullable : Bool} {shape : Shape} {parts rest : Fields}
          → Held space (side swap s w) floor link r o up (field name nullable shape parts rest)
          → Held space (side swap s v) link h.first (r + 1) (o + length (own_labels name shape)) shape.kind parts
      first_held a = held_side swap space s w v to.at to.label room.half c.kept (held_first a h eh)

      next_held : (u : List ℕ) → Kept space v u d.at d.label → {floor r o up : ℕ} {name : List ℕ} {nullable : Bool} {shape : Shape} {parts rest : Fields}
          → Held space (side swap s w) floor link r o up (field name nullable shape parts rest)
          → Held space (side swap s u) link h.next (r + 1 + count parts) (o + length (own_labels name shape) + length (labels parts)) up rest
      next_held u k a =
          held_side swap space s v u d.at d.label room.half k (held_side swap space s w v to.at to.label room.half c.kept (held_next a h eh))

      pub chain_parts_full : (u : List ℕ) → CopiedChain space (side swap s v) v u h.first d (Err Full) → CopiedChain space (side swap s w) w u link to (Err Full)
      unfolding count
      chain_parts_full u b =
          record {
            kept = kept_trans c.kept (kept_wider to.at to.label c.grows.1.0 c.grows.1.1 b.kept);
            grows = tt;
            means = go;
          }
        where
          go : (floor r o up : ℕ) (t : Fields) → Held space (side swap s w) floor link r o up t → Short space to (count t) (length (labels t))
          go floor r o up end a = absurd (z a.source.leads.is)
          go floor r o up (field name nullable shape parts rest) a =
              let m = c.means floor r o up name nullable shape parts rest a in
              let l = labels_sum name nullable shape parts rest in
              ⊎_elim (λ x. inl (omega (arith, m.0))) (λ x. inr (omega (arith, m.1.0, l))) (b.means link (r + 1) _ shape.kind parts (first_held a))

      module _ (u : List ℕ) (e : Place) (b : CopiedChain space (side swap s v) v u h.first d (Ok e)) where
        kept_2 : Kept space w u to.at to.label
        kept_2 = kept_trans c.kept (kept_wider to.at to.label c.grows.1.0 c.grows.1.1 b.kept)

        kept_3 : (x : List ℕ) → Kept space u x e.at e.label → Kept space w x to.at to.label
        kept_3 x k =
            kept_trans kept_2
            (kept_wider to.at to.label (omega (arith, c.grows.1.0, b.grows.1.0)) (omega (arith, c.grows.1.1, b.grows.1.1)) k)

        rest_full : (x : List ℕ) → CopiedChain space (side swap s u) u x h.next e (Err Full) → CopiedChain space (side swap s w) w x link to (Err Full)
        unfolding count
        rest_full x k = record { kept = kept_3 x k.kept; grows = tt; means = go }
          where
            go : (floor r o up : ℕ) (t : Fields) → Held space (side swap s w) floor link r o up t → Short space to (count t) (length (labels t))
            go floor r o up end a = absurd (z a.source.leads.is)
            go floor r o up (field name nullable shape parts rest) a =
                let m = c.means floor r o up name nullable shape parts rest a in
                let p = b.means link (r + 1) _ shape.kind parts (first_held a) in
                let l = labels_sum name nullable shape parts rest in
                ⊎_elim (λ y. inl (omega (arith, m.0, p.records))) (λ y. inr (omega (arith, m.1.0, p.letters, l)))
                (k.means link (r + 1 + count parts) _ up rest (next_held u b.kept a))

        rest_done : (x : List ℕ) (f : Place) → CopiedChain space (side swap s u) u x h.next e (Ok f) → CopiedChain space (side swap s w) w x link to (Ok f)
        unfolding count
        rest_done x f k =
            record {
              kept = kept_3 x k.kept;
              grows = (k.grows.0, (omega (arith, c.grows.1.0, b.grows.1.0, k.grows.1.0), omega (arith, c.grows.1.1, b.grows.1.1, k.grows.1.1)));
              means = go;
            }
          where
            go : (floor r o up : ℕ) (t : Fields) → Held space (side swap s w) floor link r o up t → Wrote space x to f t
            go floor r o up end a = absurd (z a.source.leads.is)
            go floor r o up (field name nullable shape parts rest) a =
                let m = c.means floor r o up name nullable shape parts rest a in
                let p = b.means link (r + 1) _ shape.kind parts (first_held a) in
                let q = k.means link (r + 1 + count parts) _ up rest (next_held u b.kept a) in
                let l = labels_sum name nullable shape parts rest in
                let ed : d.at ≡ to.at + 1 = m.0 in
                let el : d.label ≡ to.label + length (own_labels name shape) = m.1.0 in
                let own = length (own_labels name shape) in
                let kept-4 : Kept space v x d.at d.label = kept_trans b.kept (kept_wider d.at d.label b.grows.1.0 b.grows.1.1 k.kept) in
                let ps : Holds (region space x) space.n d.at d.label parts =
                wrote_frame space u x e.at e.label d.at d.label parts (omega (arith, p.records)) (omega (arith, p.letters)) k.kept p.holds in
                let ea : e.at ≡ to.at + 1 + count parts = omega (arith, p.records) in
                let eb : e.label ≡ to.label + own + length (labels parts) = omega (arith, p.letters) in
                record {
                  records = omega (arith, q.records);
                  letters = omega (arith, q.letters);
                  holds = (
                    stands_frame space v x d.at d.label to.at to.label (omega arith) (omega arith) kept-4 m.1.1,
                    (
                      subst₂ (λ (i j : ℕ). Holds (region space x) space.n i j parts) ed el ps,
                      subst₂ (λ (i j : ℕ). Holds (region space x) space.n i j rest) ea eb q.holds,
                    ),
                  );
                }

        pub chain_on : (o : Written) (x : List ℕ) → CopiedChain space (side swap s u) u x h.next e o → CopiedChain space (side swap s w) w x link to o
        chain_on (Ok f) x k = rest_done x f k
        chain_on (Err NoType) x k = absurd k.means
        chain_on (Err Full) x k = rest_full x k

-- the same, as the loop over a chain has it
module _ (space : Space) (s : List ℕ) (swap : Bool) (link : ℕ) (to : Place) (w : List ℕ) (room : Room w space) (h : Head) (eh : h ≡ head_at (side swap s w) link) (z : ¬ (link ≡ 0)) where
  pub chain_stop : (v : List ℕ) (e : Failure) → CopiedRecord space (side swap s w) w v link to (Err e) → CopiedChain space (side swap s w) w v link to (Err e)
  chain_stop v NoType c = absurd c.means
  chain_stop v Full c = chain_full space s swap link to w room h eh z v c

  module _ (v : List ℕ) (d : Place) (c : CopiedRecord space (side swap s w) w v link to (Ok d)) where
    pub chain_parts_stop : (u : List ℕ) (e : Failure) → CopiedChain space (side swap s v) v u h.first d (Err e) → CopiedChain space (side swap s w) w u link to (Err e)
    chain_parts_stop u NoType b = absurd b.means
    chain_parts_stop u Full b = chain_parts_full space s swap link to w room h eh z v d c u b

    -- nothing follows the record
    pub chain_last : h.next ≡ 0 → (o : Written) (u : List ℕ) → CopiedChain space (side swap s v) v u h.first d o → CopiedChain space (side swap s w) w u link to o
    chain_last q (Ok e) u b = chain_on space s swap link to w room h eh z v d c u e b (Ok e) u (chain_none space s swap h.next e u b.grows.0 q)
    chain_last q (Err e) u b = chain_parts_stop u e b

    -- the record has no parts
    pub chain_plain : h.first ≡ 0 → (o : Written) (x : List ℕ) → CopiedChain space (side swap s v) v x h.next d o → CopiedChain space (side swap s w) w x link to o
    chain_plain q o x k = chain_on space s swap link to w room h eh z v d c v d (chain_none space s swap h.first d v c.grows.0 q) o x k

-- a turn of that loop: what is copied from link on gives what is copied from start on
pub record Left (space : Space) (s : List ℕ) (swap : Bool) (start : ℕ) (to : Place) (w₀ w : List ℕ) (link : ℕ) (spot : Place) : Type 0 where
  pub long : length w ≡ length w₀
  pub room : Room w space
  pub inside : Inside space spot
  pub further : to.at ≤ spot.at
  pub whole : (o : Written) (x : List ℕ) → CopiedChain space (side swap s w) w x link spot o → CopiedChain space (side swap s w₀) w₀ x start to o

pub left_on : {space : Space} {s : List ℕ} {swap : Bool} {start : ℕ} {to : Place} {w₀ w : List ℕ} {link : ℕ} {spot : Place} → Left space s swap start to w₀ w link spot
    → {v : List ℕ} {at label next : ℕ} {d : Place} → Kept space w v at label → Inside space d → spot.at ≤ d.at
    → ((o : Written) (x : List ℕ) → CopiedChain space (side swap s v) v x next d o → CopiedChain space (side swap s w) w x link spot o)
    → Left space s swap start to w₀ v next d
left_on l k i f g =
    record {
      long = k.long ∙ l.long;
      room = room_kept k l.room;
      inside = i;
      further = omega (arith, l.further);
      whole = λ o x c. l.whole o x (g o x c);
    }
