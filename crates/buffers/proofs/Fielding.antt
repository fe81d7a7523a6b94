-- A field that was named and copied, and what a head tells of its type. Assumes nothing.
use mathlib.Core.Path.{◌≡◌, refl, ap, sym, subst, ◌∙◌}
use mathlib.Core.Bool.{Bool, true, false}
use mathlib.Core.List.{List}
use mathlib.Core.Logic.{inl, inr, ⊎_elim}
use Prim.Native.Nat.{ℕ, ◌+◌, ◌*◌, ◌≤◌}
use native.Mathlib.Omega.{arith}
use lib.ListN.{length, take, drop, length-take}
use Rattle.sheet.specs.Booleans.{implies}
use Rattle.sheet.specs.Types.{Zone, absent, present, Shape, Fields, end, field, count}
use Rattle.sheet.specs.Head.{head_at, nullable_in}
use Rattle.sheet.specs.Encode.{link_to, quad_of, head_of}
use Rattle.sheet.specs.Refusals.{figures_right}
use Rattle.sheet.specs.Carried.{is_zoned}
use Rattle.sheet.specs.Bounds.{Bounded}
use Rattle.sheet.specs.Holds.{Span}
use Rattle.sheet.specs.declared.Head.{Head}
use Rattle.sheet.proofs.Booleans.{never, all_at}
use Rattle.sheet.proofs.Spans.{span_move}
use Rattle.sheet.proofs.Repeating.{head_is}
use Rattle.coercion.specs.Data.{DataType}
use Rattle.buffers.specs.Writes.{side, Put}
use Rattle.buffers.specs.Region.{Room, Kept, Held, Inside, Ready, Wrote, Named}
use Rattle.buffers.specs.Target.{CopiedType}
use Rattle.plain.specs.Steps.{Reads}
use Rattle.buffers.specs.Typed.{Chain, Typed, target_at, NamedAt, CopiedField}
use Rattle.buffers.specs.declared.Space.{Space}
use Rattle.buffers.specs.declared.Place.{Place}
use Rattle.buffers.specs.declared.Target.{Target}
use Rattle.buffers.specs.Written.{Written}
use Rattle.std.specs.Prelude.{Ok, Err}
use Rattle.buffers.specs.declared.Failure.TheVariants.{NoType, Full}
use Rattle.buffers.proofs.Sources.{read_name, read_nullable}
use Rattle.buffers.proofs.Frames.{kept_trans, kept_wider}
use Rattle.buffers.proofs.Copying.{span_region, label_kept, held_side}

-- the head that a link of a chain leads to
module _ {space : Space} {s : List ℕ} {link : ℕ} {name : List ℕ} {nullable : Bool} {shape : Shape} {parts rest : Fields}
    (c : Chain space s link (field name nullable shape parts rest)) (h : Head) (e : h ≡ head_at s link) where
  pub chain_head : h ≡ head_of c.label name nullable shape (link_to (c.at + 1) parts) (link_to (c.at + 1 + count parts) rest)
  chain_head = head_is s space.n c.floor link c.at c.label name nullable shape parts rest c.held.source.leads h e

  pub name_length_lem : length name ≡ h.name_len
  name_length_lem = sym (ap (λ (x : Head). x.name_len) chain_head)

-- a zone that only a Timestamp may have
bare_of : (z : Zone) {b : Bool} → implies (is_zoned z) b ≡ true → b ≡ false → z ≡ absent
bare_of absent p q = refl
bare_of (present z) p q = never (sym q ∙ p)

pub typed_reads : {space : Space} {s : List ℕ} {link : ℕ} {t : DataType} {h : Head} → Typed space s link t → h ≡ head_at s link → Reads h t
unfolding figures_right
typed_reads {t = t} {h} a e =
    let c = a.chain in
    let eh = chain_head c h e in
    let right = c.held.source.right.0 in
    record {
      kind = sym (ap (λ (x : Head). x.kind) eh);
      figure = sym (ap (λ (x : Head). x.figure) eh);
      scale = sym (ap (λ (x : Head). x.scale) eh);
      known = right.known;
      bare = λ q. bare_of t.shape.zone (all_at _ 3 right.figures) q;
      size = λ z. sym (ap (λ (x : Head). x.bytes_4_7) eh ∙ ap (quad_of (c.label + length a.name) t.shape.size) z);
    }

-- the name of a record, where there is room for it
module _ (space : Space) (s w : List ℕ) (swap : Bool) (h : Head) (to : Place) where
  pub name_put : (v : List ℕ) → Inside space to → to.label + h.name_len ≤ space.m
      → Put w v (space.half + 16 * space.n + to.label) (take h.name_len (drop (16 * space.n + h.name) (side swap s w))) → NamedAt space (side swap s w) w v h to true
  name_put v inside q p =
      record {
        kept =
            label_kept space w v to.at to.label to.label _ inside.records (omega arith)
            (omega (arith, length-take h.name_len (drop (16 * space.n + h.name) (side swap s w)))) p;
        fits = λ z. q;
        full = λ z. never (sym z);
        named =
            λ z link name nullable own shape parts rest c e.
            record {
              long = name_length_lem c h e;
              span =
                  span_region space v (16 * space.n + to.label) name
                  (span_move {i = space.half + 16 * space.n + to.label} (omega arith)
                  (subst (λ (u : List ℕ). Span v (space.half + 16 * space.n + to.label) u) (read_name c.held.source h e) p.span));
            };
      }

pub field_ready : {space : Space} {s w v : List ℕ} {h : Head} {to : Place} {b : Bool} (own : Bool) → Inside space to → Bounded h → b ≡ true → NamedAt space s w v h to b
    → Ready space (target_at to h.name_len own)
field_ready own inside bounded z nm =
    record { some = inside.some; records = inside.records; letters = nm.fits z; short = omega (arith, bounded.name_len) }

-- a field that was copied: its name, and then its type
module _ (space : Space) (s w : List ℕ) (swap : Bool) (link : ℕ) (to : Place) (room : Room w space) (h : Head) (e : h ≡ head_at (side swap s w) link)
    (v : List ℕ) (nm : NamedAt space (side swap s w) w v h to true) {g : Target} (eg : g ≡ target_at to h.name_len (nullable_in h)) where
  moved : {t : Fields} (c : Chain space (side swap s w) link t) → Held space (side swap s v) c.floor link c.at c.label c.up t
  moved c = held_side swap space s w v to.at to.label room.half nm.kept c.held

  kept : (u : List ℕ) → Kept space v u to.at (to.label + h.name_len) → Kept space w u to.at to.label
  kept u k = kept_trans nm.kept (kept_wider to.at to.label (omega arith) (omega arith) k)

  own : {name : List ℕ} {nullable : Bool} {shape : Shape} {parts rest : Fields} → Chain space (side swap s w) link (field name nullable shape parts rest)
      → Named space v (target_at to h.name_len (nullable_in h)) name
  own {name} {nullable} {shape} {parts} {rest} c = nm.named refl link name nullable (nullable_in h) shape parts rest c e

  typed : (u : List ℕ) (o : Written) → CopiedType space (side swap s v) v u link (target_at to h.name_len (nullable_in h)) o → CopiedField space (side swap s w) w u link to o
  typed u (Ok d) k =
      record {
        kept = kept u k.writes.kept;
        grows = (k.writes.passes.0, (omega (arith, k.writes.passes.1.0), omega (arith, k.writes.passes.1.1)));
        further = k.writes.passes.1.0;
        means =
            λ name nullable shape parts rest c.
            subst (λ (y : Bool). Wrote space u to d (field name y shape parts end)) (read_nullable c.held.source h e)
            (k.means _ _ _ _ name nullable shape parts rest (moved c) name (own c));
      }
  typed u (Err NoType) k =
      record { kept = kept u k.writes.kept; grows = tt; further = tt; means = λ name nullable shape parts rest c. k.means _ _ _ _ name nullable shape parts rest (moved c) }
  typed u (Err Full) k =
      record {
        kept = kept u k.writes.kept;
        grows = tt;
        further = tt;
        means =
            λ name nullable shape parts rest c.
            ⊎_elim (λ x. inl (omega arith)) (λ x. inr (omega (arith, name_length_lem c h e))) (k.means _ _ _ _ name nullable shape parts rest (moved c));
      }

  pub field_copied : (u : List ℕ) (o : Written) → CopiedType space (side swap s v) v u link g o → CopiedField space (side swap s w) w u link to o
  field_copied u o k = typed u o (rw eg at k)
