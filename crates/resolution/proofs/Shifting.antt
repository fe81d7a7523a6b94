-- Bytes that were moved, and what stands in them. Assumes nothing.
use mathlib.Core.Path.{◌≡◌, refl, ap, sym, subst, ◌∙◌}
use mathlib.Core.List.{List}
use Prim.Native.Nat.{ℕ, ◌+◌, ◌*◌, ◌-◌, ◌<◌, ◌≤◌}
use native.Mathlib.Omega.{arith}
use lib.ListN.{length, get_or, take, length-drop}
use lib.Seq.{get_or-drop, take_all}
use Rattle.sheet.specs.Head.{head_at}
use Rattle.sheet.specs.Carried.{FieldsRight}
use Rattle.sheet.specs.declared.Head.{Head}
use Rattle.sheet.specs.Types.{Fields, end, field, count, own_labels, labels}
use Rattle.sheet.specs.Holds.{Holds}
use Rattle.sheet.proofs.Heads.{head_inside}
use Rattle.sheet.proofs.Spans.{at_eq, at_span, span_at, span_inside}
use Rattle.coercion.specs.Data.{DataType, single}
use Rattle.buffers.specs.Region.{Room, region, Held, Inside}
use Rattle.buffers.specs.Typed.{Typed}
use Rattle.buffers.specs.declared.Space.{Space}
use Rattle.buffers.specs.declared.Place.{Place}
use Rattle.buffers.proofs.Frames.{head_bytes, record_inside}
use Rattle.buffers.proofs.Chained.{labels_sum}
use Rattle.buffers.proofs.Rows.{chain_typed}
use Rattle.resolution.specs.Reached.{Shifted, Candidate, Mirrored}

-- the bytes of w from i up to e, as far as it has them
abbrev Matches : List ℕ → List ℕ → ℕ → ℕ → Type 0
Matches w v i e = (j : ℕ) → i ≤ j → j < e → j < length w → get_or v j 0 ≡ get_or w j 0

-- a chain stands where its records and its labels are the same, in bytes of another length
holds_moved : (w v : List ℕ) (n r o up : ℕ) (t : Fields) → 16 * (r + count t) ≤ length v → 16 * n + (o + length (labels t)) ≤ length v
    → Matches w v (16 * r) (16 * (r + count t)) → Matches w v (16 * n + o) (16 * n + (o + length (labels t))) → FieldsRight up t → Holds w n r o t → Holds v n r o t
unfolding count
holds_moved w v n r o up end q l f g k a = tt
holds_moved w v n r o up (field name nullable shape parts rest) q l f g k a =
    let own = own_labels name shape in
    let e = labels_sum name nullable shape parts rest in
    let i = record_inside w r shape.kind (ap (λ (x : Head). x.kind) a.0.head) k.0.known in (
      record {
        head = head_inside v r (omega arith) ∙ head_bytes w v r (λ j lo hi. f j lo (omega arith) (omega arith)) ∙ sym (head_inside w r i) ∙ a.0.head;
        label =
            at_span v (16 * n + o) own (omega arith)
            (λ j h. g (16 * n + o + j) (omega arith) (omega arith) (omega (arith, span_inside {u = own} (omega arith) a.0.label)) ∙ span_at j h a.0.label);
      },
      (
        holds_moved w v n (r + 1) (o + length own) shape.kind parts (omega arith) (omega arith) (λ j lo hi. f j (omega arith) (omega arith))
            (λ j lo hi. g j (omega arith) (omega arith)) k.1.0 a.1.0,
        holds_moved w v n (r + 1 + count parts) (o + length own + length (labels parts)) up rest (omega arith) (omega arith)
            (λ j lo hi. f j (omega arith) (omega arith)) (λ j lo hi. g j (omega arith) (omega arith)) k.1.1 a.1.1,
      ),
    )

-- a candidate stands at the front of the second half
module _ (space : Space) (w : List ℕ) (d : Place) (c : DataType) (room : Room w space) (inside : Inside space d) (k : Candidate space w d c) where
  pub candidate_held : Held space (region space w) 0 1 1 0 0 (single c)
  candidate_held =
      record {
        source =
            record {
              leads = record { holds = k.wrote.holds; is = refl; above = omega arith; inside = omega (arith, k.wrote.records, inside.records) };
              right = k.right;
              short = omega (arith, k.wrote.letters, inside.letters, room.short);
            };
        low = omega (arith, k.wrote.letters, inside.letters);
        differ = k.differ;
      }

  pub candidate_stands : Typed space (region space w) 1 c
  candidate_stands = chain_typed (record { floor = 0; at = 1; label = 0; up = 0; held = candidate_held })

-- what stands in the bytes of a candidate that was moved stands in the first half
pub held_shifted : (space : Space) (w v : List ℕ) (d : Place) {floor link r o up : ℕ} (t : Fields) → Room w space → Inside space d → Shifted space w v d → r + count t ≤ d.at
    → o + length (labels t) ≤ d.label → Held space (region space w) floor link r o up t → Held space v floor link r o up t
held_shifted space w v d {r = r} {o} {up} t room inside a few short h =
    let l = h.source.leads in
    record {
      source =
          record {
            leads =
                record {
                  holds =
                      holds_moved (region space w) v space.n r o up t (omega (arith, room.half, room.inside, inside.records, a.long))
                      (omega (arith, room.half, room.inside, inside.letters, a.long)) (λ j lo hi q. a.records j (omega arith) ∙ sym (get_or-drop space.half w j 0)) moved h.source.right
                      l.holds;
                  is = l.is;
                  above = l.above;
                  inside = l.inside;
                };
            right = h.source.right;
            short = h.source.short;
          };
      low = h.low;
      differ = h.differ;
    }
  where
    moved : Matches (region space w) v (16 * space.n + o) (16 * space.n + (o + length (labels t)))
    moved j lo hi q =
        at_eq v {i = j} {j = 16 * space.n + (j - 16 * space.n)} (omega arith) ∙ a.letters (j - 16 * space.n) (omega arith)
        ∙ at_eq w {i = space.half + (16 * space.n + (j - 16 * space.n))} {j = space.half + j} (omega arith) ∙ sym (get_or-drop space.half w j 0)

-- a candidate that was moved is a type in the first half
pub candidate_typed : (space : Space) (w v : List ℕ) (d : Place) (c : DataType) → Room w space → Inside space d → Shifted space w v d → Candidate space w d c → Typed space v 1 c
candidate_typed space w v d c room inside a k =
    chain_typed
    (record {
      floor = 0;
      at = 1;
      label = 0;
      up = 0;
      held =
          held_shifted space w v d (single c) room inside a (omega (arith, k.wrote.records)) (omega (arith, k.wrote.letters)) (candidate_held space w d c room inside k);
    })

-- a type of the sheet is one of the first half
pub mirrored_typed : (space : Space) (s w v : List ℕ) {link : ℕ} {t : DataType} → Room w space → Mirrored space s w v → Typed space s link t → Typed space v link t
mirrored_typed space s w v {t = t} room m a =
    let c = a.chain in
    let types = field a.name a.nullable t.shape t.parts a.rest in
    let l = c.held.source.leads in
    record {
      name = a.name;
      nullable = a.nullable;
      rest = a.rest;
      chain =
          record {
            floor = c.floor;
            at = c.at;
            label = c.label;
            up = c.up;
            held =
                record {
                  source =
                      record {
                        leads =
                            record {
                              holds =
                                  holds_moved s v space.n c.at c.label c.up types (omega (arith, room.half, room.inside, l.inside, m.long))
                                  (omega (arith, room.half, room.inside, c.held.low, m.long)) (λ j lo hi q. m.same j (omega (arith, room.half, l.inside)) q)
                                  (λ j lo hi q. m.same j (omega (arith, room.half, c.held.low)) q) c.held.source.right l.holds;
                              is = l.is;
                              above = l.above;
                              inside = l.inside;
                            };
                        right = c.held.source.right;
                        short = c.held.source.short;
                      };
                  low = c.held.low;
                  differ = c.held.differ;
                };
          };
    }

-- the second half as a part of the work space, and the candidate in it
module _ (space : Space) (w : List ℕ) where
  abbrev pub second : List ℕ
  second = take (length w - space.half) (region space w)

  second_half : second ≡ region space w
  second_half = take_all (length w - space.half) (region space w) (omega (arith, length-drop space.half w))

  pub head_second : (h : Head) (r : ℕ) → h ≡ head_at second r → h ≡ head_at (region space w) r
  head_second h r e = e ∙ ap (λ (u : List ℕ). head_at u r) second_half

  pub to_second : (P : List ℕ → Type 0) → P (region space w) → P second
  to_second P = subst P (sym second_half)

  pub on_candidate : {P : DataType → DataType → Type 0} {s : List ℕ} {link : ℕ} {d : Place} → Room w space → Inside space d
      → ((x c : DataType) → Typed space s link x → Typed space second 1 c → P x c) → (x c : DataType) → Typed space s link x → Candidate space w d c → P x c
  on_candidate {d = d} room inside f x c a b = f x c a (to_second (λ u. Typed space u 1 c) (candidate_stands space w d c room inside b))
