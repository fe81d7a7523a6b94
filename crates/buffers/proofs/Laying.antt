-- A type that was written at a goal. Assumes nothing.
use mathlib.Core.Path.{◌≡◌, ap, sym, subst₂, ◌∙◌}
use mathlib.Core.Bool.{Bool, false}
use mathlib.Core.List.{List, [], ◌++◌}
use mathlib.Core.Logic.{inl, inr, ⊎_elim}
use Prim.Native.Nat.{ℕ, ◌+◌, ◌*◌, ◌-◌, ◌<◌, ◌≤◌}
use native.Mathlib.Omega.{arith}
use lib.ListN.{length, length-append, length-drop}
use lib.Seq.{get_or-drop}
use Rattle.sheet.specs.Types.{Shape, Fields, field, count, zone_bytes, own_labels, labels}
use Rattle.sheet.specs.Head.{head_at, bytes_of}
use Rattle.sheet.specs.Encode.{offset, bit, head_of}
use Rattle.sheet.specs.Holds.{Stands, Holds}
use Rattle.sheet.specs.declared.Head.{Head}
use Rattle.sheet.proofs.Spans.{span_join, span_nil, span_move}
use Rattle.sheet.proofs.Heads.{span_head}
use Rattle.buffers.specs.Writes.{side, Put}
use Rattle.buffers.specs.Region.{Room, region, Kept, Held, Ready, Named, moved_label, CopiedHead, CopiedChain}
use Rattle.buffers.specs.Target.{past, Laid, LaidPlain, LaidZoned, CopiedType, shape_for, zoned_shape}
use Rattle.buffers.specs.declared.Space.{Space}
use Rattle.buffers.specs.declared.Place.{Place}
use Rattle.buffers.specs.declared.Target.{Target}
use Rattle.buffers.specs.Written.{Written}
use Rattle.std.specs.Prelude.{Ok, Err}
use Rattle.buffers.specs.declared.Failure.{Failure}
use Rattle.buffers.specs.declared.Failure.TheVariants.{NoType, Full}
use Rattle.buffers.proofs.Frames.{span_frame, stands_frame, kept_trans, kept_wider}
use Rattle.buffers.proofs.Copying.{span_region, label_kept, head_kept, held_side, moved_name}
use Rattle.buffers.proofs.Chained.{held_first}

-- the name at a goal stays while what is written comes after it
pub named_kept : (space : Space) (w v : List ℕ) (at label : ℕ) (g : Target) {name : List ℕ} → g.label + g.name_len ≤ label → Kept space w v at label → Named space w g name → Named space v g name
named_kept space w v at label g {name} h k nm =
    record {
      long = nm.long;
      span =
          span_frame {w = region space w} (region space v) name
          (length-drop space.half v ∙ ap (λ (x : ℕ). x - space.half) k.long ∙ sym (length-drop space.half w))
          (λ j lo hi.
          get_or-drop space.half v j 0 ∙ k.between (space.half + j) (omega arith) (omega (arith, nm.long)) ∙ sym (get_or-drop space.half w j 0)) nm.span;
    }

-- a head without a zone that was put at a goal
pub head_laid : (space : Space) (w v : List ℕ) (g : Target) (kind figure scale sz first : ℕ) (sorted : Bool) (a b place : ℕ) → g.at < space.n
    → a ≡ bit g.nullable → b ≡ bit sorted → place ≡ moved_label g.label g.name_len
    → Put w v (space.half + 16 * g.at)
    (bytes_of (record { kind = kind; flags = a + 2 * b; figure = figure; scale = scale; bytes_4_7 = sz; first = first; next = 0; name = place; name_len = g.name_len; byte_15 = 0 }))
    → Laid space w v g (shape_for kind figure scale sz sorted) first
head_laid space w v g kind figure scale sz first sorted a b place lt ea eb ep p =
    let ef : a + 2 * b ≡ bit g.nullable + (2 * bit sorted + 0) = omega (arith, ea, eb) in
    let h : Head = record { kind = kind; flags = a + 2 * b; figure = figure; scale = scale; bytes_4_7 = sz; first = first; next = 0; name = place; name_len = g.name_len; byte_15 = 0 } in
    let kept : Kept space w v g.at (g.label + g.name_len) = head_kept space w v g.at (g.label + g.name_len) h lt p in
    record {
      kept = kept;
      stands =
          λ name nm.
          let l = sym nm.long in
          let c = ep ∙ ap (moved_label g.label) l ∙ moved_name g.label name in
          let e : h ≡ head_of g.label name g.nullable (shape_for kind figure scale sz sorted) first 0 =
          λ i. record { kind = kind; flags = ef i; figure = figure; scale = scale; bytes_4_7 = sz; first = first; next = 0; name = c i; name_len = l i; byte_15 = 0 } in
          record {
            head = span_head (region space v) g.at h (span_region space v (16 * g.at) (bytes_of h) p.span) ∙ e;
            label = span_join name [] (named_kept space w v g.at (g.label + g.name_len) g (omega arith) kept nm).span span_nil;
          };
    }

pub plain_laid : (space : Space) (w v : List ℕ) (g : Target) (kind figure scale : ℕ) → Ready space g → g.at < space.n → Laid space w v g (shape_for kind figure scale 0 false) 0
    → {d : Place} → d ≡ past g 0 → LaidPlain space w v g (shape_for kind figure scale 0 false) (Ok d)
unfolding count labels
plain_laid space w v g kind figure scale ready lt l ed =
    rw ed
    (record {
      writes =
          record {
            kept = l.kept;
            passes = (record { some = omega arith; records = omega arith; letters = omega (arith, ready.letters) }, (omega arith, omega arith));
          };
      means =
          λ name nm.
          record {
            records = omega arith;
            letters = omega (arith, nm.long, length-append name [], length-append (name ++ []) []);
            holds = (l.stands name nm, (tt, tt));
          };
    })

-- the head of a type with a zone, at a goal
abbrev pub zoned_head : Target → ℕ → ℕ → List ℕ → Head
zoned_head g kind figure zone =
    record {
      kind = kind;
      flags = bit g.nullable + 4;
      figure = figure;
      scale = 0;
      bytes_4_7 = moved_label (g.label + g.name_len) (length zone) + 65536 * length zone;
      first = 0;
      next = 0;
      name = moved_label g.label g.name_len;
      name_len = g.name_len;
      byte_15 = 0;
    }

pub zoned_head_lem : (g : Target) (kind figure : ℕ) (zone : List ℕ) (flags off place : ℕ) → flags ≡ bit g.nullable → off ≡ moved_label (g.label + g.name_len) (length zone)
    → place ≡ moved_label g.label g.name_len
    → record { kind = kind; flags = flags + 4; figure = figure; scale = 0; bytes_4_7 = off + 65536 * length zone; first = 0; next = 0; name = place; name_len = g.name_len; byte_15 = 0 }
    ≡ zoned_head g kind figure zone
zoned_head_lem g kind figure zone flags off place ef eo ep =
    λ i.
    record {
      kind = kind;
      flags = ef i + 4;
      figure = figure;
      scale = 0;
      bytes_4_7 = eo i + 65536 * length zone;
      first = 0;
      next = 0;
      name = ep i;
      name_len = g.name_len;
      byte_15 = 0;
    }

-- a type with a zone: the zone was put, and then the head
module _ (space : Space) (w v₁ v : List ℕ) (g : Target) (kind figure : ℕ) (zone : List ℕ) (room : Room w space) (ready : Ready space g)
    (lt : g.at < space.n) (fits : g.label + g.name_len + length zone ≤ space.m) (q : Put w v₁ (space.half + 16 * space.n + (g.label + g.name_len)) zone)
    (x : Head) (ex : x ≡ zoned_head g kind figure zone) (p : Put v₁ v (space.half + 16 * g.at) (bytes_of x)) where
  zoned_kept : Kept space w v g.at (g.label + g.name_len)
  zoned_kept =
      kept_trans (label_kept space w v₁ g.at (g.label + g.name_len) (g.label + g.name_len) zone ready.records (omega arith) fits q)
      (head_kept space v₁ v g.at (g.label + g.name_len) x lt p)

  zoned_stands : (name : List ℕ) → Named space w g name → Stands (region space v) space.n g.at g.label name g.nullable (zoned_shape kind figure zone) 0 0
  zoned_stands name nm =
      let l = sym nm.long in
      let a = ap (moved_label g.label) l ∙ moved_name g.label name in
      let b = ap (λ (k : ℕ). k + 65536 * length zone) (moved_name (g.label + g.name_len) zone ∙ ap (λ (k : ℕ). offset (g.label + k) zone) l) in
      let e : zoned_head g kind figure zone ≡ head_of g.label name g.nullable (zoned_shape kind figure zone) 0 0 =
      λ i. record { kind = kind; flags = bit g.nullable + 4; figure = figure; scale = 0; bytes_4_7 = b i; first = 0; next = 0; name = a i; name_len = l i; byte_15 = 0 } in
      record {
        head = span_head (region space v) g.at x (span_region space v (16 * g.at) (bytes_of x) p.span) ∙ ex ∙ e;
        label =
            span_join name zone (named_kept space w v g.at (g.label + g.name_len) g (omega arith) zoned_kept nm).span
            (span_region space v (16 * space.n + g.label + length name) zone
            (span_move {i = space.half + 16 * space.n + (g.label + g.name_len)} (omega (arith, nm.long))
            (span_frame {w = v₁} v zone p.long (λ j lo hi. p.above j (omega arith)) q.span)));
      }

  pub zoned_laid : {d : Place} → d ≡ past g (length zone) → LaidZoned space w v g kind figure zone (Ok d)
  unfolding count labels
  zoned_laid ed =
      rw ed
      (record {
        writes =
            record {
              kept = zoned_kept;
              passes = (record { some = omega arith; records = omega arith; letters = fits }, (omega arith, omega arith));
            };
        means =
            λ name nm.
            record {
              records = omega arith;
              letters = omega (arith, nm.long, length-append name zone, length-append (name ++ zone) []);
              holds = (zoned_stands name nm, (tt, tt));
            };
      })

-- a type that was copied: its head, and its fields after it
module _ (space : Space) (s w : List ℕ) (swap : Bool) (link : ℕ) (g : Target) where
  module _ (room : Room w space) (h : Head) (e : h ≡ head_at (side swap s w) link) where
    pub type_stop : (v : List ℕ) (o : Failure) → CopiedHead space (side swap s w) w v h link g 0 (Err o) → CopiedType space (side swap s w) w v link g (Err o)
    type_stop v NoType c = absurd c.means
    type_stop v Full c =
        record {
          writes = record { kept = c.kept; passes = tt };
          means = λ floor r off up name nullable shape parts rest a. inr (omega (arith, c.means floor r off up name nullable shape parts rest a e));
        }

    module _ (v : List ℕ) (d : Place) (c : CopiedHead space (side swap s w) w v h link g 0 (Ok d)) where
      fields_held : {floor r off up : ℕ} {name : List ℕ} {nullable : Bool} {shape : Shape} {parts rest : Fields}
          → Held space (side swap s w) floor link r off up (field name nullable shape parts rest)
          → Held space (side swap s v) link h.first (r + 1) (off + length (own_labels name shape)) shape.kind parts
      fields_held a = held_side swap space s w v g.at (g.label + g.name_len) room.half c.kept (held_first a h e)

      kept : (u : List ℕ) → Kept space v u d.at d.label → Kept space w u g.at (g.label + g.name_len)
      kept u k = kept_trans c.kept (kept_wider g.at (g.label + g.name_len) (omega (arith, c.passes.1.0)) c.passes.1.1 k)

      pub type_copied : (u : List ℕ) (o : Written) → CopiedChain space (side swap s v) v u h.first d o → CopiedType space (side swap s w) w u link g o
      unfolding count labels
      type_copied u (Ok f) b =
          record {
            writes =
                record {
                  kept = kept u b.kept;
                  passes = (b.grows.0, (omega (arith, c.passes.1.0, b.grows.1.0), omega (arith, c.passes.1.1, b.grows.1.1)));
                };
            means =
                λ floor r off up name nullable shape parts rest a own nm.
                let m = c.means.1 floor r off up name nullable shape parts rest a e in
                let q = b.means link (r + 1) _ shape.kind parts (fields_held a) in
                let l = length-append own (zone_bytes shape.zone) in
                let l' = length-append (own ++ zone_bytes shape.zone) (labels parts ++ []) in
                let l'' = length-append (labels parts) [] in
                let ea : d.at ≡ g.at + 1 = c.means.0 in
                let eb : d.label ≡ g.label + length (own ++ zone_bytes shape.zone) = omega (arith, m.0, nm.long) in
                record {
                  records = omega (arith, q.records);
                  letters = omega (arith, q.letters);
                  holds = (
                    stands_frame space v u d.at d.label g.at g.label (omega arith) (omega arith) b.kept (m.1 own nm),
                    (subst₂ (λ (i j : ℕ). Holds (region space u) space.n i j parts) ea eb q.holds, tt),
                  );
                };
          }
      type_copied u (Err NoType) b = absurd b.means
      type_copied u (Err Full) b =
          record {
            writes = record { kept = kept u b.kept; passes = tt };
            means =
                λ floor r off up name nullable shape parts rest a.
                let m = c.means.1 floor r off up name nullable shape parts rest a e in
                ⊎_elim (λ x. inl (omega (arith, c.means.0))) (λ x. inr (omega (arith, m.0))) (b.means link (r + 1) _ shape.kind parts (fields_held a));
          }
