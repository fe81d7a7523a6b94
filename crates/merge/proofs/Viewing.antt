-- Utf8View in the place of Dictionaries about it. Assumes nothing.
use mathlib.Core.Path.{sym, ◌≡◌, refl, subst, ◌∙◌}
use mathlib.Core.Bool.{Bool}
use mathlib.Core.List.{List}
use mathlib.Core.Logic.{inl, inr, ⊎_elim}
use Rattle.std.specs.Prelude.{Some, Ok, Err}
use Prim.Native.Nat.{ℕ, ◌+◌}
use native.Mathlib.Omega.{arith}
use lib.ListN.{length, length-append}
use Rattle.sheet.specs.Types.{end, field, count, zone_bytes, labels}
use Rattle.sheet.specs.Head.{head_at, nullable_in}
use Rattle.sheet.specs.declared.Head.{Head}
use Rattle.coercion.specs.Data.{DataType}
use Rattle.buffers.specs.Writes.{side}
use Rattle.buffers.specs.Region.{Room, Grows, Inside}
use Rattle.buffers.specs.Target.{LaidPlain}
use Rattle.buffers.specs.Span.{CopiedSpan}
use Rattle.buffers.specs.Typed.{Chain, Typed, ChainIs, target_at, NamedTarget}
use Rattle.buffers.specs.declared.Space.{Space}
use Rattle.buffers.specs.declared.Place.{Place}
use Rattle.buffers.specs.declared.Target.{Target}
use Rattle.buffers.specs.Written.{Written}
use Rattle.buffers.specs.declared.Failure.{Failure}
use Rattle.buffers.specs.declared.Failure.TheVariants.{NoType, Full}
use Rattle.buffers.proofs.Frames.{kept_trans, kept_wider}
use Rattle.buffers.proofs.Chained.{labels_sum}
use Rattle.buffers.proofs.Rows.{chain_nullable}
use Rattle.buffers.proofs.Fielding.{name_length_lem}
use Rattle.merge.specs.Descent.{alone, nest, view, NamedView, PlacedView}
use Rattle.merge.proofs.Filling.{Cut, parts_short, span_records, span_letters, parts_wrote}
use Rattle.merge.proofs.Merging.{chain_side}
use Rattle.merge.proofs.Parents.{target_grows, field_told}

-- Utf8View under a name
module _ (space : Space) (s w : List ℕ) (link : ℕ) (to : Place) (h : Head) (eh : h ≡ head_at s link) (own : Bool) (eo : own ≡ nullable_in h) (v : List ℕ) where
  module _ {g : Target} (n : NamedTarget space s w v h own to (Ok g)) (u : List ℕ) where
    named : (o : Written) → LaidPlain space v u (target_at to h.name_len own) view.shape o → NamedView space s w u link to o
    named o k =
        record {
          kept = kept_trans n.named.kept (kept_wider to.at to.label (omega arith) (omega arith) k.writes.kept);
          grows = target_grows space to h.name_len own o k.writes.passes;
          means =
              λ name nullable t rest c.
              field_told space v u to 1 0 (length name) o (Some view) (sym (name_length_lem c h eh)) (eo ∙ chain_nullable c h eh) (omega arith) (n.named.named refl link name nullable own t.shape t.parts rest c eh) k.means;
        }

    pub view_named : (o : Written) → LaidPlain space v u g view.shape o → NamedView space s w u link to o
    view_named o k = named o (subst (λ (g : Target). LaidPlain space v u g view.shape o) n.goal k)

-- and in the place of a type below wrappers
module _ (space : Space) (swap : Bool) (s w : List ℕ) (r i : ℕ) (to : Place) (v : List ℕ) where
  pub view_stopped : (f : Failure) → CopiedSpan space (side swap s w) w v r i to (Err f) → PlacedView space (side swap s w) w v r i to (Err f)
  view_stopped NoType k = absurd k.means
  view_stopped Full k =
      record {
        kept = k.kept;
        grows = tt;
        means =
            λ l x n b part p zs name nullable t a e is c ends.
            parts_short a (record { n = n; b = b; part = part; p = p; zs = zs; name = name; nullable = nullable; is = is; ends = ends })
            (subst (λ (r : ℕ). CopiedSpan space (side swap s w) w v r i to (Err Full)) e k);
      }

  module _ (room : Room w space) (ahead : Inside space to) (d : Place) (k : CopiedSpan space (side swap s w) w v r i to (Ok d)) (u : List ℕ) where
    said : (o : Written) → NamedView space (side swap s v) v u i d o → (l : ℕ) (x t : DataType) (c : Cut l i x t) → Typed space (side swap s w) l x → r ≡ l + 1
        → Chain space (side swap s w) i (alone c.name c.nullable t)
        → ChainIs space u to (count x.parts) (length (labels x.parts)) o (Some (field c.n c.b c.part c.p (nest c.zs (alone c.name c.nullable view))))
    said (Ok e) m l x t c a er b =
        parts_wrote a c (subst (λ (r : ℕ). CopiedSpan space (side swap s w) w v r i to (Ok d)) er k) room.few ahead m.kept view
        (m.means c.name c.nullable t end (chain_side swap space s w v to.at to.label room k.kept b))
    said (Err NoType) m l x t c a er b = m.means c.name c.nullable t end (chain_side swap space s w v to.at to.label room k.kept b)
    said (Err Full) m l x t c a er b =
        let k' = subst (λ (r : ℕ). CopiedSpan space (side swap s w) w v r i to (Ok d)) er k in
        ⊎_elim (λ q. inl (omega (arith, q, span_records a c k')))
        (λ q. inr (omega (arith, q, span_letters a c k', labels_sum c.name c.nullable t.shape t.parts end, length-append c.name (zone_bytes t.shape.zone))))
        (m.means c.name c.nullable t end (chain_side swap space s w v to.at to.label room k.kept b))

    grown : (o : Written) → Grows space d o → Grows space to o
    grown (Ok e) g = (g.0, (omega (arith, k.grows.1.0, g.1.0), omega (arith, k.grows.1.1, g.1.1)))
    grown (Err NoType) g = tt
    grown (Err Full) g = tt

    pub view_placed : (o : Written) → NamedView space (side swap s v) v u i d o → PlacedView space (side swap s w) w u r i to o
    view_placed o m =
        record {
          kept = kept_trans k.kept (kept_wider to.at to.label k.grows.1.0 k.grows.1.1 m.kept);
          grows = grown o m.grows;
          means =
              λ l x n b part p zs name nullable t a e is c ends.
              said o m l x t (record { n = n; b = b; part = part; p = p; zs = zs; name = name; nullable = nullable; is = is; ends = ends }) a e c;
        }
