-- A record that was tied to the next of its chain. Assumes nothing.
use mathlib.Core.Path.{◌≡◌, ap, sym, subst₂, ◌∙◌}
use mathlib.Core.Bool.{Bool}
use mathlib.Core.List.{List, [], ◌++◌}
use Prim.Native.Nat.{ℕ, ◌+◌, ◌*◌, ◌-◌, ◌<◌, ◌≤◌}
use native.Mathlib.Omega.{arith}
use lib.ListN.{length, get_or, take, length-append, length-drop}
use lib.Seq.{get_or-drop, take_all}
use Rattle.sheet.specs.Types.{Shape, Fields, end, field, count, own_labels, labels}
use Rattle.sheet.specs.Head.{head_at, bytes_of}
use Rattle.sheet.specs.Encode.{link_to, head_of}
use Rattle.sheet.specs.Holds.{Holds}
use Rattle.sheet.specs.declared.Head.{Head}
use Rattle.sheet.proofs.Heads.{span_head}
use Rattle.buffers.specs.Writes.{Put}
use Rattle.buffers.specs.Region.{region, Kept, Wrote}
use Rattle.buffers.specs.Target.{Tied, tied_to}
use Rattle.buffers.specs.declared.Space.{Space}
use Rattle.buffers.specs.declared.Place.{Place}
use Rattle.buffers.proofs.Frames.{span_frame, holds_frame}
use Rattle.buffers.proofs.Copying.{span_region}

-- the head that was put
pub tied : (space : Space) (w v : List ℕ) (at next : ℕ) (h : Head) → h ≡ head_at (take (length w - space.half) (region space w)) at → Put w v (space.half + 16 * at) (bytes_of (tied_to next h)) → Tied space w v at next
tied space w v at next h e p =
    let whole = take_all (length w - space.half) (region space w) (omega (arith, length-drop space.half w)) in
    record {
      long = p.long;
      below = p.below;
      above = p.above;
      head = span_head (region space v) at (tied_to next h) (span_region space v (16 * at) (bytes_of (tied_to next h)) p.span) ∙ ap (tied_to next) (e ∙ ap (λ (s : List ℕ). head_at s at) whole);
    }

module _ (space : Space) (w v : List ℕ) (at next : ℕ) (t : Tied space w v at next) where
  long : length (region space v) ≡ length (region space w)
  long = length-drop space.half v ∙ ap (λ (x : ℕ). x - space.half) t.long ∙ sym (length-drop space.half w)

  past : (j : ℕ) → 16 * at + 16 ≤ j → get_or (region space v) j 0 ≡ get_or (region space w) j 0
  past j q = get_or-drop space.half v j 0 ∙ t.above (space.half + j) (omega arith) ∙ sym (get_or-drop space.half w j 0)

  -- the frame, for whatever labels
  pub tied_kept : (label : ℕ) → at < space.n → Kept space w v at label
  tied_kept label q =
      record {
        long = t.long;
        below = t.below;
        between = λ j lo hi. t.above j (omega arith);
        above = λ j lo. t.above j (omega arith);
      }

  -- a field that ended its chain, and the chain that is now behind it
  pub chain_tied : (o : ℕ) (d e : Place) (name : List ℕ) (nullable : Bool) (shape : Shape) (parts rest : Fields)
      → at < space.n → next ≡ link_to d.at rest → Wrote space w (record { at = at; label = o }) d (field name nullable shape parts end) → Wrote space w d e rest
      → Wrote space v (record { at = at; label = o }) e (field name nullable shape parts rest)
  unfolding count labels
  chain_tied o d e name nullable shape parts rest q en a b =
      let own = own_labels name shape in
      let l₀ = length-append own (labels parts ++ []) in
      let l₁ = length-append (labels parts) [] in
      let l₂ = length-append own (labels parts ++ labels rest) in
      let l₃ = length-append (labels parts) (labels rest) in
      let ea : d.at ≡ at + 1 + count parts = omega (arith, a.records) in
      let eb : d.label ≡ o + length own + length (labels parts) = omega (arith, a.letters) in
      record {
        records = omega (arith, b.records);
        letters = omega (arith, b.letters);
        holds = (
          record {
            head = t.head ∙ ap (tied_to next) a.holds.0.head ∙ ap (head_of o name nullable shape (link_to (at + 1) parts)) (en ∙ ap (λ (i : ℕ). link_to i rest) ea);
            label = span_frame {w = region space w} (region space v) own long (λ j lo hi. past j (omega arith)) a.holds.0.label;
          },
          (
            holds_frame (region space w) (region space v) space.n (at + 1) (o + length own) parts long (λ j lo hi. past j (omega arith)) (λ j lo hi. past j (omega arith)) a.holds.1.0,
            subst₂ (λ (i j : ℕ). Holds (region space v) space.n i j rest) ea eb
                (holds_frame (region space w) (region space v) space.n d.at d.label rest long (λ j lo hi. past j (omega arith)) (λ j lo hi. past j (omega arith)) b.holds),
          ),
        );
      }
