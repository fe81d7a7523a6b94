-- A link and the chain that it leads to: its first record. Assumes nothing.
use mathlib.Core.Path.{◌≡◌, ap, ◌∙◌}
use mathlib.Core.Bool.{Bool}
use mathlib.Core.List.{List}
use Prim.Native.Nat.{ℕ, ◌+◌}
use native.Mathlib.Omega.{arith}
use lib.ListN.{length}
use Rattle.sheet.specs.Types.{Shape, Fields, field, count, zone_bytes, own_labels, labels}
use Rattle.sheet.specs.Head.{head_at}
use Rattle.sheet.specs.Encode.{link_to, head_of}
use Rattle.sheet.specs.Read.{label_at}
use Rattle.sheet.specs.Holds.{Leads}
use Rattle.sheet.specs.declared.Head.{Head}
use Rattle.sheet.proofs.Spans.{span_left}
use Rattle.sheet.proofs.Reading.{label_back}

-- a record that a link leads to: its parts and the rest are led to by its own links
module _ (s : List ℕ) (n floor link r o : ℕ) (name : List ℕ) (nullable : Bool) (shape : Shape) (parts rest : Fields)
    (l : Leads s n floor link r o (field name nullable shape parts rest)) (h : Head) (e : h ≡ head_at s link) where
  pub head_is : h ≡ head_of o name nullable shape (link_to (r + 1) parts) (link_to (r + 1 + count parts) rest)
  head_is = e ∙ ap (head_at s) l.is ∙ l.holds.0.head

  pub name_is : label_at s n h.name h.name_len ≡ name
  name_is =
      ap (λ (x : Head). label_at s n x.name x.name_len) head_is ∙ label_back s n o name (span_left name (zone_bytes shape.zone) l.holds.0.label)

  pub kind_is : h.kind ≡ shape.kind
  kind_is = ap (λ (x : Head). x.kind) head_is

  pub first_leads : Leads s n link h.first (r + 1) (o + length (own_labels name shape)) parts
  unfolding count
  first_leads =
      record {
        holds = l.holds.1.0;
        is = ap (λ (x : Head). x.first) head_is;
        above = omega (arith, l.is);
        inside = omega (arith, l.inside);
      }

  pub next_leads : Leads s n link h.next (r + 1 + count parts) (o + length (own_labels name shape) + length (labels parts)) rest
  unfolding count
  next_leads =
      record {
        holds = l.holds.1.1;
        is = ap (λ (x : Head). x.next) head_is;
        above = omega (arith, l.is);
        inside = omega (arith, l.inside);
      }
