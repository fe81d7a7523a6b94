-- What a reader says where it stands at a chain of types. Assumes nothing.
use mathlib.Core.Path.{◌≡◌, ap, ◌∙◌}
use mathlib.Core.Bool.{Bool}
use mathlib.Core.List.{List}
use Prim.Native.Nat.{ℕ, ◌+◌, ◌<◌}
use native.Mathlib.Omega.{arith}
use lib.ListN.{length}
use borrow.Author.Tests.{ne_eqb}
use Rattle.sheet.specs.Types.{Shape, Fields, end, field, count, zone_bytes, own_labels, labels}
use Rattle.sheet.specs.Head.{head_at}
use Rattle.sheet.specs.Encode.{link_to, head_of}
use Rattle.sheet.specs.Read.{records_of, label_at, read}
use Rattle.sheet.specs.Refusals.{refusal}
use Rattle.sheet.specs.Holds.{Plain}
use Rattle.sheet.specs.declared.Head.{Head}
use Rattle.sheet.proofs.Accepted.{accepted_holds, accepted_n}
use Rattle.sheet.proofs.Reading.{label_back}
use Rattle.sheet.proofs.Spans.{span_left}
use Rattle.sheet.proofs.Reading.{start_leads}
use Rattle.sheet.specs.Reader.{type_at, listed_at, kind_at, first_at, next_at, name_at}
use Rattle.sheet.specs.Standing.{StandsAt}

-- a new reader of an accepted sheet stands at its listed types
pub stands_new : (s : List ℕ) → Plain s → refusal s ≡ 0 → StandsAt s (listed_at s) (read s)
stands_new s plain h =
    let n = accepted_n s plain h in
    record {
      r = 1;
      o = 0;
      leads = record { holds = accepted_holds s plain h; is = start_leads (records_of s) (read s) n; above = omega arith; inside = omega (arith, n) };
    }

-- at the end of a chain it stands at record 0
pub stands_end : {s : List ℕ} {at : ℕ} → StandsAt s at end → at ≡ 0
stands_end a = a.leads.is

module _ {s : List ℕ} {at : ℕ} {name : List ℕ} {nullable : Bool} {shape : Shape} {parts rest : Fields} (a : StandsAt s at (field name nullable shape parts rest)) where
  pub stands_past : 0 < at
  stands_past = omega (arith, a.leads.is, a.leads.above)

  stands_head : type_at s at ≡ head_of a.o name nullable shape (link_to (a.r + 1) parts) (link_to (a.r + 1 + count parts) rest)
  unfolding type_at
  stands_head = rw (ne_eqb at 0 (omega (arith, stands_past))) (ap (head_at s) a.leads.is ∙ a.leads.holds.0.head)

  pub stands_kind : kind_at s at ≡ shape.kind
  stands_kind = ap (λ (h : Head). h.kind) stands_head

  pub stands_name : name_at s at ≡ name
  stands_name =
      ap (λ (h : Head). label_at s (records_of s) h.name h.name_len) stands_head
      ∙ label_back s (records_of s) a.o name (span_left name (zone_bytes shape.zone) a.leads.holds.0.label)

  pub stands_first : StandsAt s (first_at s at) parts
  unfolding count
  stands_first =
      record {
        r = a.r + 1;
        o = a.o + length (own_labels name shape);
        leads = record { holds = a.leads.holds.1.0; is = ap (λ (h : Head). h.first) stands_head; above = omega arith; inside = omega (arith, a.leads.inside) };
      }

  pub stands_next : StandsAt s (next_at s at) rest
  unfolding count
  stands_next =
      record {
        r = a.r + 1 + count parts;
        o = a.o + length (own_labels name shape) + length (labels parts);
        leads = record { holds = a.leads.holds.1.1; is = ap (λ (h : Head). h.next) stands_head; above = omega arith; inside = omega (arith, a.leads.inside) };
      }
