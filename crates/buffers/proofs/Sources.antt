-- What a record of a source is read as, and where its links lead. Assumes nothing.
use mathlib.Core.Path.{◌≡◌, refl, ap, ◌∙◌}
use mathlib.Core.Bool.{Bool, false}
use mathlib.Core.List.{List, [], ◌++◌}
use Prim.Native.Nat.{ℕ, ◌+◌, ◌<◌, ◌≤◌}
use native.Mathlib.Omega.{arith}
use lib.ListN.{length, length-append}
use Rattle.sheet.specs.Types.{absent, Shape, Fields, end, field, count, zone_bytes, own_labels, labels}
use Rattle.sheet.specs.Head.{head_at, nullable_in}
use Rattle.sheet.specs.Encode.{link_to}
use Rattle.sheet.specs.Read.{label_at, shape_of, field_of}
use Rattle.sheet.specs.declared.Head.{Head}
use Rattle.sheet.proofs.Reading.{field_back}
use Rattle.sheet.proofs.Repeating.{head_is, first_leads, next_leads}
use Rattle.buffers.specs.Source.{Source}

no_shape : Shape
no_shape = record { kind = 0; figure = 0; scale = 0; size = 0; sorted = false; zone = absent }

abbrev name_of : Fields → List ℕ
name_of end = []
name_of (field name nullable shape parts rest) = name

abbrev nullable_of : Fields → Bool
nullable_of end = false
nullable_of (field name nullable shape parts rest) = nullable

abbrev shape_in : Fields → Shape
shape_in end = no_shape
shape_in (field name nullable shape parts rest) = shape

-- a link that leads nowhere, or to a record
pub source_none : {s : List ℕ} {n floor link r o up : ℕ} {t : Fields} → link ≤ floor → Source s n floor link r o up t → t ≡ end
source_none {t = end} h a = refl
source_none {t = field name nullable shape parts rest} h a = absurd (omega (arith, a.leads.is, a.leads.above))

module _ {s : List ℕ} {n floor link r o up : ℕ} {name : List ℕ} {nullable : Bool} {shape : Shape} {parts rest : Fields}
    (a : Source s n floor link r o up (field name nullable shape parts rest)) where
  pub link_is : link ≡ r
  link_is = a.leads.is

  pub link_inside : link < n
  unfolding count
  link_inside = omega (arith, a.leads.is, a.leads.inside)

  pub name_short : o + length name < 65536
  unfolding labels
  name_short =
      omega (arith, a.short, length-append (own_labels name shape) (labels parts ++ labels rest), length-append name (zone_bytes shape.zone))

  module _ (h : Head) (e : h ≡ head_at s link) where
    back : field_of s n h parts rest ≡ field name nullable shape parts rest
    back =
        ap (λ (x : Head). field_of s n x parts rest) (head_is s n floor link r o name nullable shape parts rest a.leads h e)
        ∙ field_back s n r o up name nullable shape parts rest (link_to (r + 1) parts) (link_to (r + 1 + count parts) rest) a.right.0 name_short a.leads.holds.0

    pub read_name : label_at s n h.name h.name_len ≡ name
    read_name = ap name_of back

    pub read_nullable : nullable_in h ≡ nullable
    read_nullable = ap nullable_of back

    pub read_shape : shape_of s n h ≡ shape
    read_shape = ap shape_in back

    pub source_first : Source s n link h.first (r + 1) (o + length (own_labels name shape)) shape.kind parts
    unfolding labels
    source_first =
        record {
          leads = first_leads s n floor link r o name nullable shape parts rest a.leads h e;
          right = a.right.1.0;
          short = omega (arith, a.short, length-append (own_labels name shape) (labels parts ++ labels rest), length-append (labels parts) (labels rest));
        }

    pub source_next : Source s n link h.next (r + 1 + count parts) (o + length (own_labels name shape) + length (labels parts)) up rest
    unfolding labels
    source_next =
        record {
          leads = next_leads s n floor link r o name nullable shape parts rest a.leads h e;
          right = a.right.1.1;
          short = omega (arith, a.short, length-append (own_labels name shape) (labels parts ++ labels rest), length-append (labels parts) (labels rest));
        }

-- a source may be asked about from a lower floor
pub source_lower : {s : List ℕ} {n floor link r o up : ℕ} {t : Fields} (low : ℕ) → low ≤ floor → Source s n floor link r o up t → Source s n low link r o up t
source_lower low h a =
    record {
      leads = record { holds = a.leads.holds; is = a.leads.is; above = omega (arith, a.leads.above); inside = a.leads.inside };
      right = a.right;
      short = a.short;
    }
