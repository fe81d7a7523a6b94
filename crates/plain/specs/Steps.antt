-- What the rules for types without parts look at, and what their answers say.
use Rattle.std.specs.Prelude.{◌≡◌, true, false, eqb}
use Rattle.std.specs.Prelude.{Option, None, Some}
use Rattle.sheet.specs.declared.kind.TheConstants as Kind
use Rattle.sheet.specs.Kind.{is_kind}
use Rattle.sheet.specs.Types.{absent}
use Rattle.sheet.specs.declared.Head.{Head}
use Rattle.coercion.specs.Data.{DataType, of_unit, zoned, plain}
use Rattle.coercion.specs.Times.{zone_coercion}
use Rattle.coercion.specs.declared.Figures.{Figures}
use Rattle.plain.specs.declared.step.Step.{Step}

-- what a head tells of the type of its record
pub record Reads (h : Head) (t : DataType) : Type 0 where
  pub kind : t.shape.kind ≡ h.kind
  pub figure : t.shape.figure ≡ h.figure
  pub scale : t.shape.scale ≡ h.scale
  pub known : is_kind t.shape.kind ≡ true
  pub bare : eqb t.shape.kind Kind.TIMESTAMP ≡ false → t.shape.zone ≡ absent
  pub size : t.shape.zone ≡ absent → t.shape.size ≡ h.bytes_4_7

-- what figures tell of their type
pub record Figured (f : Figures) (t : DataType) : Type 0 where
  pub kind : t.shape.kind ≡ f.kind
  pub figure : t.shape.figure ≡ f.figure
  pub scale : t.shape.scale ≡ f.scale
  pub known : is_kind t.shape.kind ≡ true
  pub bare : eqb t.shape.kind Kind.TIMESTAMP ≡ false → t.shape.zone ≡ absent

-- the type that a step says
abbrev pub step_of : Option Step → DataType → DataType → Option DataType
step_of (Some (Step.Lay f)) l r = Some (plain f)
step_of (Some (Step.Stamp unit)) l r = Some (zoned (of_unit Kind.TIMESTAMP unit) (zone_coercion l.shape.zone r.shape.zone))
step_of (Some Step.Left) l r = Some l
step_of (Some Step.Right) l r = Some r
step_of None l r = None

-- an answer has the zone of the two
abbrev pub KeepsZone : DataType → DataType → Option DataType → Type 0
KeepsZone l r None = Unit
KeepsZone l r (Some t) = t.shape.zone ≡ zone_coercion l.shape.zone r.shape.zone
