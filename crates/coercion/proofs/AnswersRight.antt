-- The answer for types that a sheet may carry is one that a sheet may carry. Assumes nothing.
use mathlib.Core.Path.{◌≡◌}
use mathlib.Core.Bool.{true}
use mathlib.Core.List.{List}
use Rattle.std.specs.Prelude.{Some}
use native.Mathlib.Omega.{arith}
use Rattle.sheet.specs.Types.{Fields, end, field}
use Rattle.sheet.specs.Names.{names_differ}
use Rattle.sheet.specs.Carried.{FieldsRight, Carried}
use Rattle.coercion.specs.Data.{DataType, single, types_of}
use Rattle.coercion.specs.Answers.{coercion, answer_of}
use Rattle.coercion.proofs.Maybe.{If, if_weak, if_some}
use Rattle.coercion.proofs.Folding.{total, Each, Under, answer_kept}
use Rattle.coercion.proofs.Weights.{nothing, one, records_scales, apart_differ, differ_apart}
use Rattle.coercion.proofs.Lighter.{coercion_light}
use Rattle.coercion.proofs.Shorter.{answer_smaller, answer_shorter, answer_differ}
use Rattle.coercion.proofs.PlainRight.{Sound, own_right, unnamed}
use Rattle.coercion.proofs.NestedRight.{coercion_sound}
use Rattle.coercion.specs.declared.Question.{Question}
use Rattle.coercion.specs.declared.Rules.{Rules}

-- a type that a sheet may carry, the limits of a sheet aside
abbrev pub TypeRight : DataType → Type 0
TypeRight t = FieldsRight 0 (single t) × (names_differ (single t) ≡ true)

pub sound_right : (t : DataType) → Sound t → FieldsRight 0 (single t)
sound_right t h = (unnamed 0 t.shape t.parts h.0, (h.1, tt))

pub right_sound : (t : DataType) → FieldsRight 0 (single t) → Sound t
right_sound t h = (own_right h.0, h.1.0)

-- the common type of two types
pub coercion_right : (rules : Rules) (l r t : DataType) → TypeRight l → TypeRight r → coercion rules l r ≡ Some t → TypeRight t
coercion_right rules l r t hl hr e =
    let dl = differ_apart (single l) hl.1 in
    let dr = differ_apart (single r) hr.1 in
    let h = if_some _ (coercion rules l r) t (coercion_light nothing one records_scales rules l r (dl.0, dl.1.0) (dr.0, dr.1.0)) e in (
      sound_right t (if_some Sound (coercion rules l r) t (coercion_sound rules l r (right_sound l hl.0) (right_sound r hr.0)) e),
      apart_differ (single t) (h.apart.0, (h.apart.1, tt)),
    )

types_sound : (ts : Fields) → FieldsRight 0 ts → Each Sound (types_of ts)
unfolding types_of
types_sound end h = tt
types_sound (field name nullable shape parts rest) h = ((own_right h.0, h.1.0), types_sound rest h.1.1)

answer_sound : (q : Question) (rules : Rules) (ts : List DataType) → Each Sound ts → If (Under Sound (λ t. 0) (total (λ t. 0) ts)) (answer_of q rules ts)
answer_sound q rules ts h =
    answer_kept Sound (λ t. 0) rules (λ l r hl hr. if_weak Sound (Under Sound (λ t. 0) 0) (coercion rules l r) (coercion_sound rules l r hl hr) (λ t g. (g, omega arith))) q ts h

-- the answer for a list that a sheet carries
pub answer_carried : (q : Question) (rules : Rules) (ts : Fields) (t : DataType) → Carried ts → answer_of q rules (types_of ts) ≡ Some t → Carried (single t)
answer_carried q rules ts t h e =
    record {
      few = omega (arith, h.few, answer_smaller q rules ts t h.differ e);
      short = omega (arith, h.short, answer_shorter q rules ts t h.differ e);
      right = sound_right t (if_some _ (answer_of q rules (types_of ts)) t (answer_sound q rules (types_of ts) (types_sound ts h.right)) e).0;
      differ = answer_differ q rules ts t h.differ e;
    }
