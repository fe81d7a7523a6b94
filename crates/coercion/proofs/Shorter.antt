-- The answer for a list of types takes no more records and no more bytes of labels than the list. Assumes nothing.
use mathlib.Core.Path.{◌≡◌}
use mathlib.Core.Bool.{true}
use mathlib.Core.List.{List}
use Rattle.std.specs.Prelude.{Some}
use Prim.Native.Nat.{ℕ, ◌+◌, ◌<◌, ◌≤◌}
use native.Mathlib.Omega.{arith}
use lib.ListN.{length}
use Rattle.sheet.specs.Types.{Zone, Fields, end, field, count, labels}
use Rattle.sheet.specs.Names.{names_differ}
use Rattle.sheet.specs.Encode.{encode}
use Rattle.sheet.proofs.Chains.{encode_length}
use Rattle.coercion.specs.Data.{DataType, size, single, types_of}
use Rattle.coercion.specs.Answers.{coercion, answer_of}
use Rattle.coercion.proofs.Maybe.{If, if_weak, if_some}
use Rattle.coercion.proofs.Folding.{total, Each, Under, answer_kept}
use Rattle.coercion.proofs.Weights.{weigh, weight, Scales, nothing, one, records_scales, records_weigh, name_length, zone_length, labels_scales, labels_weigh, Apart, TypeApart, apart_differ, differ_apart}
use Rattle.coercion.proofs.Lighter.{coercion_light}
use Rattle.coercion.specs.declared.Question.{Question}
use Rattle.coercion.specs.declared.Rules.{Rules}

types_apart : (ts : Fields) → Apart ts → Each TypeApart (types_of ts)
unfolding types_of
types_apart end h = tt
types_apart (field name nullable shape parts rest) h = ((h.0, h.1.0), types_apart rest h.1.1)

types_weigh : (a : List ℕ → ℕ) (b : Zone → ℕ) (ts : Fields) → total (weight a b) (types_of ts) ≤ weigh a b ts
unfolding types_of
types_weigh a b end = omega arith
types_weigh a b (field name nullable shape parts rest) = omega (arith, types_weigh a b rest)

-- the common type of two types
pub coercion_smaller : (rules : Rules) (l r t : DataType) → names_differ (single l) ≡ true → names_differ (single r) ≡ true → coercion rules l r ≡ Some t
    → size t < size l + size r
coercion_smaller rules l r t hl hr e =
    let dl = differ_apart (single l) hl in
    let dr = differ_apart (single r) hr in
    let h = if_some _ (coercion rules l r) t (coercion_light nothing one records_scales rules l r (dl.0, dl.1.0) (dr.0, dr.1.0)) e in
    omega (arith, h.light, records_weigh t.parts, records_weigh l.parts, records_weigh r.parts)

pub coercion_shorter : (rules : Rules) (l r t : DataType) → names_differ (single l) ≡ true → names_differ (single r) ≡ true → coercion rules l r ≡ Some t
    → length (labels (single t)) ≤ length (labels (single l)) + length (labels (single r))
coercion_shorter rules l r t hl hr e =
    let dl = differ_apart (single l) hl in
    let dr = differ_apart (single r) hr in
    let h = if_some _ (coercion rules l r) t (coercion_light name_length zone_length labels_scales rules l r (dl.0, dl.1.0) (dr.0, dr.1.0)) e in
    omega (arith, h.light, labels_weigh (single t), labels_weigh (single l), labels_weigh (single r))

-- the answer for a list
module _ (q : Question) (rules : Rules) (ts : Fields) (t : DataType) (h : names_differ ts ≡ true) (e : answer_of q rules (types_of ts) ≡ Some t) where
  answer_is : (a : List ℕ → ℕ) (b : Zone → ℕ) (scales : Scales a b) → Under TypeApart (weight a b) (total (weight a b) (types_of ts)) t
  answer_is a b scales =
      if_some (Under TypeApart (weight a b) (total (weight a b) (types_of ts))) (answer_of q rules (types_of ts)) t
      (answer_kept TypeApart (weight a b) rules kept q (types_of ts) (types_apart ts (differ_apart ts h))) e
    where
      kept : (l r : DataType) → TypeApart l → TypeApart r → If (Under TypeApart (weight a b) (weight a b l + weight a b r)) (coercion rules l r)
      kept l r hl hr = if_weak _ (Under TypeApart (weight a b) _) (coercion rules l r) (coercion_light a b scales rules l r hl hr) (λ u g. (g.apart, omega (arith, g.light)))

  pub answer_smaller : count (single t) ≤ count ts
  answer_smaller =
      omega (arith, (answer_is nothing one records_scales).1, types_weigh nothing one ts, records_weigh (single t), records_weigh ts)

  pub answer_shorter : length (labels (single t)) ≤ length (labels ts)
  answer_shorter =
      omega (arith, (answer_is name_length zone_length labels_scales).1, types_weigh name_length zone_length ts, labels_weigh (single t), labels_weigh ts)

  -- so its one-type sheet is no longer than the sheet of the list
  pub answer_length : length (encode (single t)) ≤ length (encode ts)
  answer_length = rw (encode_length (single t), encode_length ts) (omega (arith, answer_smaller, answer_shorter))

  pub answer_differ : names_differ (single t) ≡ true
  answer_differ = let g = (answer_is nothing one records_scales).0 in apart_differ (single t) (g.0, (g.1, tt))
