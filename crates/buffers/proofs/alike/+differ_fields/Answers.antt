use native.Mathlib.Omega.{arith}
use Rattle.buffers.proofs.Sameness.{fields_none, fields_longer, fields_past, fields_short, fields_own, fields_parts, fields_rest, fields_plain}
use Rattle.buffers.proofs.alike.+differ_fields.Goals as goal
use Rattle.buffers.proofs.alike.+differ_fields.Goals.{then-n-x-via-then-n-x, then-n-x-via-else-n-x+then-y-eq0}

pub returns-then-n-x : goal.returns-then-n-x
returns-then-n-x t c = elim c.then-n-x.branch [
  | then-n-x-via-then-n-x w ↦ c.loop-low.invariant.1 _ (fields_past _ _ _ _ _ _ _ _ _ _ (c.loop-low-test.true) (w.if-n-x.true))
  | then-n-x-via-else-n-x+then-y-eq0 w ↦ c.loop-low.invariant.1 _ (fields_short _ _ _ _ _ _ _ _ _ (c.loop-low-test.true) (w.if-y-eq0.true))
]

pub returns-then-not-same_record : goal.returns-then-not-same_record
returns-then-not-same_record t c =
    c.loop-low.invariant.1 _ (fields_own _ _ _ _ _ _ _ _ _ (c.loop-low-test.true) (c.if-y-eq0.false) _ _ (c.head_at-g.ensures.0) (c.head_at-h.ensures.0) (c.same_record.ensures) c.if-not-same_record.true)

pub loop-low-preserved-then-g-h-eq0 : goal.loop-low-preserved-then-g-h-eq0
loop-low-preserved-then-g-h-eq0 t c =
    (omega (arith, c.loop-low.invariant.0, c.loop-low-test.true), λ v f. c.loop-low.invariant.1 v (fields_plain _ _ _ _ _ _ _ _ _ (c.loop-low-test.true) (c.if-y-eq0.false) _ _ (c.head_at-g.ensures.0) (c.head_at-h.ensures.0) (c.same_record.ensures) c.if-not-same_record.false (c.if-g-h-eq0.true) f))

pub returns-then-d-ne0 : goal.returns-then-d-ne0
returns-then-d-ne0 t c =
    c.loop-low.invariant.1 _ (fields_parts _ _ _ _ _ _ _ _ _ (c.loop-low-test.true) (c.if-y-eq0.false) _ _ (c.head_at-g.ensures.0) (c.head_at-h.ensures.0) (c.same_record.ensures) c.if-not-same_record.false (c.differ_fields-d.ensures) c.if-d-ne0.true)

pub loop-low-preserved : goal.loop-low-preserved
loop-low-preserved t c =
    (omega (arith, c.loop-low.invariant.0, c.loop-low-test.true), λ v f. c.loop-low.invariant.1 v (fields_rest _ _ _ _ _ _ _ _ _ (c.loop-low-test.true) (c.if-y-eq0.false) _ _ (c.head_at-g.ensures.0) (c.head_at-h.ensures.0) (c.same_record.ensures) c.if-not-same_record.false (c.differ_fields-d.ensures) c.if-d-ne0.false f))

pub returns-then-y-eq0-2 : goal.returns-then-y-eq0-2
returns-then-y-eq0-2 t c =
    c.loop-low.invariant.1 _ (fields_none _ _ _ _ _ _ _ _ _ c.loop-low-test.false c.if-y-eq0-2.true)

pub returns-else-y-eq0-2 : goal.returns-else-y-eq0-2
returns-else-y-eq0-2 t c =
    c.loop-low.invariant.1 _ (fields_longer _ _ _ _ _ _ _ _ _ c.loop-low-test.false c.if-y-eq0-2.false)
