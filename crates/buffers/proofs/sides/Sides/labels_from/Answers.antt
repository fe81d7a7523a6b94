use Rattle.buffers.proofs.Seeking.{found_name, found_zone, found_none, seeking_on}
use Rattle.buffers.proofs.sides.Sides.labels_from.Goals as goal

pub returns-then-h-ne0 : goal.returns-then-h-ne0
returns-then-h-ne0 c =
    found_name c.loop-at.invariant c.head-h.result c.head-h.ensures.0 c.loop-at-test.true c.head-h.ensures.1 c.if-h-ne0.true

pub returns-then-zone_bytes-ne0 : goal.returns-then-zone_bytes-ne0
returns-then-zone_bytes-ne0 c =
    found_zone c.loop-at.invariant c.head-h.result c.head-h.ensures.0 c.loop-at-test.true _ c.zone_bytes.ensures.0 c.if-h-ne0.false c.if-zone_bytes-ne0.true _ c.zone_at.ensures.0 c.zone_at.ensures.1

pub loop-at-preserved : goal.loop-at-preserved
loop-at-preserved c =
    seeking_on c.loop-at.invariant c.head-h.result c.head-h.ensures.0 c.loop-at-test.true _ c.zone_bytes.ensures.0 c.if-h-ne0.false c.if-zone_bytes-ne0.false

pub returns : goal.returns
returns c = found_none c.loop-at.invariant c.loop-at-test.false
