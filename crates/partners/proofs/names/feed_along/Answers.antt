use Rattle.partners.proofs.Walking.{walk_none, walk_past, walk_search, walk_known, walk_on}
use Rattle.partners.proofs.names.feed_along.Goals as goal

pub returns-then-n-i : goal.returns-then-n-i
returns-then-n-i c =
    walk_past _ _ _ _ _ _ _ _ _ _ _ _ _ _ c.loop-low.invariant c.loop-low-test.true c.if-n-i.true

pub returns-then-not-is_field_named : goal.returns-then-not-is_field_named
returns-then-not-is_field_named c =
    walk_search _ _ _ _ _ _ _ _ _ _ _ _ _ _ c.loop-low.invariant c.loop-low-test.true _ _ c.head_at-g.ensures.0 c.head_at-h.ensures.0 _ c.label_at.ensures c.is_field_named.ensures c.if-not-is_field_named.true _ _ c.are_searched.ensures c.then_some.ensures

pub loop-low-preserved-else-not-is_field_named : goal.loop-low-preserved-else-not-is_field_named
loop-low-preserved-else-not-is_field_named c =
    walk_on _ _ _ _ _ _ _ _ _ _ _ _ _ _ c.loop-low.invariant c.loop-low-test.true _ _ c.head_at-g.ensures.0 c.head_at-h.ensures.0 _ c.label_at.ensures c.is_field_named.ensures c.if-not-is_field_named.false c.requires.0 c.if-n-i.false c.note.ensures

pub loop-low-preserved : goal.loop-low-preserved
loop-low-preserved c =
    walk_known _ _ _ _ _ _ _ _ _ _ _ _ _ _ c.loop-low.invariant c.loop-low-test.true _ _ c.head_at-g.ensures.0 c.head_at-h.ensures.0 c.are_known.ensures c.if-not-are_known.false

pub returns : goal.returns
returns c =
    walk_none _ _ _ _ _ _ _ _ _ _ _ _ _ _ c.loop-low.invariant c.loop-low-test.false
