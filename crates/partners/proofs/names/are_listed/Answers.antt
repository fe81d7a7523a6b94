use Rattle.partners.proofs.Naming.{match_none, match_rest, match_past, match_lack, match_on}
use Rattle.partners.proofs.names.are_listed.Goals as goal

pub returns-then-n-i : goal.returns-then-n-i
returns-then-n-i c =
    match_past _ _ _ _ _ _ _ _ _ _ _ c.loop-low.invariant c.loop-low-test.true c.if-n-i.true

pub returns-in_default : goal.returns-in_default
returns-in_default c =
    match_rest _ _ _ _ _ _ _ _ _ _ _ c.loop-low.invariant _ _ c.are_found_in_order.ensures

pub returns-then-j-eq0 : goal.returns-then-j-eq0
returns-then-j-eq0 c =
    match_lack _ _ _ _ _ _ _ _ _ _ _ c.loop-low.invariant c.loop-low-test.true _ c.head_at-g.ensures.0 _ c.label_at.ensures _ c.in-Some.ensures.1 c.if-j-eq0.true

pub loop-low-preserved : goal.loop-low-preserved
loop-low-preserved c =
    match_on _ _ _ _ _ _ _ _ _ _ _ c.loop-low.invariant c.loop-low-test.true _ c.head_at-g.ensures.0 _ c.label_at.ensures _ c.in-Some.ensures.1 c.requires.0.0 c.if-n-i.false c.in-Some.ensures.0 c.if-j-eq0.false c.note.ensures

pub returns : goal.returns
returns c =
    match_none _ _ _ _ _ _ _ _ _ _ _ c.loop-low.invariant c.loop-low-test.false
