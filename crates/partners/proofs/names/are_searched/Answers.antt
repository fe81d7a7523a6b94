use native.Mathlib.Omega.{arith}
use Rattle.partners.proofs.Naming.{label_short, match_from, match_none, match_rest, match_past, match_lack, match_on}
use Rattle.partners.proofs.names.are_searched.Goals as goal

pub loop-low-init : goal.loop-low-init
loop-low-init c =
    (match_from _ _ _ _ _ _ _ _, omega arith)

pub returns-then-n-i : goal.returns-then-n-i
returns-then-n-i c =
    match_past _ _ _ _ _ _ _ _ _ _ _ c.loop-low.invariant.0 c.loop-low-test.true c.if-n-i.true

pub are_indexed-requires : goal.are_indexed-requires
are_indexed-requires c =
    c.requires

pub returns-then-k-eq4 : goal.returns-then-k-eq4
returns-then-k-eq4 c =
    match_rest _ _ _ _ _ _ _ _ _ _ _ c.loop-low.invariant.0 _ _ c.are_indexed.ensures

pub label_at-requires : goal.label_at-requires
label_at-requires c =
    (omega (arith, c.requires.0), (c.head_at-g.ensures.1.name, omega (arith, c.head_at-g.ensures.1.name_len)))

pub find-j-requires : goal.find-j-requires
find-j-requires c =
    (c.requires.0, label_short _ _ c.head_at-g.ensures.1 c.label_at.ensures)

pub returns-then-j-eq0 : goal.returns-then-j-eq0
returns-then-j-eq0 c =
    match_lack _ _ _ _ _ _ _ _ _ _ _ c.loop-low.invariant.0 c.loop-low-test.true _ c.head_at-g.ensures.0 _ c.label_at.ensures _ c.find-j.ensures.1 c.if-j-eq0.true

pub overflow_add-key : goal.overflow_add-key
overflow_add-key c =
    omega (arith, c.if-n-i.false, c.requires.0, c.requires.1)

pub note-requires : goal.note-requires
note-requires c =
    omega (arith, c.find-j.ensures.0)

pub overflow_add-k : goal.overflow_add-k
overflow_add-k c =
    omega (arith, c.loop-low.invariant.1)

pub loop-low-smaller : goal.loop-low-smaller
loop-low-smaller c =
    omega (arith, c.loop-low-test.true, c.if-n-i.false)

pub loop-low-preserved : goal.loop-low-preserved
loop-low-preserved c =
    (match_on _ _ _ _ _ _ _ _ _ _ _ c.loop-low.invariant.0 c.loop-low-test.true _ c.head_at-g.ensures.0 _ c.label_at.ensures _ c.find-j.ensures.1 c.requires.0 c.if-n-i.false c.find-j.ensures.0 c.if-j-eq0.false c.note.ensures, omega (arith, c.loop-low.invariant.1, c.if-k-eq4.false))

pub returns : goal.returns
returns c =
    match_none _ _ _ _ _ _ _ _ _ _ _ c.loop-low.invariant.0 c.loop-low-test.false
