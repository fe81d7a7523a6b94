use native.Mathlib.Omega.{arith}
use mathlib.Core.Path.{sym, ◌∙◌}
use Rattle.partners.proofs.Naming.{finds_from, finds_none, finds_past, finds_here, finds_on}
use Rattle.partners.proofs.search.find.Goals as goal

pub loop-floor-init : goal.loop-floor-init
loop-floor-init c =
    finds_from _ _ _ _

pub returns-then-n-j : goal.returns-then-n-j
returns-then-n-j c =
    (omega arith, finds_past _ _ _ _ _ _ c.loop-floor.invariant c.loop-floor-test.true c.if-n-j.true)

pub is_named-requires : goal.is_named-requires
is_named-requires c =
    ((omega arith, c.head_at-h.ensures.1), omega arith)

pub returns-then-is_named : goal.returns-then-is_named
returns-then-is_named c =
    (omega (arith, c.if-n-j.false, c.requires.0), finds_here _ _ _ _ _ _ c.loop-floor.invariant c.loop-floor-test.true _ c.head_at-h.ensures.0 (sym c.if-is_named.true ∙ c.is_named.ensures))

pub loop-floor-smaller : goal.loop-floor-smaller
loop-floor-smaller c =
    omega arith

pub loop-floor-preserved : goal.loop-floor-preserved
loop-floor-preserved c =
    finds_on _ _ _ _ _ _ c.loop-floor.invariant c.loop-floor-test.true _ c.head_at-h.ensures.0 (sym c.if-is_named.false ∙ c.is_named.ensures)

pub returns : goal.returns
returns c =
    (omega arith, finds_none _ _ _ _ _ _ c.loop-floor.invariant c.loop-floor-test.false)
