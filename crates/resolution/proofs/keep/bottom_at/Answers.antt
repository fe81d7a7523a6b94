use Rattle.resolution.proofs.Keeping.{found_from, found_past, found_here, found_lost, found_down}
use Rattle.resolution.proofs.keep.bottom_at.Goals as goal

pub loop-core-init : goal.loop-core-init
loop-core-init c =
    λ b f. found_from f

pub returns-then-h-lt-DICTIONARY : goal.returns-then-h-lt-DICTIONARY
returns-then-h-lt-DICTIONARY c =
    c.loop-core.invariant _ (found_here _ c.head_at-h.ensures.0 c.if-h-lt-DICTIONARY.true)

pub returns-then-value-core : goal.returns-then-value-core
returns-then-value-core c =
    c.loop-core.invariant _ (found_lost _ c.head_at-h.ensures.0 c.if-h-lt-DICTIONARY.false _ c.head_at-value.ensures.0 c.if-value-core.true)

pub loop-core-preserved : goal.loop-core-preserved
loop-core-preserved c =
    λ b f. c.loop-core.invariant b (found_down _ c.head_at-h.ensures.0 c.if-h-lt-DICTIONARY.false _ c.head_at-value.ensures.0 f)

pub returns : goal.returns
returns c =
    c.loop-core.invariant _ (found_past c.loop-core-test.false)
