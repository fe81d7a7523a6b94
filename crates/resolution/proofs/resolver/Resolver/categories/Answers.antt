use Rattle.resolution.specs.Reached.{seen_bits}
use Rattle.resolution.proofs.Listing.{tells_past, seen_none, seen_on, seen_here}
use Rattle.resolution.proofs.resolver.Resolver.categories.Goals as goal

pub returns-then-self-at : goal.returns-then-self-at
returns-then-self-at c =
    c.loop-last.invariant _ (tells_past (seen_bits _) _ _ _ _ _ c.loop-last-test.true c.if-self-at.true)

pub returns-then-not-is_supported : goal.returns-then-not-is_supported
returns-then-not-is_supported c =
    c.loop-last.invariant _ (seen_here _ _ _ _ c.loop-last-test.true _ c.category_kind-kind.ensures c.is_supported.ensures _ c.if-not-is_supported.true)

pub loop-last-preserved : goal.loop-last-preserved
loop-last-preserved c =
    λ a g. c.loop-last.invariant a (seen_on _ _ _ _ c.loop-last-test.true _ c.category_kind-kind.ensures c.is_supported.ensures _ _ c.head_at-at.ensures.0 _ c.with_category-bits.ensures c.if-not-is_supported.false a g)

pub returns : goal.returns
returns c =
    c.loop-last.invariant _ (seen_none _ _ _ _ _ c.loop-last-test.false)
