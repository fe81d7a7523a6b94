use native.Mathlib.Omega.{arith}
use Rattle.partners.proofs.Naming.{same_arity, asks_past, arity_none, arity_short, arity_on}
use Rattle.partners.proofs.names.are_as_many.Goals as goal

pub loop-low-init : goal.loop-low-init
loop-low-init c =
    λ space en b k. k

pub returns-then-n-i : goal.returns-then-n-i
returns-then-n-i c =
    λ space en. c.loop-low.invariant space en _ (asks_past same_arity _ _ _ _ _ _ _ c.loop-low-test.true (omega arith))

pub returns-then-j-eq0 : goal.returns-then-j-eq0
returns-then-j-eq0 c =
    λ space en. c.loop-low.invariant space en _ (arity_short _ _ _ _ _ _ c.loop-low-test.true c.if-j-eq0.true)

pub loop-low-smaller : goal.loop-low-smaller
loop-low-smaller c =
    omega arith

pub loop-low-preserved : goal.loop-low-preserved
loop-low-preserved c =
    λ space en b k. c.loop-low.invariant space en b (arity_on _ _ _ _ _ _ c.loop-low-test.true _ _ c.if-j-eq0.false c.head_at-i.ensures.0 c.head_at-j.ensures.0 b k)

pub returns : goal.returns
returns c =
    λ space en. c.loop-low.invariant space en _ (arity_none _ _ _ _ _ _ c.loop-low-test.false)
