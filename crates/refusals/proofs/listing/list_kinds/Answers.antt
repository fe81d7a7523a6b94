use native.Mathlib.Omega.{arith}
use Rattle.refusals.proofs.Laying.{along_start, along_less, along_next, along_done, along_few}
use Rattle.refusals.proofs.listing.list_kinds.Goals as goal

pub loop-at-init : goal.loop-at-init
loop-at-init c =
    along_start _ _ _ (λ i. (c.type_inv.sheet i).fits) c.requires c.first_listed-at.ensures

pub overflow_add-i : goal.overflow_add-i
overflow_add-i c =
    record { fits = omega (arith, along_few _ _ c.loop-at.invariant (λ i. (c.type_inv.sheet i).fits) c.loop-at-test.true) }

pub loop-at-smaller : goal.loop-at-smaller
loop-at-smaller c =
    omega (arith, along_less _ _ c.loop-at.invariant c.loop-at-test.true)

pub loop-at-preserved : goal.loop-at-preserved
loop-at-preserved c =
    along_next _ _ c.loop-at.invariant c.loop-at-test.true c.look-e.result c.look-e.ensures c.put.ensures

pub returns : goal.returns
returns c = along_done _ _ c.loop-at.invariant c.loop-at-test.false
