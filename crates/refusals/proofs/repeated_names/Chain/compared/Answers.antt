use native.Mathlib.Omega.{arith}
use Rattle.refusals.proofs.Naming.{names, name_here, followed_none, followed_high, followed_next, known_at, known_none}
use Rattle.refusals.proofs.Marking.{differ_more}
use Rattle.refusals.proofs.repeated_names.Chain.compared.Goals as goal

pub loop-low-init : goal.loop-low-init
loop-low-init c =
    (followed_none _ _ _ _, λ a b l m. absurd (omega arith))

pub returns-in-Some : goal.returns-in-Some
returns-in-Some c =
    record { known = known_at _ _ _ _ _ _ _ c.loop-low.invariant.0 c.loop-low-test.true _ c.head_at-h.ensures.0 _ c.in-Some.ensures.0 c.in-Some.ensures.1.1; short = tt }

pub loop-low-preserved : goal.loop-low-preserved
loop-low-preserved c =
    let here = name_here c.args.self.records.sheet.now c.args.self.records.n c.args.self.link c.loop-low.at c.loop-low.k c.loop-low.invariant.0.reached _ c.head_at-h.ensures.0 in
    (followed_next _ _ _ _ _ _ _ c.loop-low.invariant.0 c.loop-low-test.true _ c.head_at-h.ensures.0, differ_more (names c.args.self.records.sheet.now c.args.self.records.n c.args.self.link) c.loop-low.k _ here c.in_default.ensures c.loop-low.invariant.1)

pub returns-else-at-n : goal.returns-else-at-n
returns-else-at-n c =
    record { known = λ r o t l. absurd (followed_high _ _ _ _ _ _ _ c.loop-low.invariant.0 c.loop-low-test.true c.if-at-n.false r o t l); short = tt }

pub returns-after-loop-low : goal.returns-after-loop-low
returns-after-loop-low c =
    record { known = known_none _ _ _ _ _ _ _ c.loop-low.invariant.0 c.loop-low-test.false c.loop-low.invariant.1; short = tt }
