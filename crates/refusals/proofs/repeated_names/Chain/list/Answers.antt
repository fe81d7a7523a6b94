use mathlib.Core.Path.{refl, ap, ◌∙◌}
use native.Mathlib.Omega.{arith}
use Rattle.refusals.specs.RepeatedNames.{name_number}
use Rattle.refusals.proofs.Naming.{followed_none, followed_low, followed_high, followed_next, name_here, listed, numbered, kept_more}
use Rattle.refusals.proofs.repeated_names.Chain.list.Goals as goal

pub loop-low-init : goal.loop-low-init
loop-low-init c =
    (followed_none _ _ _ _, record { long = refl; wide = refl; room = omega arith; record_at = λ i l. absurd (omega arith); number_at = λ i l. absurd (omega arith) })

pub returns-else-at-n : goal.returns-else-at-n
returns-else-at-n c =
    (record { room = c.loop-low.invariant.1.room; whole = λ h r o t l. absurd (followed_high _ _ _ _ _ _ _ c.loop-low.invariant.0 c.loop-low-test.true c.if-at-n.false r o t l) }, numbered _ _ c.args.self.floor _ _ _ _ _ _ c.loop-low.invariant.1)

pub loop-low-preserved : goal.loop-low-preserved
loop-low-preserved c =
    (followed_next _ _ _ _ _ _ _ c.loop-low.invariant.0 c.loop-low-test.true _ c.head_at-h.ensures.0, kept_more _ _ c.args.self.floor _ _ _ _ _ _ c.loop-low.invariant.1 c.requires (λ q. omega arith) c.loop-low.at _ c.loop-low.invariant.0.reached (c.name_number.ensures ∙ ap name_number (c.label_at.ensures ∙ name_here c.args.self.records.sheet.now c.args.self.records.n c.args.self.link c.loop-low.at c.loop-low.k c.loop-low.invariant.0.reached _ c.head_at-h.ensures.0)))

pub returns-after-loop-low : goal.returns-after-loop-low
returns-after-loop-low c =
    (record { room = c.loop-low.invariant.1.room; whole = λ h r o t l. listed _ _ _ _ _ _ _ _ _ c.loop-low.invariant.1 r o t l (followed_low _ _ _ _ _ _ _ c.loop-low.invariant.0 c.loop-low-test.false r o t l) }, numbered _ _ c.args.self.floor _ _ _ _ _ _ c.loop-low.invariant.1)
