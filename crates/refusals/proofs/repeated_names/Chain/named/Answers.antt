use mathlib.Core.Path.{refl, sym, ◌∙◌}
use native.Mathlib.Omega.{arith}
use borrow.Author.Count.{below_more}
use Rattle.refusals.specs.RepeatedNames.{placed}
use Rattle.sheet.proofs.Bytewise.{same_equal}
use Rattle.refusals.proofs.Naming.{not_same, name_here, next_here}
use Rattle.refusals.proofs.repeated_names.Chain.named.Goals as goal

pub loop-i-init : goal.loop-i-init
unfolding placed
loop-i-init c =
    (refl, λ j l. absurd (omega arith))

pub returns-then-same_name : goal.returns-then-same_name
returns-then-same_name c =
    let here = name_here c.args.self.records.sheet.now c.args.self.records.n c.args.self.link c.loop-i.at c.loop-i.i c.loop-i.invariant.0 _ c.head_at-g.ensures.0 in
    (omega arith, (c.loop-i.invariant.1, sym here ∙ same_equal _ _ (sym c.same_name.ensures ∙ c.if-same_name.true)))

pub loop-i-preserved : goal.loop-i-preserved
loop-i-preserved c =
    let here = name_here c.args.self.records.sheet.now c.args.self.records.n c.args.self.link c.loop-i.at c.loop-i.i c.loop-i.invariant.0 _ c.head_at-g.ensures.0 in
    (next_here c.args.self.records.sheet.now c.args.self.records.n c.args.self.link c.loop-i.at c.loop-i.i c.loop-i.invariant.0 _ c.head_at-g.ensures.0, below_more _ _ c.loop-i.invariant.1 (λ q. not_same _ _ (sym c.same_name.ensures ∙ c.if-same_name.false) (here ∙ q)))
