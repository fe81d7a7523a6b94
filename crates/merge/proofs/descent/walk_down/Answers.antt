use mathlib.Core.Path.{sym, ◌∙◌}
use Rattle.merge.proofs.Descending.{walk_begun, walk_on, walk_past, walk_stopped, walk_lost}
use Rattle.merge.proofs.descent.walk_down.Goals as goal

pub loop-at-init : goal.loop-at-init
loop-at-init c =
    walk_begun _ c.head_at-first.ensures.0 _ c.head_at-at.ensures.0 c.requires c.run_after-run.ensures

pub returns-then-not-passes-clause-descended : goal.returns-then-not-passes-clause-descended
returns-then-not-passes-clause-descended c =
    c.loop-at.invariant

pub returns-then-not-passes-clause-stops : goal.returns-then-not-passes-clause-stops
returns-then-not-passes-clause-stops c =
    walk_stopped c.loop-at.invariant _ c.head_at-h.ensures.0 (sym c.passes.ensures ∙ c.if-not-passes.true)

pub returns-then-value-at-clause-descended : goal.returns-then-value-at-clause-descended
returns-then-value-at-clause-descended c =
    c.loop-at.invariant

pub returns-then-value-at-clause-stops : goal.returns-then-value-at-clause-stops
returns-then-value-at-clause-stops c =
    walk_lost c.loop-at.invariant _ c.head_at-h.ensures.0 (sym c.passes.ensures ∙ c.if-not-passes.false) _ c.head_at-value.ensures.0 c.if-value-at.true

pub loop-at-preserved : goal.loop-at-preserved
loop-at-preserved c =
    walk_on _ c.head_at-h.ensures.0 (sym c.passes.ensures ∙ c.if-not-passes.false) _ c.head_at-value.ensures.0 c.run_after-run-in-loop-at.ensures c.loop-at.invariant

pub returns-clause-descended : goal.returns-clause-descended
returns-clause-descended c =
    c.loop-at.invariant

pub returns-clause-stops : goal.returns-clause-stops
returns-clause-stops c =
    walk_past c.loop-at.invariant c.loop-at-test.false
