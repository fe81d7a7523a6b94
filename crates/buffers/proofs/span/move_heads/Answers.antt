use mathlib.Core.Path.{ap, sym, ◌∙◌}
use Rattle.sheet.specs.declared.Head.{Head}
use Rattle.buffers.specs.Span.{relabelled}
use Rattle.buffers.proofs.Moving.{moving_start, zoned_full, zoned_on, named_full, named_on, bare_on}
use Rattle.buffers.proofs.span.move_heads.Goals as goal

pub loop-at-init : goal.loop-at-init
loop-at-init c = moving_start c.args.space c.args.work.now c.args.link c.args.count c.args.to c.requires.0 c.requires.1.0

pub returns-then-space-label : goal.returns-then-space-label
returns-then-space-label c =
    zoned_full c.requires.1.1 c.loop-at.invariant c.head_from-h.result c.loop-at-test.true c.head_from-h.ensures.0 (sym c.zoned.ensures ∙ c.if-zoned.true) _ c.zone_len.ensures.0 c.if-space-label.true

pub loop-at-preserved-then-zoned : goal.loop-at-preserved-then-zoned
loop-at-preserved-then-zoned c =
    zoned_on c.requires.1.1 c.loop-at.invariant c.head_from-h.result c.loop-at-test.true c.head_from-h.ensures.0 (sym c.zoned.ensures ∙ c.if-zoned.true) _ c.zone_len.ensures.0 c.if-space-label.false _ c.relabelled.result (c.relabelled.ensures.0 ∙ ap (λ (h : Head). relabelled h c.loop-at.label) c.relinked-g.ensures.0) c.put_head.ensures

pub loop-at-preserved-then-h-eq0 : goal.loop-at-preserved-then-h-eq0
loop-at-preserved-then-h-eq0 c =
    bare_on c.requires.1.1 c.loop-at.invariant c.head_from-h.result c.loop-at-test.true c.head_from-h.ensures.0 (sym c.zoned.ensures ∙ c.if-zoned.false) c.if-h-eq0.true _ c.relinked-g.result c.relinked-g.ensures.0 c.put_head-then-h-eq0.ensures

pub returns-then-space-label-2 : goal.returns-then-space-label-2
returns-then-space-label-2 c =
    named_full c.requires.1.1 c.loop-at.invariant c.head_from-h.result c.loop-at-test.true c.head_from-h.ensures.0 (sym c.zoned.ensures ∙ c.if-zoned.false) c.if-space-label-2.true

pub loop-at-preserved : goal.loop-at-preserved
loop-at-preserved c =
    named_on c.requires.1.1 c.loop-at.invariant c.head_from-h.result c.loop-at-test.true c.head_from-h.ensures.0 (sym c.zoned.ensures ∙ c.if-zoned.false) c.if-h-eq0.false c.if-space-label-2.false _ c.relinked-g.result c.relinked-g.ensures.0 c.put_head-in-loop-at.ensures
