use native.Mathlib.Omega.{arith}
use mathlib.Core.Path.{sym, ◌∙◌}
use Rattle.refusals.proofs.Walking.{walk_none, walk_lost, walk_past}
use Rattle.refusals.proofs.Packing.{tells_lost, tells_came, row_more, row_tells, row_ends, past_ready, leaf_on, leaf_wrong, parts_lost, parts_ready, parts_farther, parts_wrong, parts_on}
use Rattle.refusals.proofs.records.Records.+walk_chain_walk_records.Goals.{walk_records-then-link-due-via-then-link-due, walk_records-then-link-due-via-else-link-due+then-n-due}
use Rattle.refusals.proofs.records.Records.+walk_chain_walk_records.Goals as goal

pub walk_chain-returns-then-link-due : goal.walk_chain-returns-then-link-due
walk_chain-returns-then-link-due t c =
    tells_lost _ _ _ _ _ _ (walk_lost _ _ _ _ _ _ (omega arith) c.if-link-due.true)

pub walk_chain-returns-then-is_plain_at : goal.walk_chain-returns-then-is_plain_at
walk_chain-returns-then-is_plain_at t c =
    row_ends _ _ _ _ c.requires.0 _ c.if-link-due.false c.args.up _ (omega arith)
    (row_more _ _ c.args.self.now.bytes c.args.self.now.inside _ (omega arith) 0 (c.is_plain_at.ensures c.if-is_plain_at.true) _ c.plain_row-last.ensures)

pub walk_chain-returns : goal.walk_chain-returns
walk_chain-returns t c =
    row_tells _ _ _ _ c.requires.0 _ c.if-link-due.false c.args.up _ c.plain_row-last.ensures _ c.walk_records.ensures

pub walk_records-returns-then-link-due : goal.walk_records-returns-then-link-due
walk_records-returns-then-link-due t c =
    tells_lost _ _ _ _ _ _
    (c.loop-link.invariant.rest _
    (elim c.then-link-due.branch [
      | walk_records-then-link-due-via-then-link-due w ↦ walk_lost _ _ _ _ _ _ c.loop-link-test.true (omega (arith, w.if-link-due.true))
      | walk_records-then-link-due-via-else-link-due+then-n-due w ↦ walk_past _ _ _ _ _ _ c.loop-link-test.true w.if-n-due.true
    ]))

pub walk_records-loop-link-preserved-then-parts_right : goal.walk_records-loop-link-preserved-then-parts_right
walk_records-loop-link-preserved-then-parts_right t c =
    record {
      ready = past_ready c.args.self.now.sheet.now _ _ _ _ _ _ c.args.self.now.inside c.if-link-due.false c.if-n-due.false _ c.head_from-h.ensures.0 _ c.pass_record-found.ensures c.loop-link.invariant.ready _ (omega arith);
      on = omega arith;
      small = c.pass_record-found.ensures.small;
      rest =
          λ o v.
          c.loop-link.invariant.rest o
          (leaf_on c.args.self.now.sheet.now _ _ _ _ _ _ c.args.self.now.inside c.if-link-due.false c.if-n-due.false _ c.head_from-h.ensures.0 _ c.pass_record-found.ensures c.loop-link.invariant.ready c.if-h-eq0.true (sym c.parts_right.ensures ∙ c.if-parts_right.true) o v);
    }

pub walk_records-returns-then-h-eq0 : goal.walk_records-returns-then-h-eq0
walk_records-returns-then-h-eq0 t c =
    tells_lost _ _ _ _ _ _
    (c.loop-link.invariant.rest _
    (leaf_wrong c.args.self.now.sheet.now _ _ _ _ _ _ c.args.self.now.inside c.if-link-due.false c.if-n-due.false _ c.head_from-h.ensures.0 _ c.pass_record-found.ensures c.loop-link.invariant.ready c.if-h-eq0.true (sym c.parts_right.ensures ∙ c.if-parts_right.false)))

pub walk_records-returns-in_err-inner : goal.walk_records-returns-in_err-inner
walk_records-returns-in_err-inner t c =
    rw c.from_residual.ensures
    (tells_lost _ _ _ _ _ _ (c.loop-link.invariant.rest _ (parts_lost c.args.self.now.sheet.now _ _ _ _ _ _ c.args.self.now.inside c.if-link-due.false c.if-n-due.false _ c.head_from-h.ensures.0 _ c.pass_record-found.ensures c.loop-link.invariant.ready c.in_err-inner.ensures)))

pub walk_records-returns-then-not-parts_right : goal.walk_records-returns-then-not-parts_right
walk_records-returns-then-not-parts_right t c =
    tells_lost _ _ _ _ _ _
    (c.loop-link.invariant.rest _
    (parts_wrong c.args.self.now.sheet.now _ _ _ _ _ _ c.args.self.now.inside c.if-link-due.false c.if-n-due.false _ c.head_from-h.ensures.0 _ c.pass_record-found.ensures c.loop-link.invariant.ready _ c.in_ok-inner.ensures (sym c.parts_right-in-loop-link.ensures ∙ c.if-not-parts_right.true)))

pub walk_records-loop-link-preserved : goal.walk_records-loop-link-preserved
walk_records-loop-link-preserved t c =
    record {
      ready = parts_ready c.args.self.now.sheet.now _ _ _ _ _ _ c.args.self.now.inside c.if-link-due.false c.if-n-due.false _ c.head_from-h.ensures.0 _ c.pass_record-found.ensures c.loop-link.invariant.ready _ c.in_ok-inner.ensures;
      on = omega (arith, parts_farther c.args.self.now.sheet.now _ _ _ _ _ _ c.args.self.now.inside c.if-link-due.false c.if-n-due.false _ c.head_from-h.ensures.0 _ c.pass_record-found.ensures c.loop-link.invariant.ready _ c.in_ok-inner.ensures);
      small = c.in_ok-inner.ensures.small;
      rest =
          λ o v.
          c.loop-link.invariant.rest o
          (parts_on c.args.self.now.sheet.now _ _ _ _ _ _ c.args.self.now.inside c.if-link-due.false c.if-n-due.false _ c.head_from-h.ensures.0 _ c.pass_record-found.ensures c.loop-link.invariant.ready _ c.in_ok-inner.ensures (sym c.parts_right-in-loop-link.ensures ∙ c.if-not-parts_right.false) o v);
    }

pub walk_records-returns : goal.walk_records-returns
walk_records-returns t c =
    tells_came _ _ _ _ _ _ _ c.loop-link.invariant.small (c.loop-link.invariant.rest _ (walk_none _ _ _ _ _ _ c.loop-link.invariant.ready c.loop-link-test.false))
