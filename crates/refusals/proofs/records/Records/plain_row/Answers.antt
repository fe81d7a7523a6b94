use Rattle.refusals.proofs.Packing.{row_more}
use Rattle.refusals.proofs.records.Records.plain_row.Goals as goal

pub loop-q-preserved : goal.loop-q-preserved
loop-q-preserved c =
    row_more _ _ c.args.self.now.bytes c.args.self.now.inside _ c.loop-q-test.true _ (c.is_plain_at.ensures c.if-not-is_plain_at.false) _ c.loop-q.invariant
