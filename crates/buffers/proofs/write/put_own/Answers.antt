use Rattle.sheet.proofs.Puts.{put_within}
use Rattle.buffers.proofs.write.put_own.Goals as goal

pub returns-then-from-end : goal.returns-then-from-end
returns-then-from-end c =
    put_within _ _ c.args.from c.args.len c.args.at _ c.min-end.ensures c.if-from-end.true c.requires.1 c.copy_within.ensures.after
