use Rattle.buffers.proofs.Copying.{bare_copied}
use Rattle.buffers.proofs.copy.copy_bare.Goals as goal

pub returns : goal.returns
returns c =
    bare_copied c.args.space _ _ c.args.h c.args.link c.args.g c.requires.0.0 c.requires.0.1 c.requires.1.0 c.requires.1.1.1 _ c.target_head.ensures.0 c.put_head.ensures c.past.ensures
