use Rattle.refusals.proofs.Scans.{rest_zero}
use Rattle.refusals.proofs.header.is_rest_zero.Goals as goal

pub returns : goal.returns
returns c =
    rest_zero c.args.s.now _ _ _ c.requires c.quad_at.ensures.0 c.quad_at-2.ensures.0 c.quad_at-3.ensures.0
