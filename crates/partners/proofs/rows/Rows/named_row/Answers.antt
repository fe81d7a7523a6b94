use Rattle.partners.proofs.Feeding.{row_named}
use Rattle.partners.proofs.rows.Rows.named_row.Goals as goal

pub returns : goal.returns
returns c =
    λ ex ey f. row_named _ _ c.args.self.now.sides.swap _ _ _ _ _ ex _ _ ey _ (c.partner-j.ensures ex f) _ c.right_head-h.ensures.0 c.row_of.ensures
