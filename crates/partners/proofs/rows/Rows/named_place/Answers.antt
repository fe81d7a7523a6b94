use Rattle.partners.proofs.Feeding.{row_no_place, row_named_place}
use Rattle.partners.proofs.rows.Rows.named_place.Goals as goal

pub returns-then-p-eq0 : goal.returns-then-p-eq0
returns-then-p-eq0 c =
    λ ex ey f. row_no_place _ _ c.args.self.now.sides.swap _ _ _ _ _ ex _ _ ey c.if-p-eq0.true c.row_of.ensures

pub returns : goal.returns
returns c =
    λ ex ey f. row_named_place _ _ c.args.self.now.sides.swap _ _ _ _ _ ex _ _ ey _ (c.partner.ensures ex f) c.if-p-eq0.false c.row_of-2.ensures
