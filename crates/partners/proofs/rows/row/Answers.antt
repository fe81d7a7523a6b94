use Rattle.partners.proofs.Feeding.{row_place, row_own}
use Rattle.partners.proofs.rows.row.Goals as goal

pub returns-in-Place : goal.returns-in-Place
returns-in-Place c =
    rw c.in-Place.is (λ f. row_place _ _ c.args.sides.now.swap _ _ _ _ _ c.heads.ensures.left.0 _ _ c.heads.ensures.right.0 c.row_of.ensures)

pub returns-in-Own : goal.returns-in-Own
returns-in-Own c =
    rw c.in-Own.is (λ f. row_own _ _ c.args.sides.now.swap _ _ _ _ _ c.heads.ensures.left.0 _ _ c.heads.ensures.right.0 c.row_of-in-Own.ensures)
