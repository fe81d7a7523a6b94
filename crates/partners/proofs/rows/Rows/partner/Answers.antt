use Rattle.partners.proofs.Noting.{pairs_noted, pairs_searched, row_pairs, row_pairs_known}
use Rattle.partners.proofs.rows.Rows.partner.Goals as goal

pub returns-then-are_known : goal.returns-then-are_known
returns-then-are_known c =
    λ ex f. row_pairs_known _ _ _ _ _ _ _ c.are_known.ensures c.if-are_known.true

pub returns-then-j-gt0 : goal.returns-then-j-gt0
returns-then-j-gt0 c =
    λ ex f. row_pairs _ _ _ _ _ _ _ (pairs_noted _ c.args.self.now.sides.swap _ _ c.args.self.now.table.now c.args.x _ _ _ c.partner_in-j.ensures c.if-j-gt0.true f)

pub returns : goal.returns
returns c =
    λ ex f. row_pairs _ _ _ _ _ _ _ (pairs_searched _ c.args.self.now.sides.swap _ _ c.args.self.now.table.now _ _ _ ex c.searched.ensures)
