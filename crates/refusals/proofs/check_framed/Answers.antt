use Rattle.refusals.proofs.Verdicts.{started, says_kind, chain_lost, chain_found, odd_kinds}
use Rattle.refusals.proofs.check_framed.Goals as goal

pub returns-then-odd_kind : goal.returns-then-odd_kind
returns-then-odd_kind c =
    says_kind _ c.args.framed.framed.whole (odd_kinds _ _ c.args.framed.framed.records c.odd_kind.ensures c.if-odd_kind.true)

pub returns-in_default : goal.returns-in_default
returns-in_default c =
    chain_lost _ _ _ c.args.framed.framed (odd_kinds _ _ c.args.framed.framed.records c.odd_kind.ensures c.if-odd_kind.false) _ (started _ c.from-link.ensures)
    c.in_default.ensures

pub check_found-requires : goal.check_found-requires
check_found-requires c =
    chain_found _ _ _ c.args.framed.framed (odd_kinds _ _ c.args.framed.framed.records c.odd_kind.ensures c.if-odd_kind.false) _ (started _ c.from-link.ensures) _ _
    c.in-Some.ensures
