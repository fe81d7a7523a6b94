use Rattle.refusals.proofs.Verdicts.{checked_number}
use Rattle.refusals.proofs.Laying.{listing_refused, listing_types}
use Rattle.refusals.proofs.listing.listed_kinds.Goals as goal

pub returns-in_err-check : goal.returns-in_err-check
returns-in_err-check c =
    listing_refused _ _ _ _ c.in_err-check.ensures c.from_residual.ensures.1

pub list_kinds-requires : goal.list_kinds-requires
list_kinds-requires c =
    checked_number _ _ _ _ c.in_ok-check.ensures

pub returns : goal.returns
returns c =
    listing_types _ _ (checked_number _ _ _ _ c.in_ok-check.ensures) c.list_kinds.ensures.0 c.list_kinds.ensures.1
