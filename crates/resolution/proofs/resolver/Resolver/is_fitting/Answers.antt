use Rattle.resolution.proofs.Listing.{fitting}
use Rattle.resolution.proofs.resolver.Resolver.is_fitting.Goals as goal

pub returns : goal.returns
returns c =
    fitting _ _ _ _ c.categories.ensures _ c.is_mixed.ensures
