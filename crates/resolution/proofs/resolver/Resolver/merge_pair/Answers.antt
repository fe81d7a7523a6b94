use Rattle.resolution.proofs.Folding.{met}
use Rattle.resolution.proofs.resolver.Resolver.merge_pair.Goals as goal

pub returns : goal.returns
returns c =
    met _ _ c.requires.room c.requires.compared c.copy_sheet_down.ensures c.merger-merger.ensures c.coerce.ensures
