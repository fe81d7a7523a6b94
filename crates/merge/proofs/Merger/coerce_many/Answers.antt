use Rattle.merge.proofs.Merging.{tabled_zeros}
use Rattle.merge.proofs.Merger.coerce_many.Goals as goal

pub common-requires-clause-tabled : goal.common-requires-clause-tabled
common-requires-clause-tabled c =
    tabled_zeros 2048
