use Rattle.merge.proofs.Merging.{tabled_zeros}
use Rattle.merge.proofs.Merger.coerce.Goals as goal

pub common-requires-clause-tabled : goal.common-requires-clause-tabled
common-requires-clause-tabled c =
    tabled_zeros 16

pub common-requires-then-records-lt33-clause-tabled : goal.common-requires-then-records-lt33-clause-tabled
common-requires-then-records-lt33-clause-tabled c =
    tabled_zeros 64
