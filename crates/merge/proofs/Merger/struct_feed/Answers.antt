use Rattle.merge.proofs.Merger.struct_feed.Goals as goal

pub returns-clause-stays_tabled : goal.returns-clause-stays_tabled
returns-clause-stays_tabled c =
    record { partners = c.struct_feed.ensures.table_stays.1 c.requires.tabled.partners }
