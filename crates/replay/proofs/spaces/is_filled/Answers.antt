use Rattle.std.proofs.Common.{rules, tests, ◌∙◌, ◌+◌, eqb}
use Rattle.std.proofs.lemmas.Iterator.{YieldsList-from_slice}
use Rattle.std.proofs.lemmas.Iterator.Consumers.{YieldsList-from_enumerate}
use Rattle.std.proofs.lemmas.Iterator.Search.{all_from_yields_List}
use Rattle.replay.specs.Spaces.{mark_at}
use Rattle.replay.proofs.Marks.{marked}
use Rattle.replay.proofs.spaces.is_filled.Goals as goal

pub returns : goal.returns
returns c =
    all_from_yields_List (λ p. eqb p.1 (mark_at (c.args.from + p.0))) _ _ _ c.all.ensures.ran
    (YieldsList-from_enumerate (YieldsList-from_slice c.args.rest.now (cc)) (cc))
    (λ x b q k. search (rules, tests))
    ∙ marked c.args.from c.args.rest.now
