use Rattle.std.proofs.lemmas.List.Elements.{All-take}
use Rattle.std.proofs.lemmas.List.Sorted.{All-permutation}
use Rattle.partners.specs.Naming.{Member}
use Rattle.partners.proofs.Naming.{lists_none}
use Rattle.partners.proofs.order.are_found_in_order.Goals as goal

pub list-k-requires : goal.list-k-requires
list-k-requires c =
    (c.requires.0, lists_none _ _ _)

pub are_among-requires : goal.are_among-requires
are_among-requires c =
    let M = Member c.args.from.now.n c.args.from.now.t.now c.args.r in
    (c.requires, All-permutation M _ _ c.sort_unstable_by.ensures.permutation (All-take M c.list-k.result _ c.list-k.ensures.1))
