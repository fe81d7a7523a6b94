use Rattle.resolution.proofs.Folding.{stepped}
use Rattle.resolution.proofs.resolver.Resolver.step.Goals as goal

pub returns : goal.returns
returns c =
    stepped c.args.self.now.rules _ _ c.requires.room.0 c.requires.room.1 c.requires.compared c.move_candidate_down.ensures (rw c.for_list.ensures at c.merger-merger.ensures) c.coerce.ensures
