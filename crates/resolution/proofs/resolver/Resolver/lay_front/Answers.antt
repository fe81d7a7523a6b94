use Rattle.resolution.proofs.PlainTypes.{fronted}
use Rattle.resolution.proofs.resolver.Resolver.lay_front.Goals as goal

pub returns : goal.returns
returns c =
    fronted c.args.self.now.space _ _ c.args.x c.requires.0 c.args.self.now.listed (rw c.from.ensures at c.lay.ensures)
