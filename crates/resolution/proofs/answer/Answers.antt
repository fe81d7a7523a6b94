use Rattle.resolution.proofs.Folding.{none_listed}
use Rattle.resolution.proofs.answer.Goals as goal

pub returns-then-space-le1 : goal.returns-then-space-le1
returns-then-space-le1 c =
    none_listed c.args.rules c.args.space c.if-space-le1.true
