use Rattle.std.proofs.Common.{rules}
use Rattle.refusals.proofs.pass.pass_open.Goals as goal

pub returns : goal.returns
returns c = record { past = λ due. search rules; few = search rules; small = search rules }
