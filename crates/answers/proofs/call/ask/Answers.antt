use Rattle.answers.proofs.Calling.{refused_torn}
use Rattle.answers.proofs.call.ask.Goals as goal

pub returns-in_default : goal.returns-in_default
returns-in_default g c =
    refused_torn _ _ _ _ c.in_default.ensures
