use Rattle.sheet.proofs.Accepted.{accepted_carried}
use Rattle.sheet.proofs.laws.one_spelling.Goals as goal

pub returns-clause-accepted_carried : goal.returns-clause-accepted_carried
returns-clause-accepted_carried c = accepted_carried
