use Rattle.answers.proofs.Replies.{lowest_given, met_refused}
use Rattle.answers.proofs.laws.refusals.Goals as goal

pub returns-clause-lowest : goal.returns-clause-lowest
returns-clause-lowest c = lowest_given

pub returns-clause-met : goal.returns-clause-met
returns-clause-met c = met_refused
