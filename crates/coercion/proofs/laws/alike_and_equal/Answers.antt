use Rattle.coercion.proofs.Words.{alike_left, equal_left, list_of_same}
use Rattle.coercion.proofs.Sameness.{equal_same, equal_self, alike_nameless, nameless_alike}
use Rattle.coercion.proofs.laws.alike_and_equal.Goals as goal

pub returns-clause-alike : goal.returns-clause-alike
returns-clause-alike c = alike_left

pub returns-clause-equal : goal.returns-clause-equal
returns-clause-equal c = equal_left

pub returns-clause-all : goal.returns-clause-all
returns-clause-all c = list_of_same

pub returns-clause-same : goal.returns-clause-same
returns-clause-same c = equal_same

pub returns-clause-itself : goal.returns-clause-itself
returns-clause-itself c = equal_self

pub returns-clause-nameless : goal.returns-clause-nameless
returns-clause-nameless c = alike_nameless

pub returns-clause-named : goal.returns-clause-named
returns-clause-named c = nameless_alike
