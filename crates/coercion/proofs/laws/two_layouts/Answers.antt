use Rattle.coercion.proofs.Words.{struct_answer, struct_unequal}
use Rattle.coercion.proofs.Layouts.{layouts_alike, layouts_unequal, layouts_joined, layouts_none, layouts_some, layouts_fed}
use Rattle.coercion.proofs.laws.two_layouts.Goals as goal

pub returns-clause-rule : goal.returns-clause-rule
returns-clause-rule c = struct_answer

pub returns-clause-rule_unequal : goal.returns-clause-rule_unequal
returns-clause-rule_unequal c = struct_unequal

pub returns-clause-alike : goal.returns-clause-alike
returns-clause-alike c = layouts_alike

pub returns-clause-unequal : goal.returns-clause-unequal
returns-clause-unequal c = layouts_unequal

pub returns-clause-joined : goal.returns-clause-joined
returns-clause-joined c = layouts_joined

pub returns-clause-none : goal.returns-clause-none
returns-clause-none c = layouts_none

pub returns-clause-some : goal.returns-clause-some
returns-clause-some c = layouts_some

pub returns-clause-fed : goal.returns-clause-fed
returns-clause-fed c = layouts_fed
