use Rattle.coercion.proofs.Words.{list_struct_answer, structs_unequal}
use Rattle.coercion.proofs.Layouts.{listed_joined, listed_missing}
use Rattle.coercion.proofs.laws.listed_structs.Goals as goal

pub returns-clause-rule : goal.returns-clause-rule
returns-clause-rule c = list_struct_answer

pub returns-clause-joined : goal.returns-clause-joined
returns-clause-joined c = listed_joined

pub returns-clause-missing : goal.returns-clause-missing
returns-clause-missing c = listed_missing

pub returns-clause-unequal : goal.returns-clause-unequal
returns-clause-unequal c = structs_unequal
