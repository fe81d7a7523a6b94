use Rattle.coercion.proofs.Feeding.{partners_by_name, matched, partners_by_place, same_sets, fed}
use Rattle.coercion.proofs.laws.fields_paired.Goals as goal

pub returns-clause-by_name : goal.returns-clause-by_name
returns-clause-by_name c = partners_by_name

pub returns-clause-matched : goal.returns-clause-matched
returns-clause-matched c = matched

pub returns-clause-by_place : goal.returns-clause-by_place
returns-clause-by_place c = partners_by_place

pub returns-clause-sets : goal.returns-clause-sets
returns-clause-sets c = same_sets

pub returns-clause-fed : goal.returns-clause-fed
returns-clause-fed c = fed
