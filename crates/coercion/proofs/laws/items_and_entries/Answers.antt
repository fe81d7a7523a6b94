use Rattle.coercion.proofs.Words.{list_answer, map_answer, map_kept}
use Rattle.coercion.proofs.laws.items_and_entries.Goals as goal

pub returns-clause-list : goal.returns-clause-list
returns-clause-list c = list_answer

pub returns-clause-map : goal.returns-clause-map
returns-clause-map c = map_answer

pub returns-clause-kept : goal.returns-clause-kept
returns-clause-kept c = map_kept
