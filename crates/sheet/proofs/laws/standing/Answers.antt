use Rattle.sheet.proofs.Stands.{stands_kind, stands_name}
use Rattle.sheet.proofs.laws.standing.Goals as goal

pub returns-clause-kind : goal.returns-clause-kind
returns-clause-kind c s at name nullable shape parts rest a = stands_kind a

pub returns-clause-name : goal.returns-clause-name
returns-clause-name c s at name nullable shape parts rest a = stands_name a
