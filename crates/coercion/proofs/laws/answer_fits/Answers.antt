use Rattle.coercion.proofs.AnswersRight.{answer_carried}
use Rattle.coercion.proofs.Shorter.{answer_smaller, answer_shorter, answer_length}
use Rattle.coercion.proofs.laws.answer_fits.Goals as goal

pub returns-clause-carried : goal.returns-clause-carried
returns-clause-carried c = answer_carried

pub returns-clause-records : goal.returns-clause-records
returns-clause-records c = answer_smaller

pub returns-clause-labels : goal.returns-clause-labels
returns-clause-labels c = answer_shorter

pub returns-clause-bytes : goal.returns-clause-bytes
returns-clause-bytes c = answer_length
