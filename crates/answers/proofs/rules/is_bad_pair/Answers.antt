use Rattle.answers.proofs.Refusing.{list_asked, pair_asked}
use Rattle.answers.proofs.rules.is_bad_pair.Goals as goal

pub returns-then-not-is_list_question : goal.returns-then-not-is_list_question
returns-then-not-is_list_question c =
    pair_asked _ c.args.rules.question c.if-not-is_list_question.true c.is_list_question.ensures c.is_pair.ensures

pub returns-else-not-is_list_question : goal.returns-else-not-is_list_question
returns-else-not-is_list_question c =
    list_asked _ c.args.rules.question c.if-not-is_list_question.false c.is_list_question.ensures
