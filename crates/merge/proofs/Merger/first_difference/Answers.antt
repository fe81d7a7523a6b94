use Rattle.merge.proofs.Asking.{told, difference_found}
use Rattle.merge.proofs.Merger.first_difference.Goals as goal

pub returns : goal.returns
returns c =
    told c.is_list_question-named.ensures (difference_found _ _ c.differ_sides.ensures)
