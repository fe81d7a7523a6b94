use Rattle.merge.proofs.Viewing.{view_named}
use Rattle.merge.proofs.Merger.named_view.Goals as goal

pub returns : goal.returns
returns c =
    view_named _ _ _ _ _ _ c.head-h.ensures.0 _ c.nullable.ensures _ c.in_ok-g.ensures _ _ (rw c.of_kind.ensures at c.lay_plain.ensures)
