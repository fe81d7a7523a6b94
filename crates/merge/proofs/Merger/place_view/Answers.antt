use Rattle.merge.proofs.Names.{stopped}
use Rattle.merge.proofs.Viewing.{view_stopped, view_placed}
use Rattle.merge.proofs.Merger.place_view.Goals as goal

pub returns-in_err-d : goal.returns-in_err-d
returns-in_err-d c =
    rw (stopped _ c.from_residual.ensures.1) (view_stopped _ c.args.self.now.sides.swap _ _ _ _ _ _ _ c.in_err-d.ensures)

pub returns : goal.returns
returns c =
    view_placed _ c.args.self.now.sides.swap _ _ _ _ _ _ c.requires.0 c.requires.1 _ c.in_ok-d.ensures _ _ c.named_view.ensures
