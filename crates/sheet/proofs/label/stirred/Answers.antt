use Rattle.sheet.proofs.Mixing.{stirred_is}
use Rattle.sheet.proofs.label.stirred.Goals as goal

pub returns : goal.returns
returns c =
    stirred_is c.args.k c.args.x c.rotate_left.result c.ranges.k.fits c.rotate_left.ensures
