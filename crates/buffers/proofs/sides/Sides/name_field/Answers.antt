use Rattle.buffers.proofs.Fielding.{name_put}
use Rattle.buffers.proofs.sides.Sides.name_field.Goals as goal

pub returns : goal.returns
returns c =
    name_put c.args.self.now.space c.args.self.now.sheet.now c.args.work.now c.args.self.now.swap c.args.h c.args.to _ c.requires.1.0 c.if-space-to.false c.put_label.ensures
