use mathlib.Core.Path.{ap, ◌∙◌}
use mathlib.Core.Bool.{Bool}
use Rattle.buffers.specs.Typed.{target_at}
use Rattle.buffers.proofs.Copying.{record_copied}
use Rattle.buffers.proofs.sides.Sides.copy_record.Goals as goal

pub returns : goal.returns
returns c =
    record_copied c.args.self.now.space c.args.self.now.sheet.now c.args.work.now c.args.self.now.swap c.args.h c.args.link c.args.to c.requires.room.0.0 c.requires.room.0.1 c.requires.read _ c.requires.room.1.0 c.in_ok-g.ensures.named (c.in_ok-g.ensures.goal ∙ ap (λ (b : Bool). target_at c.args.to c.args.h.name_len b) c.nullable.ensures) c.moved_link-next.ensures.0 _ c.copy_head.ensures
