use mathlib.Core.Path.{ap, ◌∙◌}
use mathlib.Core.Bool.{Bool}
use Rattle.buffers.specs.Typed.{target_at}
use Rattle.buffers.proofs.Fielding.{field_copied}
use Rattle.buffers.proofs.sides.Sides.copy_field.Goals as goal

pub returns : goal.returns
returns c =
    field_copied c.args.self.now.space c.args.self.now.sheet.now c.args.work.now c.args.self.now.swap c.args.link c.args.to c.requires.0 c.head-h.result c.head-h.ensures.0 _ c.in_ok-g.ensures.named (c.in_ok-g.ensures.goal ∙ ap (λ (b : Bool). target_at c.args.to c.head-h.result.name_len b) c.nullable.ensures) _ c.copy_type.result c.copy_type.ensures
