use mathlib.Core.Path.{ap, ◌∙◌}
use mathlib.Core.Bool.{not}
use Rattle.refusals.proofs.Light.{light_first}
use Rattle.refusals.proofs.pass.is_light.Goals as goal

pub returns-then-a-lt512 : goal.returns-then-a-lt512
returns-then-a-lt512 c =
    ap not c.is_decimal.ensures ∙ light_first c.args.a c.args.b c.if-b-ne0.false c.if-a-lt512.true
