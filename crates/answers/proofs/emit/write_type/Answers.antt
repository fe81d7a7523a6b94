use mathlib.Core.Path.{refl}
use Rattle.coercion.specs.Data.{single}
use Rattle.answers.proofs.Emitting.{emitted}
use Rattle.answers.proofs.emit.write_type.Goals as goal

pub returns : goal.returns
returns c =
    (refl, λ t h. emitted c.args.space c.args.d _ (λ i. (c.type_inv.work i).fits) c.requires.0 c.requires.1.0 (single t) h _ _ _ _ _ _ _ _ c.requires.1.1 c.write_header.ensures refl refl c.copy.ensures.bytes refl refl c.copy-2.ensures.bytes)
