use mathlib.Core.Path.{refl}
use Rattle.partners.proofs.names.same_arity.Goals as goal

pub returns : goal.returns
returns c =
    rw (← c.slices.ensures.0, ← c.slices.ensures.1) (c.are_as_many.ensures _ refl)
