-- What a call that writes a type answers: the place before which it ends, or why nothing was written.
use Rattle.std.specs.Prelude.{Result}
use Rattle.buffers.specs.declared.Place.{Place}
use Rattle.buffers.specs.declared.Failure.{Failure}

abbrev pub Written : Type 0
Written = Result Place Failure
