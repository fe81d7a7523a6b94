use mathlib.Core.Path.{ap}
use Rattle.answers.specs.Code.{call_of}
use Rattle.answers.proofs.Calling.{torn_call}
use Rattle.exports.specs.Number.{exported}
use Rattle.exports.proofs.number.number.Goals as goal

pub returns-in_default : goal.returns-in_default
returns-in_default c =
    rw c.number_of.ensures
    (ap exported (torn_call (call_of (record { question = c.args.question; mask = c.args.mask }) c.args.sheet.now c.args.output.now c.args.work.now) c.in_default.ensures))
