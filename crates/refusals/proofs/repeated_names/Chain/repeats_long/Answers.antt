use native.Mathlib.Omega.{arith}
use Rattle.refusals.proofs.Naming.{told_first}
use Rattle.refusals.proofs.repeated_names.Chain.repeats_long.Goals as goal

pub returns : goal.returns
returns c =
    λ r o t l. told_first c.args.self.records.sheet.now c.args.self.records.n c.list-k.new.recs c.list-k.result t c.equal_names.result c.list-k.ensures.0.room (c.list-k.ensures.0.whole (omega (arith, c.list-k.ensures.0.room)) r o t l) c.equal_names.ensures
