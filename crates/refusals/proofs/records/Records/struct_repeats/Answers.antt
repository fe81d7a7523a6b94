use native.Mathlib.Omega.{arith}
use Rattle.refusals.proofs.Finding.{found_struct, found_plain}
use Rattle.refusals.proofs.records.Records.struct_repeats.Goals as goal

pub returns : goal.returns
returns c =
    found_struct c.args.self.sheet.now c.args.self.n c.args.r c.requires (omega arith) c.if-self-r-ne-STRUCT.false _ c.head_at.ensures.0 _ c.repeats.ensures

pub returns-then-self-r-ne-STRUCT : goal.returns-then-self-r-ne-STRUCT
returns-then-self-r-ne-STRUCT c =
    found_plain c.args.self.sheet.now c.args.self.n c.args.r c.requires (omega arith) c.if-self-r-ne-STRUCT.true
