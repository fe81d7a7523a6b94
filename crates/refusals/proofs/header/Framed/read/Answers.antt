use native.Mathlib.Omega.{arith}
use Rattle.refusals.proofs.Scans.{framed_long, framed_by}
use Rattle.refusals.proofs.header.Framed.read.Goals as goal

pub word_at-requires : goal.word_at-requires
word_at-requires c =
    omega (arith, framed_long _ c.requires)

pub word_at-requires-2 : goal.word_at-requires-2
word_at-requires-2 c =
    omega (arith, framed_long _ c.requires)

pub invariant_of-result-clause-framed : goal.invariant_of-result-clause-framed
invariant_of-result-clause-framed c =
    framed_by _ c.requires _ _ c.word_at.ensures.0 c.word_at-2.ensures.0
