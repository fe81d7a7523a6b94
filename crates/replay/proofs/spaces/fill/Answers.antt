use Rattle.std.proofs.Common.{arith}
use Rattle.std.proofs.lemmas.List.Edits.{fill_by_more}
use Rattle.std.proofs.lemmas.List.FromFn.{fill_by_all}
use Rattle.replay.specs.Spaces.{mark_at}
use Rattle.replay.proofs.spaces.fill.Goals as goal

pub loop-i-preserved : goal.loop-i-preserved
loop-i-preserved c =
    rw c.mark.ensures (fill_by_more mark_at c.loop-i.place c.loop-i.i 0 (omega (arith, c.loop-i.auto.place, c.loop-i-test.true)) c.loop-i.invariant)

pub returns : goal.returns
returns c =
    fill_by_all mark_at c.loop-i.place _ 0 c.loop-i.auto.place (λ k h. c.loop-i.invariant k (omega (arith, c.loop-i-test.false)))
