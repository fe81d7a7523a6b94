use Prim.Native.Nat.{◌+◌, ◌-◌}
use Rattle.buffers.proofs.Moving.{Moving}
use Rattle.buffers.proofs.span.move_heads.Given as goal

abbrev pub invariant-loop-at : goal.invariant-loop-at
invariant-loop-at l = Moving l.space l.initial.work l.work l.link l.count l.to l.at l.label

abbrev pub decreases-loop-at : goal.decreases-loop-at
decreases-loop-at l = l.to.at + l.count - l.at
