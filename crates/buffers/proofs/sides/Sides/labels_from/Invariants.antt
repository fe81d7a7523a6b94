use Prim.Native.Nat.{◌-◌}
use Rattle.buffers.specs.Writes.{side}
use Rattle.buffers.proofs.Seeking.{Seeking}
use Rattle.buffers.proofs.sides.Sides.labels_from.Given as goal

abbrev pub invariant-loop-at : goal.invariant-loop-at
invariant-loop-at l = Seeking (side l.self.swap l.self.sheet.now l.work) l.link l.end l.at

abbrev pub decreases-loop-at : goal.decreases-loop-at
decreases-loop-at l = l.end - l.at
