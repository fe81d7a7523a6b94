use Prim.Native.Nat.{◌-◌}
use Rattle.buffers.proofs.Chained.{Left}
use Rattle.buffers.proofs.sides.Sides.+copy_fields.Given as goal

abbrev pub decreases-copy_fields : goal.decreases-copy_fields
decreases-copy_fields l = l.self.now.space.n - l.to.at

abbrev pub invariant-loop-link : goal.invariant-loop-link
invariant-loop-link l =
    Left l.self.space l.self.sheet.now l.self.swap l.start l.initial.place l.initial.work l.work l.link l.place

abbrev pub decreases-loop-link : goal.decreases-loop-link
decreases-loop-link l = l.self.space.n - l.place.at
