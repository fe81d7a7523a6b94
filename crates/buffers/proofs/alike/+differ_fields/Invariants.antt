use Prim.Native.Nat.{◌-◌, ◌≤◌}
use Rattle.buffers.specs.Differ.{DifferChains}
use Prim.Native.Nat.{ℕ}
use Rattle.buffers.proofs.alike.+differ_fields.Given as goal

abbrev pub decreases-differ_fields : goal.decreases-differ_fields
decreases-differ_fields l = l.n - l.floor

abbrev pub invariant-loop-low : goal.invariant-loop-low
invariant-loop-low l =
    (l.floor ≤ l.low) × ((v : ℕ) → DifferChains l.a l.n l.low l.x l.b l.m l.y l.named l.floor v → DifferChains l.a l.n l.floor l.i l.b l.m l.j l.named l.floor v)

abbrev pub decreases-loop-low : goal.decreases-loop-low
decreases-loop-low l = l.n - l.low
