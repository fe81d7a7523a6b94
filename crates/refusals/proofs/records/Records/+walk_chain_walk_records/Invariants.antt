use Prim.Native.Nat.{ℕ, ◌-◌, ◌+◌, ◌*◌, ◌<◌, ◌≤◌}
use Rattle.std.specs.Prelude.{Option}
use Rattle.refusals.specs.Walk.{WalkReady, Walks}
use Rattle.refusals.specs.Packed.{progress_of}
use Rattle.refusals.specs.declared.Progress.{Progress}
use Rattle.refusals.proofs.records.Records.+walk_chain_walk_records.Given as goal

abbrev pub decreases-walk_chain : goal.decreases-walk_chain
decreases-walk_chain l = 2 * (l.self.now.n - l.due) + 1

abbrev pub decreases-walk_records : goal.decreases-walk_records
decreases-walk_records l = 2 * (l.self.now.n - l.due)

abbrev pub invariant-walk_records-loop-link : goal.invariant-walk_records-loop-link
invariant-walk_records-loop-link l =
    record {
      ready : WalkReady l.self.n (progress_of l.due l.found) l.k;
      on : l.initial.due ≤ l.due;
      small : l.found < 17179869184;
      rest : (o : Option (Progress × ℕ)) → Walks l.self.sheet.now l.self.n l.up l.link (progress_of l.due l.found) l.k o → Walks l.self.sheet.now l.self.n l.up l.initial.link (progress_of l.initial.due l.initial.found) l.initial.k o;
    }

abbrev pub decreases-walk_records-loop-link : goal.decreases-walk_records-loop-link
decreases-walk_records-loop-link l = l.self.n - l.due
