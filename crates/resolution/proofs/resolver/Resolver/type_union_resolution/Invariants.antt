use Rattle.std.proofs.Common.{◌≡◌, ◌-◌}
use Rattle.buffers.specs.Region.{Room}
use Rattle.resolution.proofs.Folding.{SameUpTo}
use Rattle.resolution.proofs.resolver.Resolver.type_union_resolution.Given as goal

abbrev pub invariant-loop-last : goal.invariant-loop-last
invariant-loop-last l =
    record {
      room : Room l.work l.self.space;
      untouched : l.work ≡ l.initial.work;
      same : SameUpTo l.self.rules l.self.space l.self.sheet.now l.work l.link l.initial.at l.last l.at;
    }

abbrev pub decreases-loop-last : goal.decreases-loop-last
decreases-loop-last l =
    l.self.space.n - l.last
