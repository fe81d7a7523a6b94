use Rattle.std.proofs.Common.{◌-◌, ◌<◌}
use Rattle.coercion.specs.Answers.{fold_from}
use Rattle.coercion.specs.Data.{for_list}
use Rattle.buffers.specs.Region.{Room}
use Rattle.plain.specs.Value.{Valued}
use Rattle.plain.proofs.Taking.{Absorbs}
use Rattle.resolution.proofs.Folding.{FoldsOn}
use Rattle.resolution.proofs.resolver.Resolver.fold_plain.Given as goal

abbrev pub invariant-loop-last : goal.invariant-loop-last
invariant-loop-last l =
    record {
      room : Room l.work l.self.space;
      holdable : l.candidate.size < 4294967296;
      absorbs : Absorbs (for_list l.self.rules) l.kinds l.candidate;
      onward : FoldsOn (fold_from (for_list l.self.rules)) l.self.space l.self.sheet.now (Valued l.initial.candidate) l.initial.work l.initial.last l.initial.at (Valued l.candidate) l.work l.last l.at;
    }

abbrev pub decreases-loop-last : goal.decreases-loop-last
decreases-loop-last l =
    l.self.space.n - l.last
