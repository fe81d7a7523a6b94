use Rattle.std.proofs.Common.{◌≡◌, ◌-◌, length}
use Rattle.coercion.specs.Answers.{fold_from}
use Rattle.coercion.specs.Data.{for_list}
use Rattle.buffers.specs.Region.{Room, Inside}
use Rattle.resolution.specs.Keeps.{BottomIf}
use Rattle.resolution.specs.Reached.{Candidate}
use Rattle.resolution.proofs.Shifting.{second}
use Rattle.resolution.proofs.Folding.{FoldsOn}
use Rattle.resolution.proofs.resolver.Resolver.fold_from.Given as goal

abbrev pub invariant-loop-last : goal.invariant-loop-last
invariant-loop-last l =
    record {
      room : Room l.work l.self.space;
      long : length l.work ≡ length l.initial.work;
      inside : Inside l.self.space l.end;
      bottom : BottomIf l.self.space (second l.self.space l.work) l.known;
      onward : FoldsOn (fold_from (for_list l.self.rules)) l.self.space l.self.sheet.now (Candidate l.self.space l.initial.work l.initial.end) l.initial.work l.initial.last l.initial.at (Candidate l.self.space l.work l.end) l.work l.last l.at;
    }

abbrev pub decreases-loop-last : goal.decreases-loop-last
decreases-loop-last l =
    l.self.space.n - l.last
