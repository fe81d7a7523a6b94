use Rattle.std.proofs.Common.{◌-◌, true}
use Rattle.coercion.specs.Answers.{fold_from}
use Rattle.coercion.specs.Data.{for_list}
use Rattle.buffers.specs.Region.{Room}
use Rattle.buffers.specs.Typed.{Typed}
use Rattle.resolution.specs.Reached.{Entry, Compared}
use Rattle.resolution.proofs.Folding.{FoldsOn}
use Rattle.resolution.proofs.resolver.Resolver.fold_first.Given as goal

abbrev pub invariant-loop-last : goal.invariant-loop-last
invariant-loop-last l =
    record {
      room : Room l.work l.self.space;
      compared : Compared l.known true l.self.space (Typed l.self.space l.self.sheet.now l.first) l.self.sheet.now l.at;
      onward : FoldsOn (fold_from (for_list l.self.rules)) l.self.space l.self.sheet.now (Entry l.self.space l.self.sheet.now l.first) l.initial.work l.initial.last l.initial.at (Entry l.self.space l.self.sheet.now l.first) l.work l.last l.at;
    }

abbrev pub decreases-loop-last : goal.decreases-loop-last
decreases-loop-last l =
    l.self.space.n - l.last
