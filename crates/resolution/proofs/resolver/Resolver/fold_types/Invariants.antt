use Rattle.std.proofs.Common.{◌-◌, ℕ, List}
use Rattle.coercion.specs.Answers.{fold_types}
use Rattle.coercion.specs.Data.{for_list}
use Rattle.buffers.specs.Region.{Room}
use Rattle.buffers.specs.Written.{Written}
use Rattle.resolution.specs.Reached.{Reached}
use Rattle.resolution.proofs.resolver.Resolver.fold_types.Given as goal

abbrev pub invariant-loop-last : goal.invariant-loop-last
invariant-loop-last l =
    record {
      room : Room l.work l.self.space;
      onward : (v : List ℕ) (o : Written) → Reached (fold_types (for_list l.self.rules)) l.self.space l.self.sheet.now l.work v l.last l.at o
          → Reached (fold_types (for_list l.self.rules)) l.self.space l.self.sheet.now l.initial.work v l.initial.last l.initial.at o;
    }

abbrev pub decreases-loop-last : goal.decreases-loop-last
decreases-loop-last l =
    l.self.space.n - l.last
