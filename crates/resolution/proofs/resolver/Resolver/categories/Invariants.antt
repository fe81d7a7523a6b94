use Rattle.std.proofs.Common.{◌-◌}
use Rattle.resolution.specs.Reached.{seen_bits}
use Rattle.resolution.proofs.Listing.{Onward}
use Rattle.resolution.proofs.resolver.Resolver.categories.Given as goal

abbrev pub invariant-loop-last : goal.invariant-loop-last
invariant-loop-last l =
    Onward (seen_bits 0) (seen_bits l.bits) l.self.space l.self.sheet.now 0 l.link l.last l.at

abbrev pub decreases-loop-last : goal.decreases-loop-last
decreases-loop-last l =
    l.self.space.n - l.last
