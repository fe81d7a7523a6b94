use Rattle.resolution.specs.Keeps.{CoreAt}
use Rattle.resolution.proofs.Shifting.{to_second, on_candidate}
use Rattle.resolution.proofs.resolver.Resolver.step_list.Goals as goal

pub step_core-requires-clause-cored : goal.step_core-requires-clause-cored
step_core-requires-clause-cored c =
    record { is = on_candidate c.args.self.now.space c.args.work.now c.requires.room.0 c.requires.room.1 (c.is_core_alone.ensures c.if-is_core_alone.true (to_second c.args.self.now.space c.args.work.now (λ u. CoreAt c.args.self.now.space u 1 c.args.core) c.requires.core_at)) }
