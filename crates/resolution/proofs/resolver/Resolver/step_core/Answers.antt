use Rattle.std.proofs.Common.{refl, ap, true, ℕ, ◌-◌, arith}
use Rattle.merge.proofs.Merging.{none_known}
use Rattle.resolution.proofs.Shifting.{head_second}
use Rattle.resolution.proofs.Folding.{merged}
use Rattle.resolution.proofs.Cores.{core_lost, core_short, core_stepped}
use Rattle.resolution.proofs.resolver.Resolver.step_core.Goals as goal
use Rattle.coercion.specs.Data.{for_list}

pub returns-then-d-lt2 : goal.returns-then-d-lt2
returns-then-d-lt2 c =
    core_lost (for_list c.args.self.now.rules) _ c.requires.room.0 c.requires.room.1 c.requires.cored c.if-d-lt2.true

pub returns-then-d-own : goal.returns-then-d-own
returns-then-d-own c =
    core_short (for_list c.args.self.now.rules) _ c.requires.room.0 c.requires.room.1 c.requires.cored c.head_at-h.result (head_second c.args.self.now.space c.args.work.now c.head_at-h.result _ c.head_at-h.ensures.0) (omega (arith, c.if-d-own.true, c.label_bytes-own.ensures.0))

pub returns : goal.returns
returns c =
    core_stepped (for_list c.args.self.now.rules) _ c.requires.room.0 c.requires.room.1 c.requires.cored c.head_at-h.result (head_second c.args.self.now.space c.args.work.now c.head_at-h.result _ c.head_at-h.ensures.0) c.coerce.result refl (ap (λ (k : ℕ). c.args.d.label - k) c.label_bytes-own.ensures.0) c.nullable.ensures c.move_candidate_down.ensures (none_known true (merged (rw c.for_list.ensures at c.merger-merger.ensures) c.coerce.ensures))
