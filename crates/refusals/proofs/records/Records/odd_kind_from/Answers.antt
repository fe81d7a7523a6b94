use native.Mathlib.Omega.{arith}
use mathlib.Core.Bool.{not}
use Rattle.sheet.specs.Kind.{is_kind}
use Rattle.sheet.specs.Head.{head_at}
use Rattle.refusals.proofs.Scans.{any_next, any_here, odd_at}
use Rattle.refusals.proofs.records.Records.odd_kind_from.Goals as goal

pub returns-then-not-is_kind : goal.returns-then-not-is_kind
returns-then-not-is_kind c =
    any_here (λ j. not (is_kind (head_at c.args.self.now.sheet.now j).kind)) c.args.self.now.n c.loop-q.q _ c.loop-q-test.true (odd_at _ _ (omega (arith, c.args.self.now.inside)) c.is_kind.ensures c.if-not-is_kind.true) c.loop-q.invariant

pub loop-q-preserved : goal.loop-q-preserved
loop-q-preserved c =
    any_next (λ j. not (is_kind (head_at c.args.self.now.sheet.now j).kind)) c.args.self.now.n c.loop-q.q _ c.loop-q-test.true (odd_at _ _ (omega (arith, c.args.self.now.inside)) c.is_kind.ensures c.if-not-is_kind.false) c.loop-q.invariant
