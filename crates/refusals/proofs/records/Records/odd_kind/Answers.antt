use native.Mathlib.Omega.{arith}
use Prim.Native.Nat.{ℕ, ◌+◌, ◌-◌}
use mathlib.Core.Path.{◌≡◌, subst}
use mathlib.Core.Bool.{not}
use Rattle.sheet.specs.Kind.{is_kind}
use Rattle.sheet.specs.Head.{head_at}
use Rattle.sheet.specs.Refusals.{any_from}
use Rattle.refusals.proofs.Scans.{any_four}
use Rattle.refusals.proofs.records.Records.odd_kind.Goals as goal

pub loop-r-preserved : goal.loop-r-preserved
loop-r-preserved c =
    let s = c.args.self.now.sheet.now in
    let n = c.args.self.now.n in
    let r = c.loop-r.r in
    let first = any_four s n r c.args.self.now.inside (omega (arith, c.loop-r-test.true)) _ (c.are_kinds.ensures c.if-are_kinds.true) c.loop-r.invariant.1 in
    let both = any_four s n (r + 4) c.args.self.now.inside (omega (arith, c.loop-r-test.true)) _ (c.are_kinds-then-are_kinds.ensures c.if-are_kinds-2.true) first in
    let eight : r + 4 + 4 ≡ r + 8 = omega arith in
    (omega (arith, c.loop-r-test.true), subst (λ (q : ℕ). any_from (λ j. not (is_kind (head_at s j).kind)) q (n - q) ≡ any_from (λ j. not (is_kind (head_at s j).kind)) 1 (n - 1)) eight both)
