use mathlib.Core.Path.{ap, sym, ◌∙◌}
use mathlib.Core.Bool.{Bool, cond}
use Prim.Native.Nat.{ℕ, ◌/◌, ◌%◌}
use native.Mathlib.Omega.{arith}
use borrow.Author.Tests.{ne_eqb}
use Rattle.refusals.proofs.Stamps.{stamp_passes}
use Rattle.refusals.proofs.pass.zone_labels.Goals as goal

pub returns-then-at-eq0 : goal.returns-then-at-eq0
returns-then-at-eq0 c =
    λ h up s e. stamp_passes h up s c.args.next 0 (omega (arith, e)) (omega (arith, e))

pub returns-then-len-lt256 : goal.returns-then-len-lt256
returns-then-len-lt256 c =
    λ h up s e.
    stamp_passes h up s c.args.next (c.args.bytes_4_7 / 65536) (ap (λ (x : ℕ). x / 65536) (sym e))
    (ap (λ (x : ℕ). x % 65536) e ∙ c.if-at-next.true ∙ sym (ap (λ (b : Bool). cond b 0 c.args.next) (ne_eqb (c.args.bytes_4_7 / 65536) 0 c.if-len-eq0.false)))
