use mathlib.Core.List.{List}
use Prim.Native.Nat.{ℕ, ◌-◌}
use lib.ListN.{length}
use Rattle.sheet.specs.Head.{quad_at, eight_at}
use Rattle.sheet.proofs.Agreeing.{unlike}
use Rattle.sheet.proofs.label.look_alike.Goals as goal

pub returns-then-eight_at : goal.returns-then-eight_at
returns-then-eight_at c =
    unlike (λ (l : List ℕ). eight_at l 0) _ _ c.eight_at-then-eight_at.ensures c.eight_at-then-eight_at-2.ensures

pub returns-else-eight_at : goal.returns-else-eight_at
returns-else-eight_at c =
    unlike (λ (l : List ℕ). eight_at l (length c.args.x.now - 8)) _ _ c.eight_at.ensures c.eight_at-then-n-ge8.ensures

pub returns-then-quad_at : goal.returns-then-quad_at
returns-then-quad_at c =
    unlike (λ (l : List ℕ). quad_at l 0) _ _ c.quad_at-then-quad_at.ensures.0 c.quad_at-then-quad_at-2.ensures.0

pub returns-else-quad_at : goal.returns-else-quad_at
returns-else-quad_at c =
    unlike (λ (l : List ℕ). quad_at l (length c.args.x.now - 4)) _ _ c.quad_at.ensures.0 c.quad_at-then-n-ge4.ensures.0
