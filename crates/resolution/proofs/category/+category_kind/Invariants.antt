use Prim.Native.Nat.{◌-◌}
use Rattle.resolution.proofs.category.+category_kind.Given as goal

abbrev pub decreases-category_kind : goal.decreases-category_kind
decreases-category_kind l = l.n - l.r
