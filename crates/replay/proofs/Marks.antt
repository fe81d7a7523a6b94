-- Spaces that are filled, and what is found in them. Assumes nothing.
use mathlib.Core.Path.{◌≡◌, refl, ap, ◌∙◌}
use mathlib.Core.Bool.{Bool, ◌&&◌}
use mathlib.Core.List.{List, [], ◌∷◌}
use Prim.Native.Nat.{ℕ, ◌+◌}
use native.Mathlib.Omega.{arith}
use lib.Dec.{eqb}
use Rattle.std.specs.List.{list_all, enumerate_from}
use Rattle.sheet.specs.Refusals.{all_zero}
use Rattle.replay.specs.Spaces.{mark_at, is_marked}

pub zeros : (s : List ℕ) → list_all (λ b. eqb b 0) s ≡ all_zero s
zeros [] = refl
zeros (b ∷ bs) = ap (λ (t : Bool). eqb b 0 && t) (zeros bs)

marked_from : (from n : ℕ) (s : List ℕ) → list_all (λ p. eqb p.1 (mark_at (from + p.0))) (enumerate_from n s) ≡ is_marked (from + n) s
unfolding is_marked
marked_from from n [] = refl
marked_from from n (b ∷ bs) =
    ap (λ (t : Bool). eqb b (mark_at (from + n)) && t) (marked_from from (n + 1) bs ∙ ap (λ (k : ℕ). is_marked k bs) (omega arith))

pub marked : (from : ℕ) (s : List ℕ) → list_all (λ p. eqb p.1 (mark_at (from + p.0))) (enumerate_from 0 s) ≡ is_marked from s
marked from s = marked_from from 0 s ∙ ap (λ (k : ℕ). is_marked k s) (omega arith)
