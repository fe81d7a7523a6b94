-- What is written into a buffer, and what stays.
use Rattle.std.specs.Prelude.{◌≡◌, ℕ, ◌+◌, ◌<◌, ◌≤◌, List, length, get_or}
use Rattle.sheet.specs.Holds.{Span}

-- u was put at i: it stands there in v, and nothing else of w has changed
pub record Put (w v : List ℕ) (i : ℕ) (u : List ℕ) : Type 0 where
  pub long : length v ≡ length w
  pub below : (j : ℕ) → j < i → get_or v j 0 ≡ get_or w j 0
  pub above : (j : ℕ) → i + length u ≤ j → get_or v j 0 ≡ get_or w j 0
  pub span : Span v i u
