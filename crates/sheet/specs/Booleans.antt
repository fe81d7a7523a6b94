-- Several tests at once.
use Rattle.std.specs.Prelude.{Bool, true, false, not, ◌&&◌, ◌||◌, List, [], ◌∷◌, ℕ, leb}

unfoldable pub all_of : List Bool → Bool
all_of [] = true
all_of (t ∷ ts) = t && all_of ts

unfoldable pub one_of : List Bool → Bool
one_of [] = false
one_of (t ∷ ts) = t || one_of ts

abbrev pub implies : Bool → Bool → Bool
implies a b = not a || b

-- whether k is one of lo to hi
unfoldable pub between : ℕ → ℕ → ℕ → Bool
between lo hi k = leb lo k && leb k hi
