-- What two records have in common, byte by byte.
use Rattle.std.specs.Prelude.{ℕ, ◌/◌, ◌%◌, Bool, cond, List, [], ◌∷◌, eqb}
use Rattle.sheet.specs.Booleans.{all_of}
use Rattle.sheet.specs.Head.{zoned_in, zone_at, zone_len}
use Rattle.sheet.specs.Read.{label_at}
use Rattle.sheet.specs.Names.{same_bytes}
use Rattle.sheet.specs.declared.Head.{Head}

-- bytes 0, 2 and 3, and of byte 1 the bits for sorted and for a zone
abbrev pub same_figures : Head → Head → Bool
same_figures g h =
    all_of
    (eqb g.kind h.kind
    ∷ eqb g.figure h.figure
    ∷ eqb g.scale h.scale
    ∷ eqb (g.flags / 2 % 4) (h.flags / 2 % 4)
    ∷ [])

-- bytes 4 to 7, where both or neither place a zone
abbrev pub same_content : List ℕ → ℕ → Head → List ℕ → ℕ → Head → Bool
same_content s n g t m h =
    cond (zoned_in g) (same_bytes (label_at s n (zone_at g) (zone_len g)) (label_at t m (zone_at h) (zone_len h))) (eqb g.bytes_4_7 h.bytes_4_7)
