-- Names: byte strings that are equal or not. "The fields of one Struct have names that differ."
use Rattle.std.specs.Prelude.{ℕ, ◌+◌, ◌*◌, ◌/◌, ◌%◌, Bool, true, false, not, ◌&&◌, ◌||◌, List, [], ◌∷◌, eqb}
use Rattle.sheet.specs.Booleans.{all_of}
use Rattle.sheet.specs.declared.kind.TheConstants as Kind
use Rattle.sheet.specs.Types.{Fields, end, field}

unfoldable pub same_bytes : List ℕ → List ℕ → Bool
same_bytes [] [] = true
same_bytes [] (y ∷ ys) = false
same_bytes (x ∷ xs) [] = false
same_bytes (x ∷ xs) (y ∷ ys) = eqb x y && same_bytes xs ys

-- whether a field of a chain has a name
unfoldable pub has_name : List ℕ → Fields → Bool
has_name name end = false
has_name name (field other nullable shape parts rest) = same_bytes name other || has_name name rest

-- whether two fields of a chain have one name
unfoldable pub repeats : Fields → Bool
repeats end = false
repeats (field name nullable shape parts rest) = has_name name rest || repeats rest

-- whether the names in each Struct of a chain, at every depth, differ
unfoldable pub names_differ : Fields → Bool
names_differ end = true
names_differ (field name nullable shape parts rest) =
    all_of (not (eqb shape.kind Kind.STRUCT && repeats parts) ∷ names_differ parts ∷ names_differ rest ∷ [])

-- a number of 32 bits that goes by the bytes of a name: its halves change places and bytes are added, four at once
-- while there are four, before it is multiplied by an odd number, so that each byte moves the upper bits
abbrev pub stir : ℕ → ℕ → ℕ
stir k x = 1640531527 * (k / 65536 + k % 65536 * 65536 + x) % 4294967296

unfoldable pub mixed : ℕ → List ℕ → ℕ
mixed k [] = k
mixed k (a ∷ []) = stir k a
mixed k (a ∷ b ∷ []) = stir (stir k a) b
mixed k (a ∷ b ∷ c ∷ []) = stir (stir (stir k a) b) c
mixed k (a ∷ b ∷ c ∷ d ∷ bs) = mixed (stir k (a + 256 * b + 65536 * (c + 256 * d))) bs
