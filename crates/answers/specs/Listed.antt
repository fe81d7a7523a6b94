-- Listed types as the chain that a sheet spells.
use Rattle.std.specs.Prelude.{false, List, [], ◌∷◌}
use Rattle.sheet.specs.Types.{Fields, end, field}
use Rattle.coercion.specs.Data.{DataType}

-- "Listed types and the parts of a Dictionary are neither nullable nor named."
abbrev pub listed : List DataType → Fields
listed [] = end
listed (t ∷ ts) = field [] false t.shape t.parts (listed ts)
