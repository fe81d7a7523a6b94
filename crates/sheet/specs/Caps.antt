-- "Each width has a cap of its own: 9 for Decimal32, 18 for Decimal64, 38 for Decimal128 and 76 for Decimal256."
use Rattle.std.specs.Prelude.{ℕ, cond, eqb}
use Rattle.sheet.specs.declared.kind.TheConstants as Kind
use Rattle.sheet.specs.declared.caps.Width.{Width}
use Rattle.sheet.specs.declared.caps.Width.TheVariants.{W32, W64, W128, W256}

abbrev pub cap_of : Width → ℕ
cap_of W32 = 9
cap_of W64 = 18
cap_of W128 = 38
cap_of W256 = 76

-- the width of a decimal's kind
abbrev pub width_of : ℕ → Width
width_of k = cond (eqb k Kind.DECIMAL32) W32 (cond (eqb k Kind.DECIMAL64) W64 (cond (eqb k Kind.DECIMAL128) W128 W256))
