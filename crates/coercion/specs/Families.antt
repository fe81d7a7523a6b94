-- The words of the least-type theorem: families, what holds what, and the least type.
use Rattle.std.specs.Prelude.{◌≡◌, ℕ, ◌+◌, ◌-◌, ◌*◌, ◌^◌, ◌<◌, ◌≤◌, Bool, true, false, cond, ◌&&◌, ◌||◌, List, [], ◌∷◌, leb}
use Rattle.sheet.specs.declared.kind.TheConstants as Kind
use Rattle.sheet.specs.Kind.{is_decimal, cap, is_integer, is_signed, is_string}
use Rattle.sheet.specs.Refusals.{biased, decimal_right}
use Rattle.coercion.specs.Data.{DataType, of_kind, of_unit, plain}
use Rattle.coercion.specs.Numbers.{decimal}
use Rattle.coercion.specs.Rules.{is_null}

-- "There are four families: the eight integers with Decimal128(20,0); the decimals of one width that a sheet may carry;
-- the three strings; the four units of a Timestamp without a zone"
pub data Family : Type 0 where
  integers strings timestamps : Family
  decimals : ℕ → Family

-- Decimal128(20,0)
abbrev pub widest : DataType
widest = plain (decimal Kind.DECIMAL128 20 128)

-- the types of a family
pub data Member : Family → DataType → Type 0 where
  integer : (k : ℕ) → is_integer k ≡ true → Member integers (plain (of_kind k))
  top : Member integers widest
  string : (k : ℕ) → is_string k ≡ true → Member strings (plain (of_kind k))
  timestamp : (unit : ℕ) → unit ≤ 3 → Member timestamps (plain (of_unit Kind.TIMESTAMP unit))
  decimal_of : (w p s : ℕ) → is_decimal w ≡ true → decimal_right (cap w) p s ≡ true → s < 256 → Member (decimals w) (plain (record { kind = w; figure = p; scale = s }))

-- Arrow's format: an integer of n bits has the numbers from −2ⁿ⁻¹ to 2ⁿ⁻¹ − 1 if it is signed, and from 0 to 2ⁿ − 1
-- if not
abbrev pub bits : ℕ → ℕ
bits k = 8 * 2 ^ cond (is_signed k) (k - Kind.INT8) (k - Kind.UINT8)

-- how far the range of an integer goes below zero, and what it ends before
abbrev pub below : ℕ → ℕ
below k = cond (is_signed k) (2 ^ (bits k - 1)) 0

abbrev pub above : ℕ → ℕ
above k = cond (is_signed k) (2 ^ (bits k - 1)) (2 ^ bits k)

-- "An integer holds another where its range includes the other's range"; "Decimal128(20,0) holds every integer, and no
-- integer holds Decimal128(20,0)"
abbrev pub integer_holds : ℕ → ℕ → Bool
integer_holds k j = cond (is_decimal k) true (cond (is_decimal j) false (leb (below j) (below k) && leb (above j) (above k)))

-- "A decimal (p,s) holds (q,t) where t ≤ s and q − t ≤ p − s", where biased s is s + 128
abbrev pub decimal_holds : ℕ → ℕ → ℕ → ℕ → Bool
decimal_holds p s q t = leb (biased t) (biased s) && leb (q + biased s) (p + biased t)

-- what holds what in a family; "Every type holds itself, and every type holds Null"
unfoldable pub holds : Family → DataType → DataType → Bool
holds integers t u = is_null u || integer_holds t.shape.kind u.shape.kind
holds strings t u = is_null u || leb u.shape.kind t.shape.kind
holds timestamps t u = is_null u || leb u.shape.figure t.shape.figure
holds (decimals w) t u = is_null u || decimal_holds t.shape.figure t.shape.scale u.shape.figure u.shape.scale

abbrev pub HoldsAll : Family → DataType → List DataType → Type 0
HoldsAll f t [] = Unit
HoldsAll f t (u ∷ us) = (holds f t u ≡ true) × HoldsAll f t us

-- "The least type of a list is the type of the family that holds every listed type, and that every other type of the
-- family that holds them all holds in turn"
pub record Least (f : Family) (ts : List DataType) (t : DataType) : Type 0 where
  pub member : Member f t
  pub holds_them : HoldsAll f t ts
  pub least : (u : DataType) → Member f u → HoldsAll f u ts → holds f u t ≡ true

-- "the greatest scale that is listed"
abbrev pub Greatest : ℕ → List DataType → Type 0
Greatest s [] = Unit
Greatest s (t ∷ ts) = (is_null t ≡ false → biased t.shape.scale ≤ biased s) × Greatest s ts

pub data Listed (s : ℕ) : List DataType → Type 0 where
  here : {t : DataType} {ts : List DataType} → is_null t ≡ false → t.shape.scale ≡ s → Listed s (t ∷ ts)
  later : {t : DataType} {ts : List DataType} → Listed s ts → Listed s (t ∷ ts)

-- "Decimals outgrow their width where no type of that width holds every listed type"; "The answer to decimals that
-- outgrow their width has the precision of the cap and the greatest scale that is listed"
pub record Outgrown (w : ℕ) (ts : List DataType) (t : DataType) : Type 0 where
  pub none : (u : DataType) → Member (decimals w) u → HoldsAll (decimals w) u ts → ⊥
  pub scale : ℕ
  pub is : t ≡ plain (record { kind = w; figure = cap w; scale = scale })
  pub listed : Listed scale ts
  pub greatest : Greatest scale ts

-- the answer of the least-type theorem
pub data Common : Family → List DataType → DataType → Type 0 where
  least : {f : Family} {ts : List DataType} {t : DataType} → Least f ts t → Common f ts t
  outgrown : {w : ℕ} {ts : List DataType} {t : DataType} → Outgrown w ts t → Common (decimals w) ts t

-- "Null is in no family and may stand in any list"
abbrev pub null_type : DataType
null_type = plain (of_kind Kind.NULL)

-- a list of one family and Nulls, with at least one type that is not Null
pub data InFamily (f : Family) : DataType → Type 0 where
  null : InFamily f null_type
  member : {t : DataType} → Member f t → InFamily f t

abbrev pub AllIn : Family → List DataType → Type 0
AllIn f [] = Unit
AllIn f (t ∷ ts) = InFamily f t × AllIn f ts

pub data SomeIn (f : Family) : List DataType → Type 0 where
  here : {t : DataType} {ts : List DataType} → Member f t → SomeIn f (t ∷ ts)
  later : {t : DataType} {ts : List DataType} → SomeIn f ts → SomeIn f (t ∷ ts)
