-- The types that are known to leave a candidate as it is, by kind.
use Rattle.std.specs.Prelude.{ℕ, ◌^◌, Bool, true, cond, ◌&&◌, ◌||◌, eqb}
use Rattle.std.specs.Int.Bits.{bit_or}
use Rattle.sheet.specs.declared.kind.TheConstants as Kind
use Rattle.coercion.specs.Data.{may_become}
use Rattle.coercion.specs.Same.{same_type}
use Rattle.plain.specs.declared.value.PlainType.{PlainType}
use Rattle.plain.specs.Value.{type_of_plain}

-- a type that is wholly its kind
abbrev pub is_bare : PlainType → Bool
is_bare x = eqb x.figure 0 && (eqb x.scale 0 && eqb x.size 0)

-- Null is skipped; another such type is known by its kind, one of the bits of a set
abbrev pub is_taken : ℕ → PlainType → Bool
is_taken kinds x = eqb x.kind Kind.NULL || (is_bare x && may_become kinds x.kind)

-- the set, after a type was joined with the last candidate to the next
abbrev pub taken_kinds : ℕ → PlainType → PlainType → PlainType → ℕ
taken_kinds kinds x last next = cond (same_type true (type_of_plain last) (type_of_plain next)) (cond (is_bare x) (bit_or kinds (2 ^ x.kind)) kinds) 0
