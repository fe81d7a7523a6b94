-- The shape of two lists' common list, from the heads of two records.
use Rattle.std.specs.Prelude.{ℕ, cond, ◌&&◌, ◌||◌, eqb}
use Rattle.sheet.specs.declared.kind.TheConstants as Kind
use Rattle.sheet.specs.declared.Head.{Head}

-- the kind and the size of two lists' common list, by their heads
abbrev pub list_kind : Head → Head → ℕ
list_kind x y =
    cond (eqb x.kind Kind.FIXED_SIZE_LIST && eqb y.kind Kind.FIXED_SIZE_LIST) (cond (eqb x.bytes_4_7 y.bytes_4_7) Kind.FIXED_SIZE_LIST Kind.LIST)
    (cond (eqb x.kind Kind.LARGE_LIST || eqb y.kind Kind.LARGE_LIST) Kind.LARGE_LIST Kind.LIST)

abbrev pub list_size : Head → Head → ℕ
list_size x y = cond (eqb x.kind Kind.FIXED_SIZE_LIST && eqb y.kind Kind.FIXED_SIZE_LIST) (cond (eqb x.bytes_4_7 y.bytes_4_7) y.bytes_4_7 0) 0
