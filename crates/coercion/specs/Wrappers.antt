-- Dictionary and run ends: `dictionary_coercion`, `ree_coercion`. `coerce` is the source's `coerce_fn`.
use Rattle.std.specs.Prelude.{ℕ, Bool, cond, ◌&&◌, eqb}
use Rattle.std.specs.Prelude.{Option, None, Some}
use Rattle.sheet.specs.declared.kind.TheConstants as Kind
use Rattle.sheet.specs.Types.{Fields, end, field}
use Rattle.coercion.specs.Data.{DataType, and_then}
use Rattle.coercion.specs.Same.{equal}

-- "The second part of a wrapper is its value": the type of that part
abbrev pub value_in : Fields → Option DataType
value_in end = None
value_in (field name nullable shape parts end) = None
value_in (field name nullable shape parts (field name' nullable' shape' parts' rest)) = Some (record { shape = shape'; parts = parts' })

abbrev pub is_of : ℕ → DataType → Bool
is_of k t = eqb t.shape.kind k

-- both of a kind: their values; one of it: kept where its value is the other type, else its value and the other type
unfoldable pub wrapper_coercion : ℕ → (DataType → DataType → Option DataType) → DataType → DataType → Option DataType
wrapper_coercion k coerce l r =
    cond (is_of k l && is_of k r) (and_then (value_in l.parts) (λ v. and_then (value_in r.parts) (λ w. coerce v w)))
    (cond (is_of k l) (and_then (value_in l.parts) (λ v. cond (equal v r) (Some l) (coerce v r)))
    (cond (is_of k r) (and_then (value_in r.parts) (λ w. cond (equal w l) (Some r) (coerce l w))) None))

abbrev pub dictionary_coercion : (DataType → DataType → Option DataType) → DataType → DataType → Option DataType
dictionary_coercion coerce l r = wrapper_coercion Kind.DICTIONARY coerce l r

abbrev pub ree_coercion : (DataType → DataType → Option DataType) → DataType → DataType → Option DataType
ree_coercion coerce l r = wrapper_coercion Kind.RUN_END_ENCODED coerce l r
