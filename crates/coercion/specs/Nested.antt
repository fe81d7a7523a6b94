-- Lists, structs and maps: `list_coercion`, `struct_coercion`, `map_coercion`. `coerce` is the source's `coerce_fn`.
use Rattle.std.specs.Prelude.{ℕ, Bool, true, false, cond, ◌&&◌, ◌||◌, List, eqb}
use Rattle.std.specs.Prelude.{Option, None, Some}
use Rattle.sheet.specs.declared.kind.TheConstants as Kind
use Rattle.sheet.specs.Types.{absent, Shape, Fields, end, field, arity}
use Rattle.sheet.specs.Names.{same_bytes, has_name}
use Rattle.sheet.specs.Kind.{is_list}
use Rattle.coercion.specs.Data.{DataType, and_then}
use Rattle.coercion.specs.Wrappers.{is_of}

-- one field before a chain
abbrev pub before : List ℕ → Bool → DataType → Fields → Fields
before name nullable t rest = field name nullable t.shape t.parts rest

-- A chain of fields under the left's names, in the left's order. Types are coerced with those of one chain,
-- nullability is joined with that of another.
unfoldable pub join_fields : (DataType → DataType → Option DataType) → Fields → Fields → Fields → Option Fields
join_fields coerce end end end = Some end
join_fields coerce end end (field name nullable shape parts rest) = None
join_fields coerce end (field name nullable shape parts rest) end = None
join_fields coerce end (field name nullable shape parts rest) (field name' nullable' shape' parts' rest') = None
join_fields coerce (field name nullable shape parts rest) end end = None
join_fields coerce (field name nullable shape parts rest) end (field name' nullable' shape' parts' rest') = None
join_fields coerce (field name nullable shape parts rest) (field name' nullable' shape' parts' rest') end = None
join_fields coerce (field name nullable shape parts rest) (field name' nullable' shape' parts' rest') (field name'' nullable'' shape'' parts'' rest'') =
    and_then (coerce (record { shape = shape; parts = parts }) (record { shape = shape'; parts = parts' }))
    (λ t. and_then (join_fields coerce rest rest' rest'') (λ fields. Some (before name (nullable || nullable'') t fields)))

-- `fields_have_same_names`: each name of the left is one of the right's
unfoldable pub fields_have_same_names : Fields → Fields → Bool
fields_have_same_names end r = true
fields_have_same_names (field name nullable shape parts rest) r = has_name name r && fields_have_same_names rest r

-- the field of a chain that has a name, before another chain
unfoldable pub with_name : List ℕ → Fields → Fields → Option Fields
with_name name end rest = None
with_name name (field name' nullable shape parts more) rest = cond (same_bytes name name') (Some (field name' nullable shape parts rest)) (with_name name more rest)

-- the right's fields in the order of the left's names; none where a name is missing
unfoldable pub by_name : Fields → Fields → Option Fields
by_name end r = Some end
by_name (field name nullable shape parts rest) r = and_then (by_name rest r) (λ more. with_name name r more)

-- Which of the right's fields feeds which of the left's: "Where the two sets of names are equal, fields match by
-- name, in the order of the left"; "Where the sets of names differ, fields match by place"
unfoldable pub partners : Fields → Fields → Option Fields
partners l r = cond (fields_have_same_names l r) (by_name l r) (Some r)

-- a shape that has no figure
abbrev pub shape_of_kind : ℕ → Shape
shape_of_kind k = record { kind = k; figure = 0; scale = 0; size = 0; sorted = false; zone = absent }

abbrev pub struct_of : Option Fields → Option DataType
struct_of None = None
struct_of (Some fields) = Some (record { shape = shape_of_kind Kind.STRUCT; parts = fields })

-- `struct_coercion`, with `coerce_struct_by_name`, `coerce_struct_by_position` and `coerce_fields`
unfoldable pub struct_coercion : (DataType → DataType → Option DataType) → DataType → DataType → Option DataType
struct_coercion coerce l r =
    cond (is_of Kind.STRUCT l && (is_of Kind.STRUCT r && eqb (arity l.parts) (arity r.parts)))
    (struct_of (and_then (partners l.parts r.parts) (λ fields. join_fields coerce l.parts fields fields)))
    None

-- the kind and the size of two lists' common list
abbrev pub list_shape : Shape → Shape → Shape
list_shape l r =
    cond (eqb l.kind Kind.FIXED_SIZE_LIST && eqb r.kind Kind.FIXED_SIZE_LIST)
    (cond (eqb l.size r.size)
    (record { kind = Kind.FIXED_SIZE_LIST; figure = 0; scale = 0; size = r.size; sorted = false; zone = absent })
    (shape_of_kind Kind.LIST))
    (cond (eqb l.kind Kind.LARGE_LIST || eqb r.kind Kind.LARGE_LIST) (shape_of_kind Kind.LARGE_LIST) (shape_of_kind Kind.LIST))

abbrev pub list_of : Shape → Option Fields → Option DataType
list_of shape None = None
list_of shape (Some item) = Some (record { shape = shape; parts = item })

-- `list_coercion`, with `coerce_list_children`: the item under the left's name, its nullability joined
unfoldable pub list_coercion : (DataType → DataType → Option DataType) → DataType → DataType → Option DataType
list_coercion coerce l r =
    cond (is_list l.shape.kind && is_list r.shape.kind)
    (list_of (list_shape l.shape r.shape) (join_fields coerce l.parts r.parts r.parts))
    None

abbrev pub entry_type : Fields → Option DataType
entry_type end = None
entry_type (field name nullable shape parts rest) = Some (record { shape = shape; parts = parts })

abbrev pub entry_of : Fields → DataType → Fields
entry_of end t = end
entry_of (field name nullable shape parts rest) t = field name nullable t.shape t.parts end

abbrev pub map_shape : Bool → Shape
map_shape sorted = record { kind = Kind.MAP; figure = 0; scale = 0; size = 0; sorted = sorted; zone = absent }

-- `map_coercion`: "The entry of a Map keeps the left's name and nullability"; "A Map is sorted where both are"
unfoldable pub map_coercion : (DataType → DataType → Option DataType) → DataType → DataType → Option DataType
map_coercion coerce l r =
    cond (is_of Kind.MAP l && is_of Kind.MAP r)
    (and_then (entry_type l.parts)
    (λ a. and_then (entry_type r.parts)
    (λ b. and_then (struct_coercion coerce a b)
    (λ t. Some (record { shape = map_shape (l.shape.sorted && r.shape.sorted); parts = entry_of l.parts t })))))
    None
