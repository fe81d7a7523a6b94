-- The three answers on types: `type_union_resolution`, `type_union_coercion`, `comparison_coercion`.
use Rattle.std.specs.Prelude.{ℕ, zero, suc, ◌+◌, Bool, true, false, cond, not, ◌&&◌, ◌||◌, List, [], ◌∷◌, eqb}
use Rattle.std.specs.Prelude.{Option, None, Some}
use Rattle.sheet.specs.declared.kind.TheConstants as Kind
use Rattle.sheet.specs.Types.{Shape, Fields, end, field, arity}
use Rattle.coercion.specs.Data.{DataType, size, and_then, first_of, figures_of, plain, as_type, of_kind}
use Rattle.sheet.specs.Kind.{is_numeric, is_string, is_date, is_time, is_span, is_list}
use Rattle.coercion.specs.Strings.{string_coercion, binary_coercion}
use Rattle.coercion.specs.Times.{temporal_coercion_nonstrict_timezone}
use Rattle.coercion.specs.Numbers.{binary_numeric_coercion}
use Rattle.coercion.specs.Same.{equal, alike}
use Rattle.coercion.specs.Rules.{is_null, null_coercion, string_numeric_coercion, string_numeric_union_coercion, string_temporal_coercion}
use Rattle.coercion.specs.Wrappers.{value_in, is_of, dictionary_coercion, ree_coercion}
use Rattle.coercion.specs.Nested.{before, join_fields, by_name, struct_of, struct_coercion, list_coercion, map_coercion}
use Rattle.coercion.specs.declared.Question.{Question}
use Rattle.coercion.specs.declared.Rules.{Rules}

abbrev pub of_kind_type : Option ℕ → Option DataType
of_kind_type None = None
of_kind_type (Some k) = Some (plain (of_kind k))

-- `string_numeric_union_coercion` in a union, `string_numeric_coercion` else
abbrev pub string_number : Question → DataType → DataType → Option DataType
string_number Question.List l r = string_numeric_coercion l r
string_number Question.Union l r = string_numeric_union_coercion l r
string_number Question.Compare l r = string_numeric_coercion l r

-- The rules of `type_union_coercion` and `comparison_coercion`, in the source's order: "The number of a rule is its
-- place in this list", the alike test being number 1.
abbrev pub pair_rules : Rules → (DataType → DataType → Option DataType) → DataType → DataType → List (Option DataType)
pair_rules rules coerce l r =
    cond (alike l r) (Some l) None
    ∷ as_type (binary_numeric_coercion (figures_of l) (figures_of r))
    ∷ dictionary_coercion coerce l r
    ∷ ree_coercion coerce l r
    ∷ temporal_coercion_nonstrict_timezone l r
    ∷ of_kind_type (string_coercion l.shape.kind r.shape.kind)
    ∷ list_coercion coerce l r
    ∷ null_coercion rules.mask l r
    ∷ string_number rules.question l r
    ∷ string_temporal_coercion l r
    ∷ of_kind_type (binary_coercion l.shape.kind r.shape.kind)
    ∷ struct_coercion coerce l r
    ∷ map_coercion coerce l r
    ∷ []

-- a Dictionary of an index and a value
abbrev pub dictionary_of : DataType → Fields → DataType → Option DataType
dictionary_of d end value = None
dictionary_of d (field name nullable shape parts rest) value =
    Some (record { shape = d.shape; parts = field name nullable shape parts (before [] false value end) })

-- "A Dictionary of Utf8View is redundant, so a Dictionary with a type that is none gives Utf8View alone"
abbrev pub keep_dictionary : DataType → DataType → Option DataType
keep_dictionary d value = cond (is_of Kind.UTF8_VIEW value) (Some value) (dictionary_of d d.parts value)

-- "Two wrappers of one kind are joined part by part, under the names and nullability of the left, the new type"
abbrev pub both_parts : (DataType → DataType → Option DataType) → DataType → Fields → Fields → Option DataType
both_parts coerce l end r = None
both_parts coerce l (field n b s p end) r = None
both_parts coerce l (field n b s p (field n₂ b₂ s₂ p₂ q)) end = None
both_parts coerce l (field n b s p (field n₂ b₂ s₂ p₂ q)) (field m c t u end) = None
both_parts coerce l (field n b s p (field n₂ b₂ s₂ p₂ q)) (field m c t u (field m₂ c₂ t₂ u₂ v)) =
    and_then (coerce (record { shape = s; parts = p }) (record { shape = t; parts = u }))
    (λ x. and_then (coerce (record { shape = s₂; parts = p₂ }) (record { shape = t₂; parts = u₂ }))
    (λ y. Some (record { shape = l.shape; parts = before n b x (before n₂ b₂ y end) })))

-- run ends whose values are of another type
abbrev pub run_ends_of : DataType → Fields → DataType → Option DataType
run_ends_of d end value = None
run_ends_of d (field n b s p end) value = None
run_ends_of d (field n b s p (field n₂ b₂ s₂ p₂ q)) value = Some (record { shape = d.shape; parts = field n b s p (before n₂ b₂ value end) })

-- the wrapped value with the other type, and what is made of it: "The wrapped value goes left, whichever side the
-- wrapper stood on"
abbrev pub wrapped : (DataType → DataType → Option DataType) → DataType → DataType → (DataType → DataType → Option DataType) → Option DataType
wrapped coerce d other make = and_then (value_in d.parts) (λ v. and_then (coerce v other) (λ t. make d t))

-- "In a list the fields of Structs match by name alone, under the names and in the order of the left"; "In a list the
-- nullability of Structs is joined by place"
abbrev pub list_struct : (DataType → DataType → Option DataType) → DataType → DataType → Option DataType
list_struct coerce l r =
    cond (eqb (arity l.parts) (arity r.parts))
    (struct_of (and_then (by_name l.parts r.parts) (λ fields. join_fields coerce l.parts fields r.parts)))
    None

-- the other rules of `type_union_resolution_coercion`, in the source's order
abbrev pub list_rules : Rules → (DataType → DataType → Option DataType) → DataType → DataType → List (Option DataType)
list_rules rules coerce l r =
    as_type (binary_numeric_coercion (figures_of l) (figures_of r))
    ∷ list_coercion coerce l r
    ∷ map_coercion coerce l r
    ∷ temporal_coercion_nonstrict_timezone l r
    ∷ of_kind_type (string_coercion l.shape.kind r.shape.kind)
    ∷ null_coercion rules.mask l r
    ∷ string_numeric_coercion l r
    ∷ of_kind_type (binary_coercion l.shape.kind r.shape.kind)
    ∷ []

-- `type_union_resolution_coercion`
abbrev pub resolution_coercion : Rules → (DataType → DataType → Option DataType) → DataType → DataType → Option DataType
resolution_coercion rules coerce l r =
    cond (equal l r) (Some l)
    (cond (is_of Kind.DICTIONARY l && is_of Kind.DICTIONARY r) (both_parts coerce l l.parts r.parts)
    (cond (is_of Kind.DICTIONARY l) (wrapped coerce l r keep_dictionary)
    (cond (is_of Kind.DICTIONARY r) (wrapped coerce r l keep_dictionary)
    (cond (is_of Kind.RUN_END_ENCODED l && is_of Kind.RUN_END_ENCODED r) (both_parts coerce l l.parts r.parts)
    (cond (is_of Kind.RUN_END_ENCODED l) (wrapped coerce l r (λ d t. run_ends_of d d.parts t))
    (cond (is_of Kind.RUN_END_ENCODED r) (wrapped coerce r l (λ d t. run_ends_of d d.parts t))
    (cond (is_of Kind.STRUCT l && is_of Kind.STRUCT r) (list_struct coerce l r)
    (first_of (list_rules rules coerce l r)))))))))

-- what a question asks of two types, with what it asks of their parts
abbrev pub ask : Question → Rules → (DataType → DataType → Option DataType) → DataType → DataType → Option DataType
ask Question.List rules coerce l r = resolution_coercion rules coerce l r
ask Question.Union rules coerce l r = first_of (pair_rules rules coerce l r)
ask Question.Compare rules coerce l r = first_of (pair_rules rules coerce l r)

-- the same with a bound on the depth
unfoldable pub coerce_in : ℕ → Rules → DataType → DataType → Option DataType
coerce_in zero rules l r = None
coerce_in (suc f) rules l r = ask rules.question rules (coerce_in f rules) l r

-- The common type of two types: `type_union_resolution_coercion`, `type_union_coercion` or `comparison_coercion`.
-- "Coercion of two types asks only about their parts, with ever fewer records left in both, so it ends"
unfoldable pub coercion : Rules → DataType → DataType → Option DataType
coercion rules l r = coerce_in (size l + size r) rules l r

-- `TypeCategory`
pub data Category : Type 0 where
  array boolean numeric dateTime composite unknown notSupported : Category

-- the category of a type that is no wrapper
abbrev pub own_category : ℕ → Category
own_category k =
    cond (is_numeric k) numeric
    (cond (eqb k Kind.BOOLEAN) boolean
    (cond (is_list k) array
    (cond (is_string k || eqb k Kind.NULL) unknown
    (cond (is_date k || (is_time k || (eqb k Kind.TIMESTAMP || is_span k))) dateTime
    (cond (eqb k Kind.STRUCT || eqb k Kind.MAP) composite notSupported)))))

-- "A Dictionary and a RunEndEncoded have the category of their value"
unfoldable pub category_of : Shape → Fields → Category
category_of shape end = cond (eqb shape.kind Kind.DICTIONARY || eqb shape.kind Kind.RUN_END_ENCODED) notSupported (own_category shape.kind)
category_of shape (field n b s p end) = cond (eqb shape.kind Kind.DICTIONARY || eqb shape.kind Kind.RUN_END_ENCODED) notSupported (own_category shape.kind)
category_of shape (field n b s p (field n₂ b₂ s₂ p₂ rest)) =
    cond (eqb shape.kind Kind.DICTIONARY || eqb shape.kind Kind.RUN_END_ENCODED) (category_of s₂ p₂) (own_category shape.kind)

-- the number of a category, to tell two apart
abbrev pub category_number : Category → ℕ
category_number array = 1
category_number boolean = 2
category_number numeric = 3
category_number dateTime = 4
category_number composite = 5
category_number unknown = 6
category_number notSupported = 7

abbrev pub is_category : Category → Category → Bool
is_category a b = eqb (category_number a) (category_number b)

-- whether a list has a type of a category, Nulls aside
unfoldable pub has_category : Category → List DataType → Bool
has_category c [] = false
has_category c (t ∷ ts) = (not (is_null t) && is_category c (category_of t.shape t.parts)) || has_category c ts

abbrev pub as_number : Bool → ℕ
as_number false = 0
as_number true = 1

-- how many categories besides Unknown a list has
unfoldable pub categories_in : List DataType → ℕ
categories_in ts =
    as_number (has_category array ts)
    + (as_number (has_category boolean ts)
    + (as_number (has_category numeric ts) + (as_number (has_category dateTime ts) + as_number (has_category composite ts))))

-- whether the categories of a list allow an answer
abbrev pub categories_fit : List DataType → Bool
categories_fit ts = cond (has_category notSupported ts) false (Rattle.sheet.specs.Booleans.between 0 1 (categories_in ts))

abbrev pub all_equal : DataType → List DataType → Bool
all_equal t [] = true
all_equal t (u ∷ us) = equal u t && all_equal t us

-- "Nulls are skipped, and the other types are folded from the first to the last by `type_union_resolution_coercion`";
-- "In the fold the new type stands on the left and the candidate on the right"
unfoldable pub fold_from : Rules → DataType → List DataType → Option DataType
fold_from rules candidate [] = Some candidate
fold_from rules candidate (t ∷ ts) = cond (is_null t) (fold_from rules candidate ts) (and_then (coercion rules t candidate) (λ c. fold_from rules c ts))

unfoldable pub fold_types : Rules → List DataType → Option DataType
fold_types rules [] = None
fold_types rules (t ∷ ts) = cond (is_null t) (fold_types rules ts) (fold_from rules t ts)

-- `type_union_resolution`: "An empty list has no common type"; "Types that are all equal, in names and nullability
-- too, give that type, so Nulls alone give Null"; "A list with a type of no category has no common type"; "A list
-- with types of two categories has no common type; Unknown does not count"
unfoldable pub type_union_resolution : Rules → List DataType → Option DataType
type_union_resolution rules [] = None
type_union_resolution rules (t ∷ ts) =
    cond (all_equal t ts) (Some t)
    (cond (has_category notSupported (t ∷ ts)) None
    (cond (Rattle.sheet.specs.Booleans.between 0 1 (categories_in (t ∷ ts))) (fold_types rules (t ∷ ts)) None))

-- "Union and compare take two types, the left and then the right"
abbrev pub pair_answer : Rules → List DataType → Option DataType
pair_answer rules [] = None
pair_answer rules (l ∷ []) = None
pair_answer rules (l ∷ r ∷ []) = coercion rules l r
pair_answer rules (l ∷ r ∷ x ∷ xs) = None

-- the answer for a list of types
abbrev pub answer_of : Question → Rules → List DataType → Option DataType
answer_of Question.List rules ts = type_union_resolution rules ts
answer_of Question.Union rules ts = pair_answer rules ts
answer_of Question.Compare rules ts = pair_answer rules ts
