-- The laws of the rules, which the functions of src/laws.rt promise. Quotations are of docs/RULES.md.
use Rattle.std.specs.Prelude.{◌≡◌, ℕ, ◌<◌, ◌≤◌, true, false, ◌&&◌, Option, None, Some, length, replicate}
use mathlib.Core.List.{List, [], ◌∷◌, map, Memᴰ}
use Rattle.sheet.specs.declared.kind.TheConstants as Kind
use Rattle.sheet.specs.Kind.{is_decimal, cap}
use Rattle.sheet.specs.Types.{Fields, present, arity, count, labels}
use Rattle.sheet.specs.Names.{has_name, repeats, names_differ}
use Rattle.sheet.specs.Refusals.{decimal_right}
use Rattle.sheet.specs.Encode.{encode}
use Rattle.sheet.specs.Carried.{Carried}
use Rattle.coercion.specs.Data.{DataType, single, types_of, plain, zoned, of_unit, for_list}
use Rattle.coercion.specs.Same.{equal, alike, nameless}
use Rattle.coercion.specs.Wrappers.{is_of}
use Rattle.coercion.specs.Numbers.{get_wider_decimal_type}
use Rattle.coercion.specs.Nested.{fields_have_same_names, by_name, partners, shape_of_kind, struct_coercion, list_shape, list_coercion, map_coercion}
use Rattle.coercion.specs.Answers.{ask, list_struct, coercion, type_union_resolution, answer_of}
use Rattle.coercion.specs.Columns.{Pairs, names_of, nulls_of, by_place, Merged, Matched, Fed, Entry}
use Rattle.coercion.specs.Wider.{decimal_of, Wider}
use Rattle.coercion.specs.declared.Question.{Question}
use Rattle.coercion.specs.declared.Rules.{Rules}

-- "The parts of two types are asked the same question": the common type of two types, without the bound on the depth
abbrev pub SameQuestion : Type 0
SameQuestion = (rules : Rules) (l r : DataType) → coercion rules l r ≡ ask rules.question rules (coercion rules) l r

-- "Alike types give the left", in union and compare
abbrev pub AlikeLeft : Type 0
AlikeLeft = (rules : Rules) → Pairs rules.question → (l r : DataType) → alike l r ≡ true → coercion rules l r ≡ Some l

-- equal types give themselves, whichever the question
abbrev pub EqualLeft : Type 0
EqualLeft = (rules : Rules) (l r : DataType) → equal l r ≡ true → coercion rules l r ≡ Some l

-- "Types that are all equal, in names and nullability too, give that type, so Nulls alone give Null"
abbrev pub AllEqual : Type 0
AllEqual = (rules : Rules) (t : DataType) (n : ℕ) → type_union_resolution rules (t ∷ replicate n t) ≡ Some t

-- the test for equal types finds the same types and no others
abbrev pub EqualSame : Type 0
EqualSame = (l r : DataType) → equal l r ≡ true → l ≡ r

abbrev pub SameEqual : Type 0
SameEqual = (t : DataType) → equal t t ≡ true

-- "Alike leaves out the names of fields at every depth", and nothing else
abbrev pub AlikeNameless : Type 0
AlikeNameless = (l r : DataType) → alike l r ≡ true → nameless l ≡ nameless r

abbrev pub NamelessAlike : Type 0
NamelessAlike = (l r : DataType) → nameless l ≡ nameless r → alike l r ≡ true

-- "Where the two sets of names are equal, fields match by name, in the order of the left"
abbrev pub PairedByName : Type 0
PairedByName = (l r : Fields) → fields_have_same_names l r ≡ true → partners l r ≡ by_name l r

-- by name each field of the right is taken once, under the left's names
abbrev pub EachMatchedOnce : Type 0
EachMatchedOnce = (l r : Fields) → repeats l ≡ false → fields_have_same_names l r ≡ true → arity l ≡ arity r → Matched l r

-- "Where the sets of names differ, fields match by place"
abbrev pub PairedByPlace : Type 0
PairedByPlace = (l r : Fields) → fields_have_same_names l r ≡ false → partners l r ≡ Some r

-- the names of the left being names of the right, the two sets are equal
abbrev pub SameSets : Type 0
SameSets = (l r : Fields) → repeats l ≡ false → fields_have_same_names l r ≡ true → arity l ≡ arity r → (n : List ℕ) → has_name n l ≡ has_name n r

-- "Unless there is no common type, every field of the right feeds exactly one field of the left"
abbrev pub EachFeedsOne : Type 0
EachFeedsOne = (l r : Fields) → repeats l ≡ false → arity l ≡ arity r → Fed l r

-- two Structs by `struct_coercion`: types and nullability go by the pairing; "The answer has the left's names, in the
-- left's order"
abbrev pub StructAnswer : Type 0
StructAnswer =
    (coerce : DataType → DataType → Option DataType) (l r t : DataType) → struct_coercion coerce l r ≡ Some t
    → (fields : Fields) × (partners l.parts r.parts ≡ Some fields) × (t.shape ≡ shape_of_kind Kind.STRUCT) × Merged coerce l.parts fields fields t.parts

-- "Structs with unequal numbers of fields have no common type"
abbrev pub StructUnequal : Type 0
StructUnequal = (coerce : DataType → DataType → Option DataType) (l r : DataType) → (arity l.parts ≡ arity r.parts → ⊥) → struct_coercion coerce l r ≡ None

-- what is said of the common type of two Structs
abbrev OfStructs : (DataType → DataType → Type 0) → Type 0
OfStructs P = (l r : DataType) → is_of Kind.STRUCT l ≡ true → is_of Kind.STRUCT r ≡ true → P l r

-- and of their union or comparison
abbrev OfLayouts : (Rules → DataType → DataType → Type 0) → Type 0
OfLayouts P = (rules : Rules) → Pairs rules.question → OfStructs (P rules)

-- "Where two layouts are alike, the union answer is the left layout"
abbrev pub LayoutsAlike : Type 0
LayoutsAlike = OfLayouts (λ rules l r. alike l r ≡ true → coercion rules l r ≡ Some l)

-- "Layouts that are not alike, with unequal numbers of columns, have no union answer"
abbrev pub LayoutsUnequal : Type 0
LayoutsUnequal = OfLayouts (λ rules l r. (arity l.parts ≡ arity r.parts → ⊥) → coercion rules l r ≡ None)

-- "Where they are not alike, each column is asked the same question, and the column types together are those of the
-- union answer"
abbrev pub LayoutsJoined : Type 0
LayoutsJoined =
    OfLayouts (λ rules l r. alike l r ≡ false → (t : DataType) → coercion rules l r ≡ Some t
    → (fields : Fields) × (partners l.parts r.parts ≡ Some fields) × (t.shape ≡ shape_of_kind Kind.STRUCT)
    × Merged (coercion rules) l.parts fields fields t.parts)

-- "One pair of fields without a common type leaves the Structs without one"
abbrev pub LayoutsNone : Type 0
LayoutsNone =
    OfLayouts (λ rules l r. (fields : Fields) → partners l.parts r.parts ≡ Some fields → alike l r ≡ false
    → Memᴰ None (by_place (coercion rules) (types_of l.parts) (types_of fields)) → coercion rules l r ≡ None)

-- and where each pair has one, so have the Structs
abbrev pub LayoutsSome : Type 0
LayoutsSome =
    OfLayouts (λ rules l r. (fields : Fields) → partners l.parts r.parts ≡ Some fields → alike l r ≡ false → arity l.parts ≡ arity r.parts
    → (ts : List DataType) → map Some ts ≡ by_place (coercion rules) (types_of l.parts) (types_of fields) → (t : DataType) × (coercion rules l r ≡ Some t))

-- "Unless there is no common type, every field of the right feeds exactly one field of the left", of the answer itself
abbrev pub LayoutsFed : Type 0
LayoutsFed = OfLayouts (λ rules l r. repeats l.parts ≡ false → (t : DataType) → coercion rules l r ≡ Some t → Fed l.parts r.parts)

-- the list's rule for two Structs: types by name, "In a list the nullability of Structs is joined by place"
abbrev pub ListStructAnswer : Type 0
ListStructAnswer =
    (coerce : DataType → DataType → Option DataType) (l r t : DataType) → list_struct coerce l r ≡ Some t
    → (fields : Fields) × (by_name l.parts r.parts ≡ Some fields) × (t.shape ≡ shape_of_kind Kind.STRUCT) × Merged coerce l.parts fields r.parts t.parts

-- what is said of two Structs in a list that are not equal
abbrev OfListed : (Rules → DataType → DataType → Type 0) → Type 0
OfListed P = (rules : Rules) → OfStructs (λ l r. equal l r ≡ false → P (for_list rules) l r)

abbrev pub ListedJoined : Type 0
ListedJoined =
    OfListed (λ rules l r. (t : DataType) → coercion rules l r ≡ Some t
    → (fields : Fields) × (by_name l.parts r.parts ≡ Some fields) × (t.shape ≡ shape_of_kind Kind.STRUCT)
    × Merged (coercion rules) l.parts fields r.parts t.parts)

-- "In a list a name that the right lacks leaves the Structs without a common type"
abbrev pub ListedMissing : Type 0
ListedMissing = OfListed (λ rules l r. fields_have_same_names l.parts r.parts ≡ false → coercion rules l r ≡ None)

-- "Structs with unequal numbers of fields have no common type in a list either"
abbrev pub StructsUnequal : Type 0
StructsUnequal = (rules : Rules) → OfStructs (λ l r. (arity l.parts ≡ arity r.parts → ⊥) → coercion rules l r ≡ None)

-- "The item has the left's name, the common type of both items, and is nullable where either is"
abbrev pub ListAnswer : Type 0
ListAnswer =
    (coerce : DataType → DataType → Option DataType) (l r t : DataType) → list_coercion coerce l r ≡ Some t
    → (t.shape ≡ list_shape l.shape r.shape) × Merged coerce l.parts r.parts r.parts t.parts

-- "The entries of two Maps are coerced by the rule for Structs of union and compare, in a list too"
abbrev pub MapAnswer : Type 0
MapAnswer = (coerce : DataType → DataType → Option DataType) (l r t : DataType) → map_coercion coerce l r ≡ Some t → Entry coerce l r t

-- "The entry of a Map keeps the left's name and nullability"; "A Map is sorted where both are"
abbrev pub MapKept : Type 0
MapKept =
    (coerce : DataType → DataType → Option DataType) (l r t : DataType) → map_coercion coerce l r ≡ Some t → arity l.parts ≡ 1
    → (t.shape.sorted ≡ (l.shape.sorted && r.shape.sorted)) × (names_of t.parts ≡ names_of l.parts) × (nulls_of t.parts ≡ nulls_of l.parts)

-- a Timestamp in seconds with a zone of one byte
abbrev stamp : ℕ → DataType
stamp z = zoned (of_unit Kind.TIMESTAMP 0) (present (z ∷ []))

-- in a list of Timestamps with the zones A and B the later zone wins, as "In the fold the new type stands on the left
-- and the candidate on the right"
abbrev pub LaterZone : Type 0
LaterZone = (rules : Rules) → type_union_resolution (for_list rules) (stamp 65 ∷ stamp 66 ∷ []) ≡ Some (stamp 66)

-- two decimals of one width that a sheet may carry
abbrev OfDecimals : ((w p s q t : ℕ) → Type 0) → Type 0
OfDecimals P =
    (w p s q t : ℕ) → is_decimal w ≡ true → decimal_right (cap w) p s ≡ true → decimal_right (cap w) q t ≡ true → s < 256 → t < 256 → P w p s q t

-- the decimal rule, over the cap too, for all four widths together and in signed numbers
abbrev pub DecimalRule : Type 0
DecimalRule = OfDecimals (λ w p s q t. Wider w p s q t (get_wider_decimal_type (decimal_of w p s) (decimal_of w q t)))

-- it gives the answer to all three questions, whatever the mask
abbrev pub DecimalAnswer : Type 0
DecimalAnswer =
    OfDecimals (λ w p s q t. (rules : Rules)
    → coercion rules (plain (decimal_of w p s)) (plain (decimal_of w q t)) ≡ Some (plain (get_wider_decimal_type (decimal_of w p s) (decimal_of w q t))))

-- "An answer may be carried by a sheet, whatever types were listed in one"
abbrev pub AnswerCarried : Type 0
AnswerCarried =
    (q : Question) (rules : Rules) (ts : Fields) (t : DataType) → Carried ts → answer_of q rules (types_of ts) ≡ Some t → Carried (single t)

-- what is said of an answer to types whose names differ in each Struct
abbrev OfAnswers : (Fields → DataType → Type 0) → Type 0
OfAnswers P = (q : Question) (rules : Rules) (ts : Fields) (t : DataType) → names_differ ts ≡ true → answer_of q rules (types_of ts) ≡ Some t → P ts t

-- "An answer has at most as many records, and at most as many label bytes, as the types that were listed"
abbrev pub AnswerSmaller : Type 0
AnswerSmaller = OfAnswers (λ ts t. count (single t) ≤ count ts)

abbrev pub AnswerShorter : Type 0
AnswerShorter = OfAnswers (λ ts t. length (labels (single t)) ≤ length (labels ts))

-- "The bytes of an answer's one-type sheet are at most as many as those of the sheet that was asked about"
abbrev pub AnswerLength : Type 0
AnswerLength = OfAnswers (λ ts t. length (encode (single t)) ≤ length (encode ts))
