-- What the answers for two Structs, two lists or two Maps are made of, column by column. The laws of specs/Laws.antt
-- are said in these words.
use Rattle.std.specs.Prelude.{◌≡◌, ℕ, Bool, ◌&&◌, ◌||◌, Option, Some}
use mathlib.Core.List.{List, [], ◌∷◌, map, Permᴰ}
use Rattle.sheet.specs.Types.{Fields, end, field, arity}
use Rattle.coercion.specs.Data.{DataType, types_of}
use Rattle.coercion.specs.Nested.{by_name, partners, struct_coercion, entry_type, entry_of, map_shape}
use Rattle.coercion.specs.declared.Question.{Question}

-- the questions about two types
pub data Pairs : Question → Type 0 where
  of_union : Pairs Question.Union
  of_compare : Pairs Question.Compare

-- a field by itself
pub record Row : Type 0 where
  pub name : List ℕ
  pub nullable : Bool
  pub type : DataType

unfoldable pub rows_of : Fields → List Row
rows_of end = []
rows_of (field name nullable shape parts rest) = record { name = name; nullable = nullable; type = record { shape = shape; parts = parts } } ∷ rows_of rest

abbrev pub names_of : Fields → List (List ℕ)
names_of t = map (λ (r : Row). r.name) (rows_of t)

abbrev pub nulls_of : Fields → List Bool
nulls_of t = map (λ (r : Row). r.nullable) (rows_of t)

-- two lists place by place, as far as both go
abbrev pub by_place {ℓ κ μ} : {A : Type ℓ} {B : Type κ} {C : Type μ} → (A → B → C) → List A → List B → List C
by_place f [] ys = []
by_place f (x ∷ xs) [] = []
by_place f (x ∷ xs) (y ∷ ys) = f x y ∷ by_place f xs ys

-- The fields made of a left chain with the types of one chain and the nullability of another.
pub record Merged (coerce : DataType → DataType → Option DataType) (l m n t : Fields) : Type 0 where
  -- "The answer has the left's names, in the left's order"
  pub names : names_of t ≡ names_of l
  -- "A field is nullable where either of the two that match is"
  pub nulls : nulls_of t ≡ by_place ◌||◌ (nulls_of l) (nulls_of n)
  -- the column types are those of the columns
  pub types : map Some (types_of t) ≡ by_place coerce (types_of l) (types_of m)
  -- as many of each
  pub many : (arity l ≡ arity m) × (arity l ≡ arity n) × (arity t ≡ arity l)

-- The right's fields in the left's order: each of them once, under the left's names.
pub record Matched (l r : Fields) : Type 0 where
  pub fields : Fields
  pub found : by_name l r ≡ Some fields
  pub named : names_of fields ≡ names_of l
  -- all of the right's fields, in another order
  pub once : Permᴰ (rows_of r) (rows_of fields)

-- Whichever way the fields are paired, each of the right's feeds exactly one of the left's.
pub record Fed (l r : Fields) : Type 0 where
  pub fields : Fields
  pub are : partners l r ≡ Some fields
  pub once : Permᴰ (rows_of r) (rows_of fields)

-- what two Maps give: the Struct of both entries, under the left's name and nullability
pub record Entry (coerce : DataType → DataType → Option DataType) (l r t : DataType) : Type 0 where
  pub shape : t.shape ≡ map_shape (l.shape.sorted && r.shape.sorted)
  pub left : DataType
  pub right : DataType
  pub both : DataType
  pub of_left : entry_type l.parts ≡ Some left
  pub of_right : entry_type r.parts ≡ Some right
  pub joined : struct_coercion coerce left right ≡ Some both
  pub parts : t.parts ≡ entry_of l.parts both
