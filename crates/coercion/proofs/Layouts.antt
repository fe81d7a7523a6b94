-- Two layouts: what union and compare answer for two Structs, column by column, and which of the right's columns
-- feeds which of the left's. Assumes nothing.
use mathlib.Core.Path.{◌≡◌, refl, sym, ◌∙◌}
use mathlib.Core.Bool.{true, false}
use mathlib.Core.List.{List, map, Memᴰ}
use Rattle.std.specs.Prelude.{Option, None, Some}
use Prim.Native.Nat.{ℕ}
use native.Mathlib.Omega.{arith}
use native.Mathlib.Decide.{ℕ_discrete}
use borrow.Author.Tests.{eq-eqb}
use Rattle.sheet.specs.declared.kind.TheConstants as Kind
use Rattle.sheet.specs.Types.{Fields, arity}
use Rattle.sheet.specs.Names.{repeats}
use Rattle.sheet.proofs.Booleans.{never}
use Rattle.coercion.specs.Data.{DataType, types_of, for_list}
use Rattle.coercion.specs.Same.{equal, alike}
use Rattle.coercion.specs.Nested.{join_fields, fields_have_same_names, by_name, partners, shape_of_kind, struct_coercion}
use Rattle.coercion.specs.Wrappers.{is_of}
use Rattle.coercion.specs.Answers.{coercion}
use Rattle.coercion.proofs.Fuel.{coercion_asks}
use Rattle.coercion.specs.Columns.{Pairs, by_place, Merged, Fed}
use Rattle.coercion.proofs.Feeding.{fed, by_name_found, partners_arity}
use Rattle.coercion.proofs.Words.{all_some, merged_some, struct_answer, list_struct_answer, alike_left, structs_asked, list_structs_asked, structs_unequal}
use Rattle.coercion.specs.declared.Rules.{Rules}

module _ (rules : Rules) (q : Pairs rules.question) (l r : DataType) (ours : is_of Kind.STRUCT l ≡ true) (theirs : is_of Kind.STRUCT r ≡ true) where
  -- "Where two layouts are alike, the union answer is the left layout"
  pub layouts_alike : alike l r ≡ true → coercion rules l r ≡ Some l
  layouts_alike h = alike_left rules q l r h

  -- "Layouts that are not alike, with unequal numbers of columns, have no union answer"
  pub layouts_unequal : (arity l.parts ≡ arity r.parts → ⊥) → coercion rules l r ≡ None
  layouts_unequal n = structs_unequal rules l r ours theirs n

  -- "Where they are not alike, each column is asked the same question"
  by_rule : alike l r ≡ false → coercion rules l r ≡ struct_coercion (coercion rules) l r
  by_rule h = coercion_asks rules l r ∙ structs_asked (coercion rules) rules rules.question q l r ours theirs h

  -- "the column types together are those of the union answer"
  pub layouts_joined : alike l r ≡ false → (t : DataType) → coercion rules l r ≡ Some t
      → (fields : Fields) × (partners l.parts r.parts ≡ Some fields) × (t.shape ≡ shape_of_kind Kind.STRUCT)
      × Merged (coercion rules) l.parts fields fields t.parts
  layouts_joined h t e = struct_answer (coercion rules) l r t (sym (by_rule h) ∙ e)

  module _ (fields : Fields) (paired : partners l.parts r.parts ≡ Some fields) where
    -- "One pair of fields without a common type leaves the Structs without one"
    pub layouts_none : alike l r ≡ false → Memᴰ None (by_place (coercion rules) (types_of l.parts) (types_of fields)) → coercion rules l r ≡ None
    layouts_none h m = go (coercion rules l r) refl
      where
        go : (o : Option DataType) → coercion rules l r ≡ o → o ≡ None
        go None e = refl
        go (Some t) e =
            let k = layouts_joined h t e in
            let i : Some fields ≡ Some k.0 = sym paired ∙ k.1 in
            let j : fields ≡ k.0 = cc in
            absurd (all_some (types_of t.parts) (rw (j, sym k.3.types) at m))

    -- and where each column has a type, the whole has one
    pub layouts_some : alike l r ≡ false → arity l.parts ≡ arity r.parts → (ts : List DataType)
        → map Some ts ≡ by_place (coercion rules) (types_of l.parts) (types_of fields) → (t : DataType) × (coercion rules l r ≡ Some t)
    unfolding struct_coercion
    layouts_some h a ts e =
        let b = partners_arity l.parts r.parts fields a paired in
        let k = merged_some (coercion rules) l.parts fields fields ts b b e in
        (record { shape = shape_of_kind Kind.STRUCT; parts = k.0 }, by_rule h ∙ step k.0 k.1)
      where
        step : (f : Fields) → join_fields (coercion rules) l.parts fields fields ≡ Some f
            → struct_coercion (coercion rules) l r ≡ Some (record { shape = shape_of_kind Kind.STRUCT; parts = f })
        step f j = rw (ours, theirs, eq-eqb (arity l.parts) (arity r.parts) a, paired) (rw j)

  -- "Unless there is no common type, every field of the right feeds exactly one field of the left"
  pub layouts_fed : repeats l.parts ≡ false → (t : DataType) → coercion rules l r ≡ Some t → Fed l.parts r.parts
  layouts_fed d t e = go (ℕ_discrete (arity l.parts) (arity r.parts))
    where
      go : Dec (arity l.parts ≡ arity r.parts) → Fed l.parts r.parts
      go (yes a) = fed l.parts r.parts d a
      go (no n) = let i : None ≡ Some t = sym (layouts_unequal n) ∙ e in let z : ◌≡◌ {A = ℕ} 0 1 = cc in absurd (omega arith)

-- In a list: types by name, "In a list the nullability of Structs is joined by place"
module _ (rules : Rules) (l r : DataType) (ours : is_of Kind.STRUCT l ≡ true) (theirs : is_of Kind.STRUCT r ≡ true) where
  pub listed_joined : equal l r ≡ false → (t : DataType) → coercion (for_list rules) l r ≡ Some t
      → (fields : Fields) × (by_name l.parts r.parts ≡ Some fields) × (t.shape ≡ shape_of_kind Kind.STRUCT)
      × Merged (coercion (for_list rules)) l.parts fields r.parts t.parts
  listed_joined h t e =
      list_struct_answer (coercion (for_list rules)) l r t
      (sym (coercion_asks (for_list rules) l r ∙ list_structs_asked (coercion (for_list rules)) rules l r ours theirs h) ∙ e)

  -- so a list has no answer where a name of the left is missing on the right
  pub listed_missing : equal l r ≡ false → fields_have_same_names l.parts r.parts ≡ false → coercion (for_list rules) l r ≡ None
  listed_missing h m = go (coercion (for_list rules) l r) refl
    where
      go : (o : Option DataType) → coercion (for_list rules) l r ≡ o → o ≡ None
      go None e = refl
      go (Some t) e = let k = listed_joined h t e in never (sym m ∙ by_name_found l.parts r.parts k.0 k.1)
