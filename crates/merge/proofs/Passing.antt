-- The common type of wrappers that are passed and another type, by that of their core. Assumes nothing.
use mathlib.Core.Path.{◌≡◌, refl, ap, ap₂, sym, subst, ◌∙◌}
use mathlib.Core.Bool.{Bool, true, false}
use mathlib.Core.List.{List, [], ◌∷◌}
use mathlib.Core.Logic.{◌⊎◌, inl, inr, ⊎_elim}
use Rattle.std.specs.Prelude.{Option, None, Some}
use Prim.Native.Nat.{ℕ}
use native.Mathlib.Omega.{arith}
use borrow.Author.Tests.{eq-eqb, ne_eqb}
use Rattle.sheet.specs.Kind.{names_parts, is_wrapper}
use Rattle.sheet.specs.Booleans.{between}
use Rattle.sheet.specs.Types.{Shape, Fields, field}
use Rattle.sheet.specs.Carried.{is_named, FieldRight, FieldsRight}
use Rattle.sheet.proofs.Booleans.{never}
use Rattle.coercion.specs.Data.{DataType, and_then, is_list_question}
use Rattle.coercion.specs.Answers.{coercion}
use Rattle.coercion.specs.declared.Rules.{Rules}
use Rattle.buffers.specs.Target.{type_of}
use Rattle.rule_order.specs.Order.{rewrap, rewrapped}
use Rattle.wrappers.proofs.Cores.{implies_no, wrapper_is}
use Rattle.merge.specs.Descent.{Wrapper, alone, nest, AllPass, AllDictionaries, innermost}
use Rattle.merge.proofs.Asking.{by_rule}
use Rattle.merge.proofs.Descending.{passes_wrapper}
use Rattle.merge.proofs.Filling.{filled}

unnamed_is : (name : List ℕ) → is_named name ≡ false → name ≡ []
unnamed_is [] e = refl
unnamed_is (b ∷ bs) e = never (sym e)

-- the parts of a Dictionary have neither a name nor a nullability
bare_part : {name : List ℕ} {nullable : Bool} {shape : Shape} {parts : Fields} → FieldRight 37 name nullable shape parts → (name ≡ []) × (nullable ≡ false)
unfolding names_parts between
bare_part {name} {nullable} f = (unnamed_is name (implies_no (is_named name) f.may_be_named), implies_no nullable f.may_be_null)

module _ (rules : Rules) (of_list : is_list_question rules.question ≡ true) where
  abbrev pub both : DataType → DataType → Option DataType
  both = coercion rules

  -- what is made of a value: a Dictionary of Utf8View gives way
  rewrap_gone : (k : ℕ) (x t : DataType) → k ≡ 37 → t.shape.kind ≡ 27 → rewrap k x t ≡ Some t
  rewrap_gone k x t p q = rw (eq-eqb k 37 p) (rw (eq-eqb t.shape.kind 27 q) refl)

  module _ (sh : Shape) (n : List ℕ) (b : Bool) (part : Shape) (p : Fields) where
    -- a wrapper about a field
    abbrev about : Fields → DataType
    about f = type_of sh (field n b part p f)

    rewrap_kept : (name : List ℕ) (nullable : Bool) (v t : DataType) → is_wrapper sh.kind ≡ true → FieldsRight sh.kind (field n b part p (alone name nullable v)) → ¬ ((sh.kind ≡ 37) × (t.shape.kind ≡ 27))
        → rewrap sh.kind (about (alone name nullable v)) t ≡ Some (about (alone name nullable t))
    rewrap_kept name nullable v t w right h = go (wrapper_is sh.kind w)
      where
        go : (sh.kind ≡ 37) ⊎ (sh.kind ≡ 38) → rewrap sh.kind (about (alone name nullable v)) t ≡ Some (about (alone name nullable t))
        go (inl q) =
            let bare = bare_part (subst (λ (i : ℕ). FieldRight i name nullable v.shape v.parts) q right.1.1.0) in
            rw (eq-eqb sh.kind 37 q)
            (rw (ne_eqb t.shape.kind 27 (λ e. h (q, e)))
            (ap₂ (λ (name : List ℕ) (nullable : Bool). Some (about (alone name nullable t))) (sym bare.0) (sym bare.1)))
        go (inr q) = rw (ne_eqb sh.kind 37 (λ e. omega arith)) refl

  -- the common type of the wrapper's value makes that of the wrapper
  through : (k : ℕ) (sh : Shape) (n : List ℕ) (b : Bool) (part : Shape) (p : Fields) (name : List ℕ) (nullable : Bool) (v y : DataType) (o : Option DataType) → both v y ≡ o
      → rewrapped k both (type_of sh (field n b part p (alone name nullable v))) y ≡ and_then o (λ t. rewrap k (type_of sh (field n b part p (alone name nullable v))) t)
  through k sh n b part p name nullable v y o e = ap (λ (o : Option DataType). and_then o (λ t. rewrap k (type_of sh (field n b part p (alone name nullable v))) t)) e

  module _ (name : List ℕ) (nullable : Bool) (c y : DataType) where
    -- the core has none
    pub none_through : (sh : Shape) (n : List ℕ) (b : Bool) (part : Shape) (p : Fields) (zs : List Wrapper) → AllPass y.shape.kind zs → both c y ≡ None
        → rewrapped sh.kind both (type_of sh (filled n b part p zs name nullable c)) y ≡ None
    unfolding nest
    none_through sh n b part p [] a e = through sh.kind sh n b part p name nullable c y None e
    none_through sh n b part p (z ∷ zs) a e =
        let v = type_of z.shape (filled z.part_name z.part_nullable z.part z.part_parts zs name nullable c) in
        through sh.kind sh n b part p z.name z.nullable v y None
        (by_rule rules of_list v y a.0 ∙ none_through z.shape z.part_name z.part_nullable z.part z.part_parts zs a.1 e)

    -- the core has one, and the wrappers stay
    pub kept_through : (sh : Shape) (n : List ℕ) (b : Bool) (part : Shape) (p : Fields) (zs : List Wrapper) (t : DataType) → is_wrapper sh.kind ≡ true
        → FieldsRight sh.kind (filled n b part p zs name nullable c) → AllPass y.shape.kind zs → both c y ≡ Some t → ¬ ((innermost sh.kind zs ≡ 37) × (t.shape.kind ≡ 27))
        → rewrapped sh.kind both (type_of sh (filled n b part p zs name nullable c)) y ≡ Some (type_of sh (filled n b part p zs name nullable t))
    unfolding nest
    kept_through sh n b part p [] t w right a e h = through sh.kind sh n b part p name nullable c y (Some t) e ∙ rewrap_kept sh n b part p name nullable c t w right h
    kept_through sh n b part p (z ∷ zs) t w right a e h =
        let v = type_of z.shape (filled z.part_name z.part_nullable z.part z.part_parts zs name nullable c) in
        let u = type_of z.shape (filled z.part_name z.part_nullable z.part z.part_parts zs name nullable t) in
        let inner = passes_wrapper z.shape.kind y.shape.kind a.0 in
        through sh.kind sh n b part p z.name z.nullable v y (Some u)
        (by_rule rules of_list v y a.0 ∙ kept_through z.shape z.part_name z.part_nullable z.part z.part_parts zs t inner right.1.1.1.0 a.1 e h)
        ∙ rewrap_kept sh n b part p z.name z.nullable v u w right (λ q. ⊎_elim (λ r. omega (arith, q.1, r)) (λ r. omega (arith, q.1, r)) (wrapper_is z.shape.kind inner))

    -- it is Utf8View, and all wrappers are Dictionaries
    pub gone_through : (sh : Shape) (n : List ℕ) (b : Bool) (part : Shape) (p : Fields) (zs : List Wrapper) (t : DataType) → sh.kind ≡ 37 → AllDictionaries zs → AllPass y.shape.kind zs
        → both c y ≡ Some t → t.shape.kind ≡ 27 → rewrapped sh.kind both (type_of sh (filled n b part p zs name nullable c)) y ≡ Some t
    unfolding nest
    gone_through sh n b part p [] t q ds a e h =
        through sh.kind sh n b part p name nullable c y (Some t) e ∙ rewrap_gone sh.kind (type_of sh (field n b part p (alone name nullable c))) t q h
    gone_through sh n b part p (z ∷ zs) t q ds a e h =
        let v = type_of z.shape (filled z.part_name z.part_nullable z.part z.part_parts zs name nullable c) in
        through sh.kind sh n b part p z.name z.nullable v y (Some t)
        (by_rule rules of_list v y a.0 ∙ gone_through z.shape z.part_name z.part_nullable z.part z.part_parts zs t ds.0 ds.1 a.1 e h)
        ∙ rewrap_gone sh.kind (type_of sh (field n b part p (alone z.name z.nullable v))) t q h

    -- a run of Dictionaries as one field
    pub record Sole (zs : List Wrapper) : Type 0 where
      pub name₁ : List ℕ
      pub nullable₁ : Bool
      pub type : DataType
      pub is : nest zs (alone name nullable c) ≡ alone name₁ nullable₁ type
      pub answers : (t : DataType) → both c y ≡ Some t → t.shape.kind ≡ 27 → both type y ≡ Some t

    pub sole : (zs : List Wrapper) → AllDictionaries zs → AllPass y.shape.kind zs → Sole zs
    unfolding nest
    sole [] ds a = record { name₁ = name; nullable₁ = nullable; type = c; is = refl; answers = λ t e h. e }
    sole (z ∷ zs) ds a =
        let v = type_of z.shape (filled z.part_name z.part_nullable z.part z.part_parts zs name nullable c) in
        record {
          name₁ = z.name;
          nullable₁ = z.nullable;
          type = v;
          is = refl;
          answers = λ t e h. by_rule rules of_list v y a.0 ∙ gone_through z.shape z.part_name z.part_nullable z.part z.part_parts zs t ds.0 ds.1 a.1 e h;
        }
