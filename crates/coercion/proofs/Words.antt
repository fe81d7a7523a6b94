-- What docs/RULES.md says of the answers on types, as theorems over the definitions. Assumes nothing.
use mathlib.Core.Path.{◌≡◌, refl, sym, ◌∙◌, ap, ap₂, subst}
use mathlib.Core.Bool.{Bool, true, false, cond, ◌&&◌, ◌||◌}
use mathlib.Core.List.{List, [], ◌∷◌, map, Memᴰ}
use Rattle.std.specs.Prelude.{Option, None, Some}
use Prim.Native.Nat.{ℕ, zero, suc, ◌+◌}
use native.Mathlib.Omega.{arith}
use lib.ListN.{replicate}
use lib.Dec.{eqb}
use borrow.Author.Tests.{ne_eqb, eqb-true}
use Rattle.sheet.specs.Booleans.{between}
use Rattle.sheet.specs.declared.kind.TheConstants as Kind
use Rattle.sheet.specs.Kind.{is_decimal, is_list}
use Rattle.sheet.specs.Types.{Shape, Fields, end, field, arity, count}
use Rattle.coercion.specs.Data.{DataType, size, types_of, or_else, and_then, first_of, for_list, for_question}
use Rattle.coercion.specs.Same.{equal, alike}
use Rattle.coercion.specs.Nested.{join_fields, by_name, partners, shape_of_kind, struct_of, struct_coercion, list_shape, list_of, list_coercion, map_shape, entry_type, entry_of, map_coercion}
use Rattle.coercion.specs.Wrappers.{is_of}
use Rattle.coercion.specs.Numbers as Numbers
use Rattle.coercion.specs.Times as Times
use Rattle.coercion.specs.Strings as Strings
use Rattle.coercion.specs.Rules as Rules
use Rattle.coercion.specs.Wrappers as Wrappers
use Rattle.coercion.specs.Answers.{ask, list_struct, coerce_in, coercion, all_equal, type_union_resolution}
use Rattle.coercion.proofs.Sameness.{equal_same, equal_self, equal_alike, alike_self, alike_arity}
use Rattle.coercion.specs.Columns.{Pairs, of_union, of_compare, rows_of, names_of, nulls_of, by_place, Merged, Entry}
use Rattle.coercion.specs.declared.Question.{Question}
use Rattle.coercion.specs.declared.Rules.{Rules}

-- "Alike types give the left"
alike_asked : (q : Question) → Pairs q → (rules : Rules) (coerce : DataType → DataType → Option DataType) (l r : DataType)
    → alike l r ≡ true → ask q rules coerce l r ≡ Some l
unfolding first_of
alike_asked Question.List x'' rules coerce l r h = elim x'' [ ]
alike_asked Question.Union of_union rules coerce l r h = rw h
alike_asked Question.Compare of_compare rules coerce l r h = rw h

-- a call of the rules, one step down
pub coercion_step : (rules : Rules) (l r : DataType) → coercion rules l r ≡ ask rules.question rules (coerce_in (1 + (count l.parts + count r.parts)) rules) l r
unfolding coercion coerce_in
coercion_step rules l r =
    let e : size l + size r ≡ suc (1 + (count l.parts + count r.parts)) = omega arith in
    ap (λ (f : ℕ). coerce_in f rules l r) e

pub alike_left : (rules : Rules) → Pairs rules.question → (l r : DataType) → alike l r ≡ true → coercion rules l r ≡ Some l
alike_left rules q l r h = coercion_step rules l r ∙ alike_asked rules.question q rules _ l r h

-- equal types give themselves in all three
equal_asked : (q : Question) (rules : Rules) (coerce : DataType → DataType → Option DataType) (t : DataType) → ask q rules coerce t t ≡ Some t
equal_asked Question.List rules coerce t = rw (equal_self t)
equal_asked Question.Union rules coerce t = alike_asked Question.Union of_union rules coerce t t (alike_self t)
equal_asked Question.Compare rules coerce t = alike_asked Question.Compare of_compare rules coerce t t (alike_self t)

pub equal_left : (rules : Rules) (l r : DataType) → equal l r ≡ true → coercion rules l r ≡ Some l
equal_left rules l r h =
    let e = equal_same l r h in
    ap (coercion rules l) (sym e) ∙ coercion_step rules l l ∙ equal_asked rules.question rules _ l

-- "Types that are all equal, in names and nullability too, give that type, so Nulls alone give Null"
pub list_of_same : (rules : Rules) (t : DataType) (n : ℕ) → type_union_resolution rules (t ∷ replicate n t) ≡ Some t
unfolding type_union_resolution
list_of_same rules t n = rw (all n)
  where
    all : (n : ℕ) → all_equal t (replicate n t) ≡ true
    all zero = refl
    all (suc n) = rw (equal_self t) (all n)

clash : {A : Type 0} {t : Fields} → None ≡ Some t → A
clash e = let z : ◌≡◌ {A = ℕ} 0 1 = cc in absurd (omega arith)

-- none is not one of types
pub all_some : (ts : List DataType) → Memᴰ None (map Some ts) → ⊥
all_some [] x' = elim x' [ ]
all_some (t ∷ ts) (Memᴰ.head e) = let z : ◌≡◌ {A = ℕ} 0 1 = cc in omega arith
all_some (t ∷ ts) (Memᴰ.tail m) = all_some ts m

-- an answer under a test
held : (b : Bool) (o : Option DataType) (t : DataType) → cond b o None ≡ Some t → o ≡ Some t
held true o t h = h
held false o t h = let z : ◌≡◌ {A = ℕ} 0 1 = cc in absurd (omega arith)

and_false : (b : Bool) → b && false ≡ false
and_false true = refl
and_false false = refl

module _ (coerce : DataType → DataType → Option DataType) where
  pub merged : (l m n t : Fields) → join_fields coerce l m n ≡ Some t → Merged coerce l m n t
  unfolding join_fields rows_of types_of arity
  merged end end end t h =
      let e : end ≡ t = cc in
      subst (λ (t : Fields). Merged coerce end end end t) e (record { names = refl; nulls = refl; types = refl; many = (refl, refl, refl) })
  merged end end (field n b s p q) t h = clash h
  merged end (field n b s p q) end t h = clash h
  merged end (field n b s p q) (field n' b' s' p' q') t h = clash h
  merged (field n b s p q) end end t h = clash h
  merged (field n b s p q) end (field n' b' s' p' q') t h = clash h
  merged (field n b s p q) (field n' b' s' p' q') end t h = clash h
  merged (field n b s p q) (field n' b' s' p' q') (field n'' b'' s'' p'' q'') t h =
      go (coerce (record { shape = s; parts = p }) (record { shape = s'; parts = p' })) refl (join_fields coerce q q' q'') refl (merged q q' q'')
    where
      go : (o : Option DataType) → coerce (record { shape = s; parts = p }) (record { shape = s'; parts = p' }) ≡ o
          → (f : Option Fields) → join_fields coerce q q' q'' ≡ f
          → ((t : Fields) → join_fields coerce q q' q'' ≡ Some t → Merged coerce q q' q'' t)
          → Merged coerce (field n b s p q) (field n' b' s' p' q') (field n'' b'' s'' p'' q'') t
      go None e f i rec = clash (rw e at h)
      go (Some u) e None i rec = clash (rw (e, i) at h)
      go (Some u) e (Some v) i rec =
          let x : Some (field n (b || b'') u.shape u.parts v) ≡ Some t = rw (e, i) at h in
          let y : field n (b || b'') u.shape u.parts v ≡ t = cc in
          let k = rec v i in
          subst (λ (t : Fields). Merged coerce (field n b s p q) (field n' b' s' p' q') (field n'' b'' s'' p'' q'') t) y
          (record {
            names = ap (λ (x : List (List ℕ)). n ∷ x) k.names;
            nulls = ap (λ (x : List Bool). (b || b'') ∷ x) k.nulls;
            types = ap₂ (λ (x : Option DataType) (y : List (Option DataType)). x ∷ y) (sym e) k.types;
            many = (ap (λ (x : ℕ). 1 + x) k.many.0, ap (λ (x : ℕ). 1 + x) k.many.1, ap (λ (x : ℕ). 1 + x) k.many.2);
          })

  -- and where each column has a type, so has the whole
  pub merged_some : (l m n : Fields) (ts : List DataType) → arity l ≡ arity m → arity l ≡ arity n → map Some ts ≡ by_place coerce (types_of l) (types_of m)
      → (t : Fields) × (join_fields coerce l m n ≡ Some t)
  unfolding join_fields types_of arity
  merged_some end end end ts a c e = (end, refl)
  merged_some end end (field n b s p q) ts a c e = absurd (omega arith)
  merged_some end (field n b s p q) end ts a c e = absurd (omega arith)
  merged_some end (field n b s p q) (field n' b' s' p' q') ts a c e = absurd (omega arith)
  merged_some (field n b s p q) end end ts a c e = absurd (omega arith)
  merged_some (field n b s p q) end (field n' b' s' p' q') ts a c e = absurd (omega arith)
  merged_some (field n b s p q) (field n' b' s' p' q') end ts a c e = absurd (omega arith)
  merged_some (field n b s p q) (field n' b' s' p' q') (field n'' b'' s'' p'' q'') [] a c e = let z : ◌≡◌ {A = ℕ} 0 1 = cc in absurd (omega arith)
  merged_some (field n b s p q) (field n' b' s' p' q') (field n'' b'' s'' p'' q'') (u ∷ us) a c e =
      let x : coerce (record { shape = s; parts = p }) (record { shape = s'; parts = p' }) ≡ Some u = cc in
      let y : map Some us ≡ by_place coerce (types_of q) (types_of q') = cc in
      let k = merged_some q q' q'' us (omega arith) (omega arith) y in
      (field n (b || b'') u.shape u.parts k.0, step u k.0 x k.1)
    where
      step : (u : DataType) (f : Fields) → coerce (record { shape = s; parts = p }) (record { shape = s'; parts = p' }) ≡ Some u
          → join_fields coerce q q' q'' ≡ Some f
          → join_fields coerce (field n b s p q) (field n' b' s' p' q') (field n'' b'' s'' p'' q'') ≡ Some (field n (b || b'') u.shape u.parts f)
      step u f x y = rw (x, y)

  -- The answer for two Structs whose right fields were ordered before they were joined with the left's: the fields
  -- that give types, those that give nullability, and what was made of them.
  made_of : (l : Fields) (o : Option Fields) (nulls : Fields → Fields) (t : DataType) → struct_of (and_then o (λ fields. join_fields coerce l fields (nulls fields))) ≡ Some t
      → (fields : Fields) × (o ≡ Some fields) × (t.shape ≡ shape_of_kind Kind.STRUCT) × Merged coerce l fields (nulls fields) t.parts
  made_of l None nulls t h = let z : ◌≡◌ {A = ℕ} 0 1 = cc in absurd (omega arith)
  made_of l (Some fields) nulls t h = go (join_fields coerce l fields (nulls fields)) refl
    where
      go : (j : Option Fields) → join_fields coerce l fields (nulls fields) ≡ j
          → (fields' : Fields) × (Some fields ≡ Some fields') × (t.shape ≡ shape_of_kind Kind.STRUCT) × Merged coerce l fields' (nulls fields') t.parts
      go None e = let i : None ≡ Some t = rw e at h in let z : ◌≡◌ {A = ℕ} 0 1 = cc in absurd (omega arith)
      go (Some f) e =
          let i : Some (record { shape = shape_of_kind Kind.STRUCT; parts = f }) ≡ Some t = rw e at h in
          let j : record { shape = shape_of_kind Kind.STRUCT; parts = f } ≡ t = cc in
          (fields, refl, ap (λ (t : DataType). t.shape) (sym j), merged l fields (nulls fields) t.parts (e ∙ ap (λ (t : DataType). Some t.parts) j))

  -- union and compare: types and nullability go by the pairing
  pub struct_answer : (l r t : DataType) → struct_coercion coerce l r ≡ Some t
      → (fields : Fields) × (partners l.parts r.parts ≡ Some fields) × (t.shape ≡ shape_of_kind Kind.STRUCT) × Merged coerce l.parts fields fields t.parts
  unfolding struct_coercion
  struct_answer l r t h =
      made_of l.parts (partners l.parts r.parts) (λ fields. fields) t
      (held (is_of Kind.STRUCT l && (is_of Kind.STRUCT r && eqb (arity l.parts) (arity r.parts))) _ t h)

  -- a list: types by name, "In a list the nullability of Structs is joined by place"
  pub list_struct_answer : (l r t : DataType) → list_struct coerce l r ≡ Some t
      → (fields : Fields) × (by_name l.parts r.parts ≡ Some fields) × (t.shape ≡ shape_of_kind Kind.STRUCT) × Merged coerce l.parts fields r.parts t.parts
  list_struct_answer l r t h =
      made_of l.parts (by_name l.parts r.parts) (λ fields. r.parts) t (held (eqb (arity l.parts) (arity r.parts)) _ t h)

  -- "Structs with unequal numbers of fields have no common type"
  pub struct_unequal : (l r : DataType) → (arity l.parts ≡ arity r.parts → ⊥) → struct_coercion coerce l r ≡ None
  unfolding struct_coercion
  struct_unequal l r n = rw (ne_eqb (arity l.parts) (arity r.parts) n) (rw (and_false (is_of Kind.STRUCT r)) (rw (and_false (is_of Kind.STRUCT l))))

  pub list_struct_unequal : (l r : DataType) → (arity l.parts ≡ arity r.parts → ⊥) → list_struct coerce l r ≡ None
  list_struct_unequal l r n = rw (ne_eqb (arity l.parts) (arity r.parts) n)

  -- "The item has the left's name, the common type of both items, and is nullable where either is"
  pub list_answer : (l r t : DataType) → list_coercion coerce l r ≡ Some t
      → (t.shape ≡ list_shape l.shape r.shape) × Merged coerce l.parts r.parts r.parts t.parts
  unfolding list_coercion
  list_answer l r t h = go (join_fields coerce l.parts r.parts r.parts) refl (held (is_list l.shape.kind && is_list r.shape.kind) _ t h)
    where
      go : (j : Option Fields) → join_fields coerce l.parts r.parts r.parts ≡ j
          → list_of (list_shape l.shape r.shape) (join_fields coerce l.parts r.parts r.parts) ≡ Some t
          → (t.shape ≡ list_shape l.shape r.shape) × Merged coerce l.parts r.parts r.parts t.parts
      go None e g = let i : None ≡ Some t = rw e at g in let z : ◌≡◌ {A = ℕ} 0 1 = cc in absurd (omega arith)
      go (Some f) e g =
          let i : Some (record { shape = list_shape l.shape r.shape; parts = f }) ≡ Some t = rw e at g in
          let j : record { shape = list_shape l.shape r.shape; parts = f } ≡ t = cc in
          (ap (λ (t : DataType). t.shape) (sym j), merged l.parts r.parts r.parts t.parts (e ∙ ap (λ (t : DataType). Some t.parts) j))

  -- "The entry of a Map keeps the left's name and nullability"; "A Map is sorted where both are"
  pub map_answer : (l r t : DataType) → map_coercion coerce l r ≡ Some t → Entry coerce l r t
  unfolding map_coercion
  map_answer l r t h =
      entries (entry_type l.parts) refl (entry_type r.parts) refl (held (is_of Kind.MAP l && is_of Kind.MAP r) _ t h)
    where
      shut : None ≡ Some t → Entry coerce l r t
      shut e = let z : ◌≡◌ {A = ℕ} 0 1 = cc in absurd (omega arith)

      entries : (a : Option DataType) → entry_type l.parts ≡ a → (b : Option DataType) → entry_type r.parts ≡ b
          → and_then a (λ a. and_then b (λ b. and_then (struct_coercion coerce a b)
          (λ t. Some (record { shape = map_shape (l.shape.sorted && r.shape.sorted); parts = entry_of l.parts t })))) ≡ Some t
          → Entry coerce l r t
      entries None x b y g = shut g
      entries (Some a) x None y g = shut g
      entries (Some a) x (Some b) y g = go (struct_coercion coerce a b) refl
        where
          go : (o : Option DataType) → struct_coercion coerce a b ≡ o → Entry coerce l r t
          go None e = shut (rw e at g)
          go (Some u) e =
              let i : Some (record { shape = map_shape (l.shape.sorted && r.shape.sorted); parts = entry_of l.parts u }) ≡ Some t = rw e at g in
              let j : record { shape = map_shape (l.shape.sorted && r.shape.sorted); parts = entry_of l.parts u } ≡ t = cc in
              record {
                shape = ap (λ (t : DataType). t.shape) (sym j);
                left = a;
                right = b;
                both = u;
                of_left = x;
                of_right = y;
                joined = e;
                parts = ap (λ (t : DataType). t.parts) (sym j);
              }

-- the entry of a map that has one
pub entry_kept : (p : Fields) (u : DataType) → arity p ≡ 1 → (names_of (entry_of p u) ≡ names_of p) × (nulls_of (entry_of p u) ≡ nulls_of p)
unfolding arity rows_of
entry_kept end u a = absurd (omega arith)
entry_kept (field n b s p end) u a = (refl, refl)
entry_kept (field n b s p (field n' b' s' p' q)) u a = absurd (omega arith)

pub map_kept : (coerce : DataType → DataType → Option DataType) (l r t : DataType) → map_coercion coerce l r ≡ Some t → arity l.parts ≡ 1
    → (t.shape.sorted ≡ (l.shape.sorted && r.shape.sorted)) × (names_of t.parts ≡ names_of l.parts) × (nulls_of t.parts ≡ nulls_of l.parts)
map_kept coerce l r t h a =
    let e = map_answer coerce l r t h in
    let k = entry_kept l.parts e.both a in
    (ap (λ (s : Shape). s.sorted) e.shape, ap names_of e.parts ∙ k.0, ap nulls_of e.parts ∙ k.1)

pub or_none : (o : Option DataType) → or_else o None ≡ o
or_none None = refl
or_none (Some t) = refl

fails : (b : Bool) → (b ≡ true → ⊥) → b ≡ false
fails true n = absurd (n refl)
fails false n = refl

-- a Struct by its other figures
abbrev struct_with : Shape → Fields → DataType
struct_with s p =
    record {
      shape = record { kind = Kind.STRUCT; figure = s.figure; scale = s.scale; size = s.size; sorted = s.sorted; zone = s.zone };
      parts = p;
    }

-- what holds of Structs by their other figures holds of two types of that kind
of_structs : (P : DataType → DataType → Type 0) → ((s s' : Shape) (p p' : Fields) → P (struct_with s p) (struct_with s' p'))
    → (l r : DataType) → is_of Kind.STRUCT l ≡ true → is_of Kind.STRUCT r ≡ true → P l r
of_structs P f l r x y = subst (λ (t : DataType). P t r) (is l x) (subst (P (struct_with l.shape l.parts)) (is r y) (f l.shape r.shape l.parts r.parts))
  where
    is : (t : DataType) → is_of Kind.STRUCT t ≡ true → struct_with t.shape t.parts ≡ t
    is t h =
        ap
        (λ (k : ℕ). record {
          shape = record { kind = k; figure = t.shape.figure; scale = t.shape.scale; size = t.shape.size; sorted = t.shape.sorted; zone = t.shape.zone };
          parts = t.parts;
        })
        (sym (eqb-true t.shape.kind Kind.STRUCT h))

module _ (coerce : DataType → DataType → Option DataType) (rules : Rules) where
  pair_structs : (q : Question) → Pairs q → (s s' : Shape) (p p' : Fields) → alike (struct_with s p) (struct_with s' p') ≡ false
      → ask q (for_question q rules) coerce (struct_with s p) (struct_with s' p') ≡ struct_coercion coerce (struct_with s p) (struct_with s' p')
  unfolding first_of between is_decimal Numbers.binary_numeric_coercion Times.temporal_coercion Times.temporal_coercion_nonstrict_timezone
      Strings.string_coercion Strings.binary_coercion Rules.null_coercion Rules.string_numeric_coercion Rules.string_numeric_union_coercion
      Rules.string_temporal_coercion Wrappers.wrapper_coercion list_coercion map_coercion
  pair_structs Question.List x'' s s' p p' h = elim x'' [ ]
  pair_structs Question.Union of_union s s' p p' h = rw h (or_none _)
  pair_structs Question.Compare of_compare s s' p p' h = rw h (or_none _)

  -- Structs that are not alike have the answer of the Struct rule
  pub structs_asked : (q : Question) → Pairs q → (l r : DataType) → is_of Kind.STRUCT l ≡ true → is_of Kind.STRUCT r ≡ true → alike l r ≡ false
      → ask q (for_question q rules) coerce l r ≡ struct_coercion coerce l r
  structs_asked q u l r x y h =
      of_structs (λ l r. alike l r ≡ false → ask q (for_question q rules) coerce l r ≡ struct_coercion coerce l r) (pair_structs q u) l r x y h

  -- and so in a list, where they are not equal
  pub list_structs_asked : (l r : DataType) → is_of Kind.STRUCT l ≡ true → is_of Kind.STRUCT r ≡ true → equal l r ≡ false
      → ask Question.List (for_list rules) coerce l r ≡ list_struct coerce l r
  list_structs_asked l r x y h =
      of_structs (λ l r. equal l r ≡ false → ask Question.List (for_list rules) coerce l r ≡ list_struct coerce l r) (λ s s' p p' h. rw h) l r x y h

  -- "Structs with unequal numbers of fields have no common type", whichever the question
  unequal_asked : (q : Question) (l r : DataType) → is_of Kind.STRUCT l ≡ true → is_of Kind.STRUCT r ≡ true → (arity l.parts ≡ arity r.parts → ⊥)
      → ask q (for_question q rules) coerce l r ≡ None
  unequal_asked Question.List l r x y n =
      list_structs_asked l r x y (fails (equal l r) (λ h. n (alike_arity l r (equal_alike l r h)))) ∙ list_struct_unequal coerce l r n
  unequal_asked Question.Union l r x y n = structs_asked Question.Union of_union l r x y (fails (alike l r) (λ h. n (alike_arity l r h))) ∙ struct_unequal coerce l r n
  unequal_asked Question.Compare l r x y n = structs_asked Question.Compare of_compare l r x y (fails (alike l r) (λ h. n (alike_arity l r h))) ∙ struct_unequal coerce l r n

pub structs_unequal : (rules : Rules) (l r : DataType) → is_of Kind.STRUCT l ≡ true → is_of Kind.STRUCT r ≡ true → (arity l.parts ≡ arity r.parts → ⊥)
    → coercion rules l r ≡ None
structs_unequal rules l r x y n = coercion_step rules l r ∙ unequal_asked _ rules rules.question l r x y n
