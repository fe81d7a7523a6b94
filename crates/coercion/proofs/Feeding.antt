-- Which field of the right feeds which of the left: under equal name sets each of the right's fields is found once,
-- under the left's names. Assumes nothing.
use mathlib.Core.Path.{◌≡◌, refl, sym, ◌∙◌, ap, ap₂}
use mathlib.Core.Bool.{Bool, true, false, cond, ◌&&◌, ◌||◌}
use mathlib.Core.List.Permᴰ
use mathlib.Core.List.{List, [], ◌∷◌, map, Permᴰ}
use Rattle.std.specs.Prelude.{Option, None, Some}
use Prim.Native.Nat.{ℕ, ◌+◌}
use native.Mathlib.Omega.{arith}
use lib.ListN.{length}
use Rattle.sheet.specs.Types.{Fields, end, field, arity}
use Rattle.sheet.specs.Names.{same_bytes, has_name, repeats}
use Rattle.sheet.proofs.Booleans.{and_fst, and_snd, or_fst, or_snd, never}
use Rattle.sheet.proofs.Bytewise.{same_self, same_equal}
use Rattle.coercion.specs.Data.{and_then}
use Rattle.coercion.specs.Nested.{fields_have_same_names, with_name, by_name, partners}
use Rattle.coercion.specs.Columns.{Row, rows_of, names_of, Matched, Fed}

abbrev put : Row → Fields → Fields
put row rest = field row.name row.nullable row.type.shape row.type.parts rest

-- a chain without its first field of a name
unfoldable without : List ℕ → Fields → Fields
without name end = end
without name (field n b s p q) = cond (same_bytes name n) q (field n b s p (without name q))

same_back : (n m : List ℕ) → same_bytes n m ≡ false → same_bytes m n ≡ false
same_back n m h = go (same_bytes m n) refl
  where
    go : (t : Bool) → same_bytes m n ≡ t → t ≡ false
    go true e = never (sym h ∙ ap (same_bytes n) (same_equal m n e) ∙ same_self n)
    go false e = refl

-- a field that was found by its name
record Picked (name : List ℕ) (r : Fields) : Type 0 where
  row : Row
  named : row.name ≡ name
  found : (more : Fields) → with_name name r more ≡ Some (put row more)
  others : Permᴰ (rows_of r) (row ∷ rows_of (without name r))
  fewer : arity r ≡ 1 + arity (without name r)

pick : (name : List ℕ) (r : Fields) → has_name name r ≡ true → Picked name r
unfolding has_name rows_of without with_name arity
pick name end h = never h
pick name (field n b s p q) h = go (same_bytes name n) refl (pick name q)
  where
    here : Row
    here = record { name = n; nullable = b; type = record { shape = s; parts = p } }

    go : (t : Bool) → same_bytes name n ≡ t → (has_name name q ≡ true → Picked name q) → Picked name (field n b s p q)
    go true e f =
        record {
          row = here;
          named = sym (same_equal name n e);
          found = λ more. rw e;
          others = rw e (Permᴰ.refl (here ∷ rows_of q));
          fewer = rw e;
        }
    go false e f =
        let k = f (rw e at h) in
        record {
          row = k.row;
          named = k.named;
          found = λ more. rw e (k.found more);
          others = rw e (Permᴰ.trans (Permᴰ.cons refl k.others) (Permᴰ.swap refl refl));
          fewer = rw e (let m = k.fewer in omega arith);
        }

-- other names are found as before
module _ (n name : List ℕ) (other : same_bytes name n ≡ false) where
  with_other : (r more : Fields) → with_name name (without n r) more ≡ with_name name r more
  unfolding with_name without
  with_other end more = refl
  with_other (field m b s p q) more = go (same_bytes n m) refl (with_other q more)
    where
      go : (t : Bool) → same_bytes n m ≡ t → with_name name (without n q) more ≡ with_name name q more
          → with_name name (without n (field m b s p q)) more ≡ with_name name (field m b s p q) more
      go true e f = rw e (rw (ap (same_bytes name) (sym (same_equal n m e)) ∙ other))
      go false e f = rw e (rw f)

  has_other : (r : Fields) → has_name name (without n r) ≡ has_name name r
  unfolding has_name without
  has_other end = refl
  has_other (field m b s p q) = go (same_bytes n m) refl (has_other q)
    where
      go : (t : Bool) → same_bytes n m ≡ t → has_name name (without n q) ≡ has_name name q
          → has_name name (without n (field m b s p q)) ≡ has_name name (field m b s p q)
      go true e f = rw e (rw (ap (same_bytes name) (sym (same_equal n m e)) ∙ other))
      go false e f = rw e (rw f)

-- the names of a chain that a name is not among
module _ (n : List ℕ) where
  by_others : (l r : Fields) → has_name n l ≡ false → by_name l (without n r) ≡ by_name l r
  unfolding has_name by_name
  by_others end r h = refl
  by_others (field m b s p q) r h =
      rw (by_others q r (or_snd (same_bytes n m) _ h)) (go (by_name q r))
    where
      go : (o : Option Fields) → and_then o (λ more. with_name m (without n r) more) ≡ and_then o (λ more. with_name m r more)
      go None = refl
      go (Some more) = with_other n m (same_back n m (or_fst _ _ h)) r more

  same_others : (l r : Fields) → has_name n l ≡ false → fields_have_same_names l (without n r) ≡ fields_have_same_names l r
  unfolding has_name fields_have_same_names
  same_others end r h = refl
  same_others (field m b s p q) r h =
      ap₂ ◌&&◌ (has_other n m (same_back n m (or_fst _ _ h)) r) (same_others q r (or_snd (same_bytes n m) _ h))

-- names that differ on the left, each one of the right's, and as many fields on the right
pub matched : (l r : Fields) → repeats l ≡ false → fields_have_same_names l r ≡ true → arity l ≡ arity r → Matched l r
unfolding repeats fields_have_same_names arity by_name rows_of
matched end end d h a = record { fields = end; found = refl; named = refl; once = Permᴰ.nil }
matched end (field n b s p q) d h a = absurd (omega arith)
matched (field n b s p q) r d h a =
    let k = pick n r (and_fst _ _ h) in
    let o = or_fst _ _ d in
    let m =
    matched q (without n r) (or_snd (has_name n q) _ d) (same_others n q r o ∙ and_snd (has_name n r) _ h)
    (let f = k.fewer in omega arith) in
    record {
      fields = put k.row m.fields;
      found = rw (sym (by_others n q r o) ∙ m.found) (k.found m.fields);
      named = ap₂ ◌∷◌ k.named m.named;
      once = Permᴰ.trans k.others (Permᴰ.cons refl m.once);
    }

-- "Where the two sets of names are equal, fields match by name, in the order of the left"
pub partners_by_name : (l r : Fields) → fields_have_same_names l r ≡ true → partners l r ≡ by_name l r
unfolding partners
partners_by_name l r h = rw h

-- "Where the sets of names differ, fields match by place"
pub partners_by_place : (l r : Fields) → fields_have_same_names l r ≡ false → partners l r ≡ Some r
unfolding partners
partners_by_place l r h = rw h

pub fed : (l r : Fields) → repeats l ≡ false → arity l ≡ arity r → Fed l r
fed l r d a = go (fields_have_same_names l r) refl
  where
    go : (t : Bool) → fields_have_same_names l r ≡ t → Fed l r
    go true e = let m = matched l r d e a in record { fields = m.fields; are = partners_by_name l r e ∙ m.found; once = m.once }
    go false e = record { fields = r; are = partners_by_place l r e; once = Permᴰ.refl (rows_of r) }

-- what is found by names has them, in their order
with_name_lem : (name : List ℕ) (r more t : Fields) → with_name name r more ≡ Some t → names_of t ≡ name ∷ names_of more
unfolding with_name rows_of
with_name_lem name end more t h = let z : ◌≡◌ {A = ℕ} 0 1 = cc in absurd (omega arith)
with_name_lem name (field n b s p q) more t h = go (same_bytes name n) refl (with_name_lem name q more t)
  where
    go : (u : Bool) → same_bytes name n ≡ u → (with_name name q more ≡ Some t → names_of t ≡ name ∷ names_of more) → names_of t ≡ name ∷ names_of more
    go true e f =
        let i : Some (field n b s p more) ≡ Some t = rw e at h in
        let j : field n b s p more ≡ t = cc in
        ap names_of (sym j) ∙ ap (λ (x : List ℕ). x ∷ names_of more) (sym (same_equal name n e))
    go false e f = f (rw e at h)

pub by_name_names : (l r t : Fields) → by_name l r ≡ Some t → names_of t ≡ names_of l
unfolding by_name rows_of
by_name_names end r t h = let e : end ≡ t = cc in ap names_of (sym e)
by_name_names (field n b s p q) r t h = go (by_name q r) refl (by_name_names q r)
  where
    go : (o : Option Fields) → by_name q r ≡ o → ((m : Fields) → by_name q r ≡ Some m → names_of m ≡ names_of q) → names_of t ≡ n ∷ names_of q
    go None e f = let i : None ≡ Some t = rw e at h in let z : ◌≡◌ {A = ℕ} 0 1 = cc in absurd (omega arith)
    go (Some m) e f = with_name_lem n r m t (rw e at h) ∙ ap (λ (x : List (List ℕ)). n ∷ x) (f m e)

-- what is paired has as many fields
names_arity : (t : Fields) → length (names_of t) ≡ arity t
unfolding rows_of arity
names_arity end = refl
names_arity (field n b s p q) = let e = names_arity q in omega arith

pub partners_arity : (l r t : Fields) → arity l ≡ arity r → partners l r ≡ Some t → arity l ≡ arity t
partners_arity l r t a h = go (fields_have_same_names l r) refl
  where
    go : (u : Bool) → fields_have_same_names l r ≡ u → arity l ≡ arity t
    go true e = sym (names_arity l) ∙ ap length (sym (by_name_names l r t (sym (partners_by_name l r e) ∙ h))) ∙ names_arity t
    go false e =
        let i : Some r ≡ Some t = sym (partners_by_place l r e) ∙ h in
        let j : r ≡ t = cc in
        a ∙ ap arity j

-- only what is there is found
with_has : (name : List ℕ) (r more t : Fields) → with_name name r more ≡ Some t → has_name name r ≡ true
unfolding with_name has_name
with_has name end more t h = let z : ◌≡◌ {A = ℕ} 0 1 = cc in absurd (omega arith)
with_has name (field n b s p q) more t h = go (same_bytes name n) refl (with_has name q more t)
  where
    go : (u : Bool) → same_bytes name n ≡ u → (with_name name q more ≡ Some t → has_name name q ≡ true) → (u || has_name name q) ≡ true
    go true e f = refl
    go false e f = f (rw e at h)

pub by_name_found : (l r t : Fields) → by_name l r ≡ Some t → fields_have_same_names l r ≡ true
unfolding by_name fields_have_same_names
by_name_found end r t h = refl
by_name_found (field n b s p q) r t h = go (by_name q r) refl (by_name_found q r)
  where
    go : (o : Option Fields) → by_name q r ≡ o → ((m : Fields) → by_name q r ≡ Some m → fields_have_same_names q r ≡ true)
        → (has_name n r && fields_have_same_names q r) ≡ true
    go None e f = let i : None ≡ Some t = rw e at h in let z : ◌≡◌ {A = ℕ} 0 1 = cc in absurd (omega arith)
    go (Some m) e f = rw (with_has n r m t (rw e at h), f m e)

-- whether a name is one of several
unfoldable among : List ℕ → List (List ℕ) → Bool
among n [] = false
among n (m ∷ ms) = same_bytes n m || among n ms

has_among : (n : List ℕ) (t : Fields) → has_name n t ≡ among n (names_of t)
unfolding has_name among rows_of
has_among n end = refl
has_among n (field m b s p q) = ap (λ (x : Bool). same_bytes n m || x) (has_among n q)

or_swap : (a b c : Bool) → (a || (b || c)) ≡ (b || (a || c))
or_swap true true c = refl
or_swap true false c = refl
or_swap false true c = refl
or_swap false false c = refl

among_perm : (n : List ℕ) {xs ys : List Row} → Permᴰ xs ys → among n (map (λ (r : Row). r.name) xs) ≡ among n (map (λ (r : Row). r.name) ys)
unfolding among
among_perm n Permᴰ.nil = refl
among_perm n (Permᴰ.cons e d) = ap₂ (λ (r : Row) (x : Bool). same_bytes n r.name || x) e (among_perm n d)
among_perm n (Permᴰ.swap {a} {b} {a'} {b'} {l} e f) =
    or_swap (same_bytes n a.name) (same_bytes n b.name) (among n (map (λ (r : Row). r.name) l))
    ∙ ap₂ (λ (r q : Row). same_bytes n r.name || (same_bytes n q.name || among n (map (λ (r : Row). r.name) l))) f e
among_perm n (Permᴰ.trans d e) = among_perm n d ∙ among_perm n e

-- where each of the left's names is one of the right's, the two have the same names
pub same_sets : (l r : Fields) → repeats l ≡ false → fields_have_same_names l r ≡ true → arity l ≡ arity r → (n : List ℕ) → has_name n l ≡ has_name n r
same_sets l r d h a n =
    let m = matched l r d h a in
    has_among n l ∙ ap (among n) (sym m.named) ∙ sym (among_perm n m.once) ∙ sym (has_among n r)
