-- Weights of chains, and names that differ: what the fields that a rule takes by name weigh. Assumes nothing.
use mathlib.Core.Path.{◌≡◌, refl, sym, ◌∙◌}
use mathlib.Core.Bool.{Bool, true, false, cond, not, ◌&&◌, ◌||◌}
use mathlib.Core.List.{List, [], ◌++◌}
use Rattle.std.specs.Prelude.{Some}
use Prim.Native.Nat.{ℕ, ◌+◌, ◌≤◌}
use native.Mathlib.Omega.{arith}
use lib.ListN.{length, length-append}
use lib.Dec.{eqb}
use borrow.Author.Tests.{not-true}
use Rattle.sheet.specs.declared.kind.TheConstants as Kind
use Rattle.sheet.specs.Types.{Zone, absent, Shape, Fields, end, field, count, zone_bytes, own_labels, labels}
use Rattle.sheet.specs.Names.{same_bytes, has_name, repeats, names_differ}
use Rattle.sheet.proofs.Booleans.{all_at, all_cons, all_nil, never, or_fst, or_snd}
use Rattle.sheet.proofs.Bytewise.{same_self, same_equal}
use Rattle.coercion.specs.Data.{DataType}
use Rattle.coercion.specs.Nested.{with_name, by_name}
use Rattle.coercion.proofs.Maybe.{If, if_then, if_cond, if_weak}

-- what a chain weighs, where a name weighs what a says and a zone, or none, what b says: its records, or the bytes of
-- its labels
abbrev pub weigh : (List ℕ → ℕ) → (Zone → ℕ) → Fields → ℕ
weigh a b end = 0
weigh a b (field name nullable shape parts rest) = (a name + b shape.zone) + (weigh a b parts + weigh a b rest)

abbrev pub weight : (List ℕ → ℕ) → (Zone → ℕ) → DataType → ℕ
weight a b t = b t.shape.zone + weigh a b t.parts

-- an empty name weighs nothing, and no zone is lighter than none
pub record Scales (a : List ℕ → ℕ) (b : Zone → ℕ) : Type 0 where
  pub unnamed : a [] ≡ 0
  pub least : (z : Zone) → b absent ≤ b z

-- every record weighs 1
abbrev pub one : Zone → ℕ
one z = 1

abbrev pub nothing : List ℕ → ℕ
nothing name = 0

pub records_scales : Scales nothing one
records_scales = record { unnamed = refl; least = λ z. omega arith }

pub records_weigh : (f : Fields) → weigh nothing one f ≡ count f
unfolding count
records_weigh end = refl
records_weigh (field name nullable shape parts rest) = omega (arith, records_weigh parts, records_weigh rest)

-- labels weigh their bytes
abbrev pub zone_length : Zone → ℕ
zone_length z = length (zone_bytes z)

abbrev pub name_length : List ℕ → ℕ
name_length name = length name

pub labels_scales : Scales name_length zone_length
labels_scales = record { unnamed = refl; least = λ z. omega arith }

pub labels_weigh : (f : Fields) → weigh name_length zone_length f ≡ length (labels f)
unfolding labels
labels_weigh end = refl
labels_weigh (field name nullable shape parts rest) =
    omega (
      arith,
      labels_weigh parts,
      labels_weigh rest,
      length-append (own_labels name shape) (labels parts ++ labels rest),
      length-append (labels parts) (labels rest),
      length-append name (zone_bytes shape.zone),
    )

-- names in each Struct differ, of a type and of a chain
pub record NamesApart (shape : Shape) (parts : Fields) : Type 0 where
  pub own : eqb shape.kind Kind.STRUCT ≡ true → repeats parts ≡ false

abbrev pub Apart : Fields → Type 0
Apart end = Unit
Apart (field name nullable shape parts rest) = NamesApart shape parts × (Apart parts × Apart rest)

abbrev pub TypeApart : DataType → Type 0
TypeApart t = NamesApart t.shape t.parts × Apart t.parts

pub apart_differ : (f : Fields) → Apart f → names_differ f ≡ true
unfolding names_differ
apart_differ end h = refl
apart_differ (field name nullable shape parts rest) h =
    all_cons _ (go (eqb shape.kind Kind.STRUCT) refl) (all_cons _ (apart_differ parts h.1.0) (all_cons _ (apart_differ rest h.1.1) all_nil))
  where
    go : (x : Bool) → eqb shape.kind Kind.STRUCT ≡ x → not (x && repeats parts) ≡ true
    go true e = rw (h.0.own e)
    go false e = refl

pub differ_apart : (f : Fields) → names_differ f ≡ true → Apart f
unfolding names_differ
differ_apart end h = tt
differ_apart (field name nullable shape parts rest) h =
    let g : not (eqb shape.kind Kind.STRUCT && repeats parts) ≡ true = all_at _ 0 h in
    (record { own = λ e. let g' : not (repeats parts) ≡ true = rw e at g in not-true _ g' }, (differ_apart parts (all_at _ 1 h), differ_apart rest (all_at _ 2 h)))

same_comm : (x y : List ℕ) → same_bytes x y ≡ true → same_bytes y x ≡ true
same_comm x y h = rw (same_equal x y h) (same_self y)

module _ (a : List ℕ → ℕ) (b : Zone → ℕ) where
  -- what the fields of a chain weigh whose name passes a test
  abbrev chosen : (List ℕ → Bool) → Fields → ℕ
  chosen test end = 0
  chosen test (field name nullable shape parts rest) = cond (test name) ((a name + b shape.zone) + weigh a b parts) 0 + chosen test rest

  chosen_all : (test : List ℕ → Bool) (f : Fields) → chosen test f ≤ weigh a b f
  chosen_all test end = omega arith
  chosen_all test (field name nullable shape parts rest) = go (test name) (chosen_all test rest)
    where
      go : (x : Bool) → chosen test rest ≤ weigh a b rest
          → cond x ((a name + b shape.zone) + weigh a b parts) 0 + chosen test rest ≤ (a name + b shape.zone) + (weigh a b parts + weigh a b rest)
      go true h = omega arith
      go false h = omega arith

  -- tests that never both hold
  chosen_apart : (p q : List ℕ → Bool) (f : Fields) → ((name : List ℕ) → p name ≡ true → q name ≡ false)
      → chosen p f + chosen q f ≤ chosen (λ name. p name || q name) f
  chosen_apart p q end h = omega arith
  chosen_apart p q (field name nullable shape parts rest) h = go (p name) (q name) refl refl (chosen_apart p q rest h)
    where
      w : ℕ
      w = (a name + b shape.zone) + weigh a b parts

      go : (x y : Bool) → p name ≡ x → q name ≡ y → chosen p rest + chosen q rest ≤ chosen (λ n. p n || q n) rest
          → (cond x w 0 + chosen p rest) + (cond y w 0 + chosen q rest) ≤ cond (x || y) w 0 + chosen (λ n. p n || q n) rest
      go true true e e' k = never (sym (h name e) ∙ e')
      go true false e e' k = omega arith
      go false true e e' k = omega arith
      go false false e e' k = omega arith

  -- a field that was taken by name, before others
  record Taken (bound : ℕ) (f : Fields) : Type 0 where
    light : weigh a b f ≤ bound
    apart : Apart f

  taken_named : (name : List ℕ) (r more : Fields) → Apart r → Apart more
      → If (Taken (chosen (λ n. same_bytes n name) r + weigh a b more)) (with_name name r more)
  unfolding with_name
  taken_named name end more h k = tt
  taken_named name (field name' nullable shape parts rest) more h k =
      if_cond (Taken _) (same_bytes name name') (Some (field name' nullable shape parts more)) (with_name name rest more)
      (λ e. let s = same_comm name name' e in record { light = rw s (omega arith); apart = (h.0, (h.1.0, k)) })
      (λ e. if_weak (Taken _) (Taken _) (with_name name rest more) (taken_named name rest more h.1.1 k)
      (λ f g. record { light = omega (arith, g.light); apart = g.apart }))

  -- names that differ take different fields
  taken_by_name : (l r : Fields) → repeats l ≡ false → Apart r → If (Taken (chosen (λ n. has_name n l) r)) (by_name l r)
  unfolding by_name repeats has_name
  taken_by_name end r d h = record { light = omega arith; apart = tt }
  taken_by_name (field name nullable shape parts rest) r d h =
      if_then (Taken _) (Taken _) (by_name rest r) (λ more. with_name name r more) (taken_by_name rest r (or_snd (has_name name rest) (repeats rest) d) h)
      (λ more g. if_weak (Taken _) (Taken _) (with_name name r more) (taken_named name r more h g.apart)
      (λ f k. record { light = omega (arith, g.light, k.light, chosen_apart (λ n. same_bytes n name) (λ n. has_name n rest) r differ); apart = k.apart }))
    where
      differ : (n : List ℕ) → same_bytes n name ≡ true → has_name n rest ≡ false
      differ n e = rw (same_equal n name e) (or_fst (has_name name rest) (repeats rest) d)

  pub by_name_lem : (l r : Fields) → repeats l ≡ false → Apart r → If (λ f. (weigh a b f ≤ weigh a b r) × Apart f) (by_name l r)
  by_name_lem l r d h =
      if_weak (Taken _) _ (by_name l r) (taken_by_name l r d h) (λ f k. (omega (arith, k.light, chosen_all (λ n. has_name n l) r), k.apart))
