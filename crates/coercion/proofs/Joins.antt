-- The common type of a list of one family as a join, and what does not change it: order and cutting. Assumes nothing.
use mathlib.Core.Path.{◌≡◌, refl, ap, ap₂, sym, subst, ◌∙◌}
use mathlib.Core.Bool.{false, cond}
use mathlib.Core.List.{List, [], ◌∷◌, ◌++◌, map, flatten, Permᴰ}
use Rattle.std.specs.Prelude.{Option, None, Some}
use Rattle.coercion.specs.Data.{DataType, for_list}
use Rattle.coercion.specs.Rules.{is_null}
use Rattle.coercion.specs.Answers.{coercion}
use Rattle.coercion.specs.Families.{Family, Member, InFamily, null, member, AllIn, SomeIn, here, later, null_type}
use Rattle.coercion.specs.declared.Question.{Question}
use Rattle.coercion.specs.declared.Rules.{Rules}

-- the question of a list, where Null may become nothing
abbrev pub unmasked : Rules
unmasked = record { question = Question.List; mask = 0 }

abbrev pub or_null : Option DataType → DataType
or_null None = null_type
or_null (Some t) = t

-- the common type of two types of a family, with Null as the unit
unfoldable pub join : DataType → DataType → DataType
join x y = cond (is_null x) y (cond (is_null y) x (or_null (coercion unmasked x y)))

-- the common type of a list
unfoldable pub all : List DataType → DataType
all [] = null_type
all (t ∷ ts) = join t (all ts)

-- what is shown of each family
pub record Joins (f : Family) : Type 0 where
  pub solid : (x : DataType) → Member f x → is_null x ≡ false
  pub answers : (m : Rules) (x y : DataType) → Member f x → Member f y → coercion (for_list m) x y ≡ Some (join x y)
  pub closed : (x y : DataType) → Member f x → Member f y → Member f (join x y)
  pub comm : (x y : DataType) → Member f x → Member f y → join x y ≡ join y x
  pub assoc : (x y z : DataType) → Member f x → Member f y → Member f z → join (join x y) z ≡ join x (join y z)
  pub idem : (x : DataType) → Member f x → join x x ≡ x

pub null_join : (y : DataType) → join null_type y ≡ y
unfolding join
null_join y = refl

module _ (f : Family) (laws : Joins f) where
  pub join_null : (x : DataType) → InFamily f x → join x null_type ≡ x
  unfolding join
  join_null x null = refl
  join_null x (member a) = rw (laws.solid x a)

  -- a member stays one
  pub member_join : (x y : DataType) → Member f x → InFamily f y → Member f (join x y)
  member_join x y a null = subst (Member f) (sym (join_null x (member a))) a
  member_join x y a (member b) = laws.closed x y a b

  pub join_member : (x y : DataType) → InFamily f x → Member f y → Member f (join x y)
  join_member x y null b = subst (Member f) (sym (null_join y)) b
  join_member x y (member a) b = laws.closed x y a b

  pub in_join : (x y : DataType) → InFamily f x → InFamily f y → InFamily f (join x y)
  in_join x y null b = subst (InFamily f) (sym (null_join y)) b
  in_join x y (member a) b = member (member_join x y a b)

  pub in_all : (ts : List DataType) → AllIn f ts → InFamily f (all ts)
  unfolding all
  in_all [] a = null
  in_all (t ∷ ts) a = in_join t (all ts) a.0 (in_all ts a.1)

  pub member_all : (ts : List DataType) → AllIn f ts → SomeIn f ts → Member f (all ts)
  unfolding all
  member_all [] a x'' = elim x'' [ ]
  member_all (t ∷ ts) a (here b) = member_join t (all ts) b (in_all ts a.1)
  member_all (t ∷ ts) a (later s) = join_member t (all ts) a.0 (member_all ts a.1 s)

  pub comm : (x y : DataType) → InFamily f x → InFamily f y → join x y ≡ join y x
  comm x y null b = null_join y ∙ sym (join_null y b)
  comm x y (member a) null = join_null x (member a) ∙ sym (null_join x)
  comm x y (member a) (member b) = laws.comm x y a b

  pub assoc : (x y z : DataType) → InFamily f x → InFamily f y → InFamily f z → join (join x y) z ≡ join x (join y z)
  assoc x y z null b c = ap (λ (t : DataType). join t z) (null_join y) ∙ sym (null_join (join y z))
  assoc x y z (member a) null c = ap (λ (t : DataType). join t z) (join_null x (member a)) ∙ ap (join x) (sym (null_join z))
  assoc x y z (member a) (member b) null = join_null (join x y) (member (laws.closed x y a b)) ∙ ap (join x) (sym (join_null y (member b)))
  assoc x y z (member a) (member b) (member c) = laws.assoc x y z a b c

  pub idem : (x : DataType) → InFamily f x → join x x ≡ x
  idem x null = null_join null_type
  idem x (member a) = laws.idem x a

  -- another order of a list of the family is one
  pub perm_in : {xs ys : List DataType} → Permᴰ xs ys → AllIn f xs → AllIn f ys
  perm_in Permᴰ.nil a = a
  perm_in (Permᴰ.cons p d) a = (subst (InFamily f) p a.0, perm_in d a.1)
  perm_in (Permᴰ.swap p q) a = (subst (InFamily f) q a.1.0, (subst (InFamily f) p a.0, a.1.1))
  perm_in (Permᴰ.trans d e) a = perm_in e (perm_in d a)

  -- and has the same common type
  pub perm_all : {xs ys : List DataType} → Permᴰ xs ys → AllIn f xs → all xs ≡ all ys
  unfolding all
  perm_all Permᴰ.nil a = refl
  perm_all (Permᴰ.cons p d) a = ap₂ join p (perm_all d a.1)
  perm_all (Permᴰ.swap {a = x} {b = y} {a' = x'} {b' = y'} {l = l} p q) a =
      let u = in_all l a.1.1 in
      sym (assoc x y (all l) a.0 a.1.0 u)
      ∙ ap (λ (t : DataType). join t (all l)) (comm x y a.0 a.1.0 ∙ ap₂ join q p)
      ∙ assoc x' y' (all l) (subst (InFamily f) q a.1.0) (subst (InFamily f) p a.0) u
  perm_all (Permᴰ.trans d e) a = perm_all d a ∙ perm_all e (perm_in d a)

  pub in_front : (xs ys : List DataType) → AllIn f (xs ++ ys) → AllIn f xs
  in_front [] ys a = tt
  in_front (x ∷ xs) ys a = (a.0, in_front xs ys a.1)

  pub in_back : (xs ys : List DataType) → AllIn f (xs ++ ys) → AllIn f ys
  in_back [] ys a = a
  in_back (x ∷ xs) ys a = in_back xs ys a.1

  pub all_append : (xs ys : List DataType) → AllIn f (xs ++ ys) → all (xs ++ ys) ≡ join (all xs) (all ys)
  unfolding all
  all_append [] ys a = sym (null_join (all ys))
  all_append (x ∷ xs) ys a =
      ap (join x) (all_append xs ys a.1)
      ∙ sym (assoc x (all xs) (all ys) a.0 (in_all xs (in_front xs ys a.1)) (in_all ys (in_back xs ys a.1)))

  -- the common types of stretches
  pub in_cut : (css : List (List DataType)) → AllIn f (flatten css) → AllIn f (map all css)
  unfolding flatten
  in_cut [] a = tt
  in_cut (cs ∷ css) a = (in_all cs (in_front cs (flatten css) a), in_cut css (in_back cs (flatten css) a))

  -- have the common type of the whole
  pub all_cut : (css : List (List DataType)) → AllIn f (flatten css) → all (map all css) ≡ all (flatten css)
  unfolding all flatten
  all_cut [] a = refl
  all_cut (cs ∷ css) a =
      ap (join (all cs)) (all_cut css (in_back cs (flatten css) a)) ∙ sym (all_append cs (flatten css) a)
