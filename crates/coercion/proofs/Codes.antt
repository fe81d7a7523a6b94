-- A family whose members are numbered: its join by the join of the numbers. Assumes nothing.
use mathlib.Core.Path.{◌≡◌, ap, sym, subst, ◌∙◌}
use mathlib.Core.Bool.{false}
use Rattle.std.specs.Prelude.{Option, Some}
use Rattle.coercion.specs.declared.Rules.{Rules}
use Rattle.coercion.specs.Data.{DataType, for_list}
use Rattle.coercion.specs.Rules.{is_null}
use Rattle.coercion.specs.Answers.{coercion}
use Rattle.coercion.specs.Families.{Family, Member}
use Rattle.coercion.proofs.Joins.{unmasked, join, Joins}

-- members are the types of the good codes, and what is joined by the rules is joined by the codes
pub record Coded (f : Family) {C : Type 0} (type_at : C → DataType) (Good : C → Type 0) (up : C → C → C) : Type 0 where
  pub code : (t : DataType) → Member f t → (c : C) × (Good c × (t ≡ type_at c))
  pub back : (c : C) → Good c → Member f (type_at c)
  pub solid : (c : C) → Good c → is_null (type_at c) ≡ false
  pub answers : (m : Rules) (c d : C) → Good c → Good d → coercion (for_list m) (type_at c) (type_at d) ≡ Some (type_at (up c d))
  pub closed : (c d : C) → Good c → Good d → Good (up c d)
  pub comm : (c d : C) → Good c → Good d → up c d ≡ up d c
  pub assoc : (c d e : C) → Good c → Good d → Good e → up (up c d) e ≡ up c (up d e)
  pub idem : (c : C) → Good c → up c c ≡ c

module _ (f : Family) {C : Type 0} (type_at : C → DataType) (Good : C → Type 0) (up : C → C → C) (laws : Coded f type_at Good up) where
  pub joined : (c d : C) → Good c → Good d → join (type_at c) (type_at d) ≡ type_at (up c d)
  unfolding join
  joined c d g h = rw (laws.solid c g) (rw (laws.solid d h) (rw (laws.answers unmasked c d g h)))

  -- what holds of the types of good codes holds of the members
  pub of_one : (P : DataType → Type 0) → ((c : C) → Good c → P (type_at c)) → (x : DataType) → Member f x → P x
  of_one P p x a = let q = laws.code x a in subst P (sym q.1.1) (p q.0 q.1.0)

  pub of_two : (P : DataType → DataType → Type 0) → ((c d : C) → Good c → Good d → P (type_at c) (type_at d)) → (x y : DataType) → Member f x → Member f y → P x y
  of_two P p x y a b = of_one (λ (u : DataType). P u y) (λ c g. of_one (P (type_at c)) (λ d h. p c d g h) y b) x a

  pub of_three : (P : DataType → DataType → DataType → Type 0) → ((c d e : C) → Good c → Good d → Good e → P (type_at c) (type_at d) (type_at e))
      → (x y z : DataType) → Member f x → Member f y → Member f z → P x y z
  of_three P p x y z a b c = of_one (λ (u : DataType). P u y z) (λ i g. of_two (P (type_at i)) (λ j k. p i j k g) y z b c) x a

  pub coded_joins : Joins f
  coded_joins =
      record {
        solid = of_one (λ (x : DataType). is_null x ≡ false) laws.solid;
        answers = λ m. of_two (λ (x y : DataType). coercion (for_list m) x y ≡ Some (join x y))
            (λ c d g h. laws.answers m c d g h ∙ ap {B = Option DataType} Some (sym (joined c d g h)));
        closed = of_two (λ (x y : DataType). Member f (join x y))
            (λ c d g h. subst (Member f) (sym (joined c d g h)) (laws.back (up c d) (laws.closed c d g h)));
        comm = of_two (λ (x y : DataType). join x y ≡ join y x)
            (λ c d g h. joined c d g h ∙ ap type_at (laws.comm c d g h) ∙ sym (joined d c h g));
        assoc = of_three (λ (x y z : DataType). join (join x y) z ≡ join x (join y z))
            (λ c d e g h i.
            ap (λ (t : DataType). join t (type_at e)) (joined c d g h) ∙ joined (up c d) e (laws.closed c d g h) i ∙ ap type_at (laws.assoc c d e g h i)
            ∙ sym (ap (join (type_at c)) (joined d e h i) ∙ joined c (up d e) g (laws.closed d e h i)));
        idem = of_one (λ (x : DataType). join x x ≡ x) (λ c g. joined c c g g ∙ ap type_at (laws.idem c g));
      }
