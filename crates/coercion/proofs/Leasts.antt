-- The common type of a list of a family that is ordered by `holds` is the least type that holds them all. Assumes
-- nothing.
use mathlib.Core.Path.{◌≡◌, refl, ap, sym, ◌∙◌}
use mathlib.Core.Bool
use mathlib.Core.Bool.{Bool, true, false, ◌&&◌}
use mathlib.Core.List.{List, [], ◌∷◌}
use Prim.Native.Nat.{ℕ, ◌<◌, max}
use Rattle.sheet.specs.Booleans.{between}
use Rattle.sheet.specs.Kind.{is_decimal}
use Rattle.sheet.proofs.Booleans.{never, and_fst, and_snd, and_true}
use Rattle.coercion.specs.Data.{DataType, plain}
use Rattle.coercion.specs.declared.Figures.{Figures}
use Rattle.coercion.specs.Answers.{Category, numeric, unknown, dateTime}
use Rattle.coercion.specs.Families.{Family, integers, strings, timestamps, decimals, Member, holds, HoldsAll, Least, InFamily, null, member, AllIn, SomeIn, null_type}
use Rattle.coercion.proofs.Joins.{join, all, Joins, null_join, join_null, in_all, member_all}
use Rattle.coercion.proofs.Tables.{below, below3, at, at3}
use Rattle.coercion.proofs.Codes.{joined, of_one, of_three}
use Rattle.coercion.proofs.Ranked.{integer_at, integer_up, string_at, timestamp_at, Lawful, Numbered, coded, integers_lawful, integers_numbered, strings_lawful, strings_numbered, timestamps_lawful, timestamps_numbered}

-- "Every type holds itself, and every type holds Null"
pub holds_null : (f : Family) (t : DataType) → holds f t null_type ≡ true
unfolding holds
holds_null integers t = refl
holds_null strings t = refl
holds_null timestamps t = refl
holds_null (decimals w) t = refl

-- a type holds a join where it holds both
pub record Ordered (f : Family) : Type 0 where
  pub self : (x : DataType) → Member f x → holds f x x ≡ true
  pub least : (u x y : DataType) → Member f u → Member f x → Member f y → holds f u (join x y) ≡ (holds f u x && holds f u y)

module _ (f : Family) (laws : Joins f) (order : Ordered f) where
  holds_join : (u x y : DataType) → Member f u → InFamily f x → InFamily f y → holds f u (join x y) ≡ (holds f u x && holds f u y)
  holds_join u x y m null b = ap (holds f u) (null_join y) ∙ sym (ap (λ (t : Bool). t && holds f u y) (holds_null f u))
  holds_join u x y m (member a) null =
      ap (holds f u) (join_null f laws x (member a)) ∙ sym (ap (λ (t : Bool). holds f u x && t) (holds_null f u) ∙ and_true (holds f u x))
  holds_join u x y m (member a) (member b) = order.least u x y m a b

  holds_each : (u : DataType) (ts : List DataType) → Member f u → AllIn f ts → holds f u (all ts) ≡ true → HoldsAll f u ts
  unfolding all
  holds_each u [] m a h = tt
  holds_each u (t ∷ ts) m a h =
      let e = sym (holds_join u t (all ts) m a.0 (in_all f laws ts a.1)) ∙ h in
      (and_fst (holds f u t) (holds f u (all ts)) e, holds_each u ts m a.1 (and_snd (holds f u t) (holds f u (all ts)) e))

  holds_all : (u : DataType) (ts : List DataType) → Member f u → AllIn f ts → HoldsAll f u ts → holds f u (all ts) ≡ true
  unfolding all
  holds_all u [] m a h = holds_null f u
  holds_all u (t ∷ ts) m a h =
      holds_join u t (all ts) m a.0 (in_all f laws ts a.1) ∙ rw h.0 (holds_all u ts m a.1 h.1)

  pub ordered_least : (ts : List DataType) → AllIn f ts → SomeIn f ts → Least f ts (all ts)
  ordered_least ts a s =
      let m = member_all f laws ts a s in
      record { member = m; holds_them = holds_each (all ts) ts m a (order.self (all ts) m); least = λ u n h. holds_all u ts n a h }

-- the same as computed tests, for a numbered family
abbrev Leasting : Family → (ℕ → Figures) → (ℕ → ℕ → ℕ) → ℕ → ℕ → ℕ → Bool
Leasting f figuresAt up u r s =
    Bool.beq (holds f (plain (figuresAt u)) (plain (figuresAt (up r s))))
    (holds f (plain (figuresAt u)) (plain (figuresAt r)) && holds f (plain (figuresAt u)) (plain (figuresAt s)))

beq : (a b : Bool) → Bool.beq a b ≡ true → a ≡ b
beq true true h = refl
beq true false h = never h
beq false true h = never h
beq false false h = refl

module _ (f : Family) (figuresAt : ℕ → Figures) (up : ℕ → ℕ → ℕ) (n : ℕ) (c : Category) (laws : Lawful figuresAt up n c) (own : Numbered f figuresAt n)
    (self : below (λ r. holds f (plain (figuresAt r)) (plain (figuresAt r))) n ≡ true) (least : below3 (Leasting f figuresAt up) n ≡ true) where
  ordered : Ordered f
  ordered =
      let k = coded f figuresAt up n c laws own in
      record {
        self = of_one f (λ r. plain (figuresAt r)) (λ r. r < n) up k (λ (x : DataType). holds f x x ≡ true)
            (at (λ r. holds f (plain (figuresAt r)) (plain (figuresAt r))) n self);
        least = of_three f (λ r. plain (figuresAt r)) (λ r. r < n) up k (λ (u x y : DataType). holds f u (join x y) ≡ (holds f u x && holds f u y))
            (λ u r s g h i.
            ap (holds f (plain (figuresAt u))) (joined f (λ r. plain (figuresAt r)) (λ r. r < n) up k r s h i)
            ∙ beq _ _ (at3 (Leasting f figuresAt up) n least u r s g h i));
      }

pub integers_ordered : Ordered integers
unfolding holds between is_decimal
integers_ordered = ordered integers integer_at integer_up 9 numeric integers_lawful integers_numbered refl refl

pub strings_ordered : Ordered strings
unfolding holds
strings_ordered = ordered strings string_at max 3 unknown strings_lawful strings_numbered refl refl

pub timestamps_ordered : Ordered timestamps
unfolding holds
timestamps_ordered = ordered timestamps timestamp_at max 4 dateTime timestamps_lawful timestamps_numbered refl refl
