-- The families of finitely many types: the integers with Decimal128(20,0), the strings, the timestamps without a
-- zone. Assumes nothing.
use mathlib.Core.Path.{◌≡◌, refl, ap, sym, subst, ◌∙◌}
use mathlib.Core.Bool.{Bool, true, false, cond, not}
use Rattle.std.specs.Prelude.{Option, None, Some}
use Prim.Native.Nat.{ℕ, ◌+◌, ◌-◌, ◌<◌, ◌≤◌, max}
use native.Mathlib.Omega.{arith}
use native.Mathlib.Decide.{ℕ_discrete}
use lib.Dec.{eqb, ltb, leb}
use borrow.Author.Tests.{eqb-true, ltb-true, leb-true, le-leb, ne_eqb, not-true}
use Rattle.sheet.specs.Booleans.{all_of, between}
use Rattle.sheet.specs.Types.{count}
use Rattle.sheet.specs.declared.kind.TheConstants as Kind
use Rattle.sheet.specs.Kind.{is_decimal, cap}
use Rattle.sheet.proofs.Booleans.{never, and_fst, and_snd}
use Rattle.coercion.specs.declared.Rules.{Rules}
use Rattle.coercion.specs.Data.{DataType, plain, of_kind, of_unit, first_of, for_list}
use Rattle.coercion.specs.declared.Figures.{Figures}
use Rattle.coercion.specs.Rules.{is_null, null_coercion, string_numeric_coercion}
use Rattle.coercion.specs.Same.{same_zone, same_shape, same_fields, same_type, equal}
use Rattle.coercion.specs.Numbers.{decimal, get_wider_decimal_type, get_wider_decimal_type_cross_variant, coerce_numeric_type_to_decimal, get_common_decimal_type, decimal_coercion, numerical_coercion, binary_numeric_coercion}
use Rattle.coercion.specs.Strings.{string_coercion, binary_coercion}
use Rattle.coercion.specs.Times.{temporal_coercion, temporal_coercion_nonstrict_timezone}
use Rattle.coercion.specs.Nested.{list_coercion, map_coercion}
use Rattle.coercion.specs.Answers.{coerce_in, coercion, Category, numeric, unknown, dateTime, category_of, category_number}
use Rattle.coercion.specs.Families.{Family, integers, strings, timestamps, Member, integer, top, string, timestamp}
use Rattle.coercion.proofs.Joins.{Joins}
use Rattle.coercion.proofs.Resolving.{equal_plain, Categorised}
use Rattle.coercion.proofs.Tables.{below, below2, below3, at, at2, at3}
use Rattle.coercion.proofs.Codes.{Coded, coded_joins, of_one}

-- Int8 to Int64 are 0 to 3, UInt8 to UInt64 are 4 to 7, Decimal128(20,0) is 8
abbrev pub integer_at : ℕ → Figures
integer_at r = cond (eqb r 8) (decimal Kind.DECIMAL128 20 128) (of_kind (r + 3))

-- a signed integer with an unsigned one: the next wider signed one
abbrev mixed : ℕ → ℕ → ℕ
mixed r s = cond (leb 7 s) 8 (max r (s - 3))

abbrev pub integer_up : ℕ → ℕ → ℕ
integer_up r s = cond (ltb r 4) (cond (ltb s 4) (max r s) (mixed r s)) (cond (ltb s 4) (mixed s r) (max r s))

abbrev pub string_at : ℕ → Figures
string_at r = of_kind (r + 25)

abbrev pub timestamp_at : ℕ → Figures
timestamp_at u = of_unit Kind.TIMESTAMP u

abbrev answers_to : Option DataType → DataType → Bool
answers_to None t = false
answers_to (Some u) t = equal u t

answers_to_lem : (o : Option DataType) (g : Figures) → answers_to o (plain g) ≡ true → o ≡ Some (plain g)
answers_to_lem None g h = never h
answers_to_lem (Some u) g h = ap {B = Option DataType} Some (equal_plain u g h)

abbrev Answering : (ℕ → Figures) → (ℕ → ℕ → ℕ) → Rules → ℕ → ℕ → Bool
Answering figuresAt up m r s = answers_to (coercion (for_list m) (plain (figuresAt r)) (plain (figuresAt s))) (plain (figuresAt (up r s)))

-- the laws of a numbering, as computed tests
pub record Lawful (figuresAt : ℕ → Figures) (up : ℕ → ℕ → ℕ) (n : ℕ) (c : Category) : Type 0 where
  pub answers : (m : Rules) → below2 (Answering figuresAt up m) n ≡ true
  pub solid : below (λ r. not (is_null (plain (figuresAt r)))) n ≡ true
  pub closed : below2 (λ r s. ltb (up r s) n) n ≡ true
  pub comm : below2 (λ r s. eqb (up r s) (up s r)) n ≡ true
  pub assoc : below3 (λ r s t. eqb (up (up r s) t) (up r (up s t))) n ≡ true
  pub idem : below (λ r. eqb (up r r) r) n ≡ true
  pub category : below (λ r. eqb (category_number (category_of (plain (figuresAt r)).shape (plain (figuresAt r)).parts)) (category_number c)) n ≡ true

-- a family that is numbered so
pub record Numbered (f : Family) (figuresAt : ℕ → Figures) (n : ℕ) : Type 0 where
  pub code : (t : DataType) → Member f t → (r : ℕ) × ((r < n) × (t ≡ plain (figuresAt r)))
  pub back : (r : ℕ) → r < n → Member f (plain (figuresAt r))

module _ (f : Family) (figuresAt : ℕ → Figures) (up : ℕ → ℕ → ℕ) (n : ℕ) (c : Category) (laws : Lawful figuresAt up n c) (own : Numbered f figuresAt n) where
  pub coded : Coded f (λ r. plain (figuresAt r)) (λ r. r < n) up
  coded =
      record {
        code = own.code;
        back = own.back;
        solid = λ r g. not-true (is_null (plain (figuresAt r))) (at (λ r. not (is_null (plain (figuresAt r)))) n laws.solid r g);
        answers = λ m r s g h. answers_to_lem (coercion (for_list m) (plain (figuresAt r)) (plain (figuresAt s))) (figuresAt (up r s))
            (at2 (Answering figuresAt up m) n (laws.answers m) r s g h);
        closed = λ r s g h. ltb-true (up r s) n (at2 (λ r s. ltb (up r s) n) n laws.closed r s g h);
        comm = λ r s g h. eqb-true (up r s) (up s r) (at2 (λ r s. eqb (up r s) (up s r)) n laws.comm r s g h);
        assoc = λ r s t g h i.
            eqb-true (up (up r s) t) (up r (up s t)) (at3 (λ r s t. eqb (up (up r s) t) (up r (up s t))) n laws.assoc r s t g h i);
        idem = λ r g. eqb-true (up r r) r (at (λ r. eqb (up r r) r) n laws.idem r g);
      }

  pub ranked_joins : Joins f
  ranked_joins = coded_joins f (λ r. plain (figuresAt r)) (λ r. r < n) up coded

  pub ranked_category : Categorised f c
  ranked_category =
      record {
        is =
            of_one f (λ r. plain (figuresAt r)) (λ r. r < n) up coded (λ (t : DataType). category_number (category_of t.shape t.parts) ≡ category_number c)
            (λ r g.
            eqb-true (category_number (category_of (plain (figuresAt r)).shape (plain (figuresAt r)).parts)) (category_number c)
            (at (λ r. eqb (category_number (category_of (plain (figuresAt r)).shape (plain (figuresAt r)).parts)) (category_number c)) n laws.category r g));
      }

-- the three tables, each entry computed by the rules
record Tabled : Type 0 where
  integers : Lawful integer_at integer_up 9 numeric
  strings : Lawful string_at max 3 unknown
  timestamps : Lawful timestamp_at max 4 dateTime

tabled : Tabled
unfolding coercion coerce_in same_type same_shape same_fields same_zone all_of between count first_of is_decimal cap get_wider_decimal_type get_wider_decimal_type_cross_variant
    coerce_numeric_type_to_decimal get_common_decimal_type decimal_coercion numerical_coercion binary_numeric_coercion string_coercion
    binary_coercion temporal_coercion temporal_coercion_nonstrict_timezone null_coercion string_numeric_coercion list_coercion map_coercion category_of
tabled =
    record {
      integers = record { answers = λ m. refl; solid = refl; closed = refl; comm = refl; assoc = refl; idem = refl; category = refl };
      strings = record { answers = λ m. refl; solid = refl; closed = refl; comm = refl; assoc = refl; idem = refl; category = refl };
      timestamps = record { answers = λ m. refl; solid = refl; closed = refl; comm = refl; assoc = refl; idem = refl; category = refl };
    }

pub integers_lawful : Lawful integer_at integer_up 9 numeric
integers_lawful = tabled.integers

pub strings_lawful : Lawful string_at max 3 unknown
strings_lawful = tabled.strings

pub timestamps_lawful : Lawful timestamp_at max 4 dateTime
timestamps_lawful = tabled.timestamps

-- a kind from lo to hi is one of the numbers from lo on
pub kind_from : (lo hi k : ℕ) → between lo hi k ≡ true → (lo ≤ k) × (k ≤ hi)
unfolding between
kind_from lo hi k h = (leb-true lo k (and_fst (leb lo k) (leb k hi) h), leb-true k hi (and_snd (leb lo k) (leb k hi) h))

kind_to : (lo hi k : ℕ) → lo ≤ k → k ≤ hi → between lo hi k ≡ true
unfolding between
kind_to lo hi k p q = rw (le-leb lo k p) (le-leb k hi q)

integer_figures : (r : ℕ) → r < 8 → integer_at r ≡ of_kind (r + 3)
integer_figures r h = rw (ne_eqb r 8 (omega arith))

pub integers_numbered : Numbered integers integer_at 9
integers_numbered =
    record {
      code = code;
      back = λ r h. back r h (ℕ_discrete r 8);
    }
  where
    code : (t : DataType) → Member integers t → (r : ℕ) × ((r < 9) × (t ≡ plain (integer_at r)))
    code t (integer k h) =
        let b = kind_from 3 10 k h in
        let e : k ≡ k - 3 + 3 = omega (arith, b.0) in
        (k - 3, (omega (arith, b.0, b.1), ap (λ (j : ℕ). plain (of_kind j)) e ∙ ap plain (sym (integer_figures (k - 3) (omega (arith, b.0, b.1))))))
    code t top = (8, (omega arith, refl))

    back : (r : ℕ) → r < 9 → Dec (r ≡ 8) → Member integers (plain (integer_at r))
    back r h (yes e) = subst (λ (r : ℕ). Member integers (plain (integer_at r))) (sym e) top
    back r h (no ne) =
        subst (λ (g : Figures). Member integers (plain g)) (sym (integer_figures r (omega arith))) (integer (r + 3) (kind_to 3 10 (r + 3) (omega arith) (omega arith)))

pub strings_numbered : Numbered strings string_at 3
strings_numbered = record { code = code; back = λ r h. string (r + 25) (kind_to 25 27 (r + 25) (omega arith) (omega arith)) }
  where
    code : (t : DataType) → Member strings t → (r : ℕ) × ((r < 3) × (t ≡ plain (string_at r)))
    code t (string k h) =
        let b = kind_from 25 27 k h in
        let e : k ≡ k - 25 + 25 = omega (arith, b.0) in
        (k - 25, (omega (arith, b.0, b.1), ap (λ (j : ℕ). plain (of_kind j)) e))

pub timestamps_numbered : Numbered timestamps timestamp_at 4
timestamps_numbered = record { code = code; back = λ r h. timestamp r (omega arith) }
  where
    code : (t : DataType) → Member timestamps t → (r : ℕ) × ((r < 4) × (t ≡ plain (timestamp_at r)))
    code t (timestamp u h) = (u, (omega arith, refl))
