-- What is shown of all families. Assumes nothing.
use mathlib.Core.Path.{◌≡◌, refl}
use mathlib.Core.Bool.{true}
use mathlib.Core.List.{List, [], ◌∷◌}
use Rattle.std.specs.Prelude.{Some}
use Prim.Native.Nat.{ℕ, max}
use Rattle.sheet.specs.Kind.{is_decimal}
use Rattle.coercion.specs.declared.Rules.{Rules}
use Rattle.coercion.specs.Data.{DataType, for_list}
use Rattle.coercion.specs.Answers.{numeric, unknown, dateTime, type_union_resolution}
use Rattle.coercion.specs.Families.{Family, integers, strings, timestamps, decimals, decimal_of, Common, least, AllIn, SomeIn, here, later}
use Rattle.coercion.proofs.Joins.{all, Joins}
use Rattle.coercion.proofs.Resolving.{resolved}
use Rattle.coercion.proofs.Ranked.{integer_at, integer_up, string_at, timestamp_at, ranked_joins, ranked_category, integers_lawful, integers_numbered, strings_lawful, strings_numbered, timestamps_lawful, timestamps_numbered}
use Rattle.coercion.proofs.Decimals.{decimals_joins, decimals_category}
use Rattle.coercion.proofs.Leasts.{ordered_least, integers_ordered, strings_ordered, timestamps_ordered}
use Rattle.coercion.proofs.Outgrowing.{decimals_common}

-- the list answer of a list of the family is the common type, whatever the mask, the order and the cutting
pub record Settled (f : Family) : Type 0 where
  pub laws : Joins f
  pub resolves : (m : Rules) (t : DataType) (ts : List DataType) → AllIn f (t ∷ ts) → type_union_resolution (for_list m) (t ∷ ts) ≡ Some (all (t ∷ ts))
  pub common : (ts : List DataType) → AllIn f ts → SomeIn f ts → Common f ts (all ts)

integers_joins : Joins integers
integers_joins = ranked_joins integers integer_at integer_up 9 numeric integers_lawful integers_numbered

strings_joins : Joins strings
strings_joins = ranked_joins strings string_at max 3 unknown strings_lawful strings_numbered

timestamps_joins : Joins timestamps
timestamps_joins = ranked_joins timestamps timestamp_at max 4 dateTime timestamps_lawful timestamps_numbered

width_of : (w : ℕ) (ts : List DataType) → SomeIn (decimals w) ts → is_decimal w ≡ true
width_of w [] x' = elim x' [ ]
width_of w (t ∷ ts) (here (decimal_of v p s h r b)) = h
width_of w (t ∷ ts) (later s) = width_of w ts s

pub settled : (f : Family) (ts : List DataType) → SomeIn f ts → Settled f
settled integers ts s =
    record {
      laws = integers_joins;
      resolves = λ m t ts. resolved integers integers_joins numeric
          (ranked_category integers integer_at integer_up 9 numeric integers_lawful integers_numbered) m t ts refl;
      common = λ ts a s. least (ordered_least integers integers_joins integers_ordered ts a s);
    }
settled strings ts s =
    record {
      laws = strings_joins;
      resolves = λ m t ts. resolved strings strings_joins unknown (ranked_category strings string_at max 3 unknown strings_lawful strings_numbered) m t ts refl;
      common = λ ts a s. least (ordered_least strings strings_joins strings_ordered ts a s);
    }
settled timestamps ts s =
    record {
      laws = timestamps_joins;
      resolves = λ m t ts. resolved timestamps timestamps_joins dateTime
          (ranked_category timestamps timestamp_at max 4 dateTime timestamps_lawful timestamps_numbered) m t ts refl;
      common = λ ts a s. least (ordered_least timestamps timestamps_joins timestamps_ordered ts a s);
    }
settled (decimals w) ts s =
    let known = width_of w ts s in
    record {
      laws = decimals_joins w known;
      resolves = λ m t ts. resolved (decimals w) (decimals_joins w known) numeric (decimals_category w known) m t ts refl;
      common = decimals_common w known;
    }
