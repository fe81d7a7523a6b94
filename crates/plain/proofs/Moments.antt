-- A string and a time, either way round. Assumes nothing.
use mathlib.Core.Path.{◌≡◌, refl}
use mathlib.Core.Bool.{Bool, true, false, cond, ◌&&◌}
use Rattle.std.specs.Prelude.{Option, None, Some, MatchOption}
use Rattle.std.specs.Option.{IsSomeAnd}
use Rattle.coercion.specs.Meaning.{moment_of}
use Rattle.coercion.specs.declared.Moment.{Moment}
use Prim.Native.Nat.{ℕ, ◌<◌, ◌≤◌}
use native.Mathlib.Omega.{arith}
use lib.Dec.{leb}
use borrow.Author.Tests.{leb-true, lt-leb, ne_eqb}
use Rattle.sheet.specs.Booleans.{between}
use Rattle.sheet.proofs.Booleans.{and_fst}
use Rattle.sheet.specs.Kind.{is_string}
use Rattle.coercion.specs.Data.{DataType, or_else}
use Rattle.coercion.specs.Rules.{time_of_string, string_temporal_coercion}

-- a kind that is one of some is not below them, and one above others is none of those
least : (lo hi k : ℕ) → between lo hi k ≡ true → lo ≤ k
unfolding between
least lo hi k h = leb-true lo k (and_fst (leb lo k) (leb k hi) h)

pub above : (lo hi k : ℕ) → hi < k → between lo hi k ≡ false
unfolding between
above lo hi k h = rw (lt-leb k hi h) (go (leb lo k))
  where
    go : (b : Bool) → (b && false) ≡ false
    go true = refl
    go false = refl

-- a string is no time
no_time : (t : DataType) → is_string t.shape.kind ≡ true → time_of_string t ≡ None
no_time t h =
    let low = least 25 27 t.shape.kind h in
    rw (above 18 19 t.shape.kind (omega arith), above 20 21 t.shape.kind (omega arith), ne_eqb t.shape.kind 22 (λ e. omega arith))

module _ (l r : DataType) where
  pub left_string : is_string l.shape.kind ≡ true → string_temporal_coercion l r ≡ time_of_string r
  unfolding string_temporal_coercion
  left_string h = rw (h, no_time l h) (go (time_of_string r) (is_string r.shape.kind))
    where
      go : (a : Option DataType) (b : Bool) → or_else a (cond b None None) ≡ a
      go None true = refl
      go None false = refl
      go (Some t) b = refl

  pub right_string : is_string l.shape.kind ≡ false → is_string r.shape.kind ≡ true → string_temporal_coercion l r ≡ time_of_string l
  unfolding string_temporal_coercion
  right_string h e = rw (h, e)

  pub no_string : is_string l.shape.kind ≡ false → is_string r.shape.kind ≡ false → string_temporal_coercion l r ≡ None
  unfolding string_temporal_coercion
  no_string h e = rw (h, e)

-- what a moment becomes where the sides are swapped, and so an answer that may be missing
pub swapped_of : (m o : Option Moment) → MatchOption m (o ≡ None) (λ x. IsSomeAnd o (λ y. (l r : DataType) → moment_of (Some y) l r ≡ moment_of (Some x) r l))
    → (l r : DataType) → moment_of o l r ≡ moment_of m r l
swapped_of None o h l r = rw h
swapped_of (Some x) None h l r = absurd h
swapped_of (Some x) (Some y) h l r = h l r
