-- Laws of tests that are joined. Assumes nothing.
use mathlib.Core.Path.{◌≡◌, refl, ap, sym}
use mathlib.Core.Bool.{Bool, true, false, not, ◌&&◌, ◌||◌, false≢true}
use mathlib.Core.List.{List, [], ◌∷◌}
use Prim.Native.Nat.{ℕ, zero, suc}
use lib.ListN.{get_or}
use Rattle.sheet.specs.Booleans.{all_of, one_of}

pub never {ℓ} : {A : Type ℓ} → false ≡ true → A
never e = absurd (false≢true e)

pub and_fst : (a b : Bool) → a && b ≡ true → a ≡ true
and_fst true b h = refl
and_fst false b h = h

pub and_snd : (a b : Bool) → a && b ≡ true → b ≡ true
and_snd true b h = h
and_snd false b h = never h

pub or_fst : (a b : Bool) → a || b ≡ false → a ≡ false
or_fst true b h = h
or_fst false b h = refl

pub or_snd : (a b : Bool) → a || b ≡ false → b ≡ false
or_snd true b h = never (sym h)
or_snd false b h = h

-- each test of a list that holds
pub all_at : (ts : List Bool) (i : ℕ) → all_of ts ≡ true → get_or ts i true ≡ true
unfolding all_of
all_at [] i h = refl
all_at (t ∷ ts) zero h = and_fst t (all_of ts) h
all_at (t ∷ ts) (suc i) h = all_at ts i (and_snd t (all_of ts) h)

-- a test of a list that fails
pub all_not : (ts : List Bool) (i : ℕ) → get_or ts i true ≡ false → all_of ts ≡ false
unfolding all_of
all_not [] i h = h
all_not (t ∷ ts) zero h = rw h
all_not (true ∷ ts) (suc i) h = all_not ts i h
all_not (false ∷ ts) (suc i) h = refl

-- each test of a list of which none holds
pub one_at : (ts : List Bool) (i : ℕ) → one_of ts ≡ false → get_or ts i false ≡ false
unfolding one_of
one_at [] i h = refl
one_at (t ∷ ts) zero h = or_fst t (one_of ts) h
one_at (t ∷ ts) (suc i) h = one_at ts i (or_snd t (one_of ts) h)

-- a test of a list that holds
pub one_is_lem : (ts : List Bool) (i : ℕ) → get_or ts i false ≡ true → one_of ts ≡ true
unfolding one_of
one_is_lem [] i h = h
one_is_lem (t ∷ ts) zero h = rw h
one_is_lem (true ∷ ts) (suc i) h = refl
one_is_lem (false ∷ ts) (suc i) h = one_is_lem ts i h

pub all_nil : all_of [] ≡ true
unfolding all_of
all_nil = refl

pub all_cons : {t : Bool} (ts : List Bool) → t ≡ true → all_of ts ≡ true → all_of (t ∷ ts) ≡ true
unfolding all_of
all_cons ts e h = rw e h

pub one_nil : one_of [] ≡ false
unfolding one_of
one_nil = refl

pub one_cons : {t : Bool} (ts : List Bool) → t ≡ false → one_of ts ≡ false → one_of (t ∷ ts) ≡ false
unfolding one_of
one_cons ts e h = rw e h

pub not_of : {t : Bool} → t ≡ true → not t ≡ false
not_of e = ap not e

pub and_true : (b : Bool) → b && true ≡ b
and_true true = refl
and_true false = refl
