-- The tests of a record, put together. Assumes nothing.
use mathlib.Core.Path.{◌≡◌, refl, ◌∙◌, ap}
use mathlib.Core.Bool.{Bool, true, false, not, cond}
use mathlib.Core.List.{List, ◌∷◌}
use Prim.Native.Nat.{ℕ, ◌+◌, ◌/◌, ◌%◌, ◌<◌}
use native.Mathlib.Omega.{arith}
use lib.Dec.{eqb, ltb}
use borrow.Author.Tests.{eq-eqb, ne_eqb, le-leb, lt-leb, lt-ltb}
use Rattle.sheet.specs.Booleans.{all_of, implies, between}
use Rattle.sheet.specs.Kind.{is_decimal, sized, last_unit, parts_right, names_parts}
use Rattle.sheet.specs.Head.{nullable_in, sorted_in, zoned_in, zone_at, zone_len}
use Rattle.sheet.specs.Refusals.{figure_right, size_right, figures_right, record_right, placed, label_right}
use Rattle.sheet.specs.declared.Head.{Head}
use Rattle.sheet.proofs.Booleans.{all_nil, all_cons, and_true}

-- one test alone is left of a list
pub all_first : {t : Bool} (ts : List Bool) → all_of ts ≡ true → all_of (t ∷ ts) ≡ t
unfolding all_of
all_first {t} ts h = rw h (and_true t)

pub all_skip : {t : Bool} (ts : List Bool) → t ≡ true → all_of (t ∷ ts) ≡ all_of ts
unfolding all_of
all_skip ts e = rw e

-- a kind below those that have parts
pub parts_none : (k n : ℕ) → k < 32 → parts_right k n ≡ eqb n 0
unfolding parts_right between
parts_none k n h = rw (lt-leb 32 k h, ne_eqb k 36 (omega arith), lt-leb 37 k (omega arith), ne_eqb k 35 (omega arith))

-- no figure, and no size
pub figure_none : (k c : ℕ) → is_decimal k ≡ false → c ≡ 0 → figure_right k 0 c ≡ true
unfolding figure_right
figure_none k c d e = rw d (all_cons _ (le-leb 0 (last_unit k) (omega arith)) (all_cons _ (eq-eqb c 0 e) all_nil))

pub size_none : (k : ℕ) → size_right k 0 ≡ true
unfolding size_right
size_none k = either (sized k)
  where
    either : (b : Bool) → cond b true true ≡ true
    either true = refl
    either false = refl

module _ (h : Head) (up : ℕ) where
  -- a record with no flag but the first
  pub record_plain : h.byte_15 ≡ 0 → h.flags < 2 → implies (nullable_in h) (names_parts up) ≡ true
      → record_right h up ≡ figures_right h.kind h.figure h.scale h.bytes_4_7 false false
  unfolding record_right
  record_plain l f n =
      let s : sorted_in h ≡ false = ne_eqb (h.flags / 2 % 2) 1 (omega arith) in
      let z : zoned_in h ≡ false = ne_eqb (h.flags / 4 % 2) 1 (omega arith) in
      all_first _
      (all_cons _ n
      (all_cons _ (lt-ltb h.flags 8 (omega arith))
      (all_cons _ (ap (λ (b : Bool). implies b (ltb h.bytes_4_7 16777216)) z) (all_cons _ (eq-eqb h.byte_15 0 l) all_nil))))
      ∙ (λ i. figures_right h.kind h.figure h.scale (cond (z i) 0 h.bytes_4_7) (s i) (z i))

  -- the labels of a record whose name is right
  pub labels_named : (o : ℕ) {b : Bool} → placed o h.name h.name_len ≡ true → implies (not (eqb h.name_len 0)) (names_parts up) ≡ true → zoned_in h ≡ b
      → label_right h up o ≡ implies b (placed (o + h.name_len) (zone_at h) (zone_len h))
  unfolding label_right
  labels_named o p n z =
      all_skip _ p ∙ all_skip _ n ∙ all_first _ all_nil ∙ ap (λ (b : Bool). implies b (placed (o + h.name_len) (zone_at h) (zone_len h))) z
