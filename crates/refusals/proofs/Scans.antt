-- The loops over a sheet's header and records. Assumes nothing.
use mathlib.Core.Path.{◌≡◌, refl, ap, sym, subst, ◌∙◌}
use mathlib.Core.Bool.{Bool, true, false, not, ◌||◌, ◌&&◌}
use mathlib.Core.List.{List}
use Prim.Native.Nat.{ℕ, zero, suc, ◌+◌, ◌*◌, ◌-◌, ◌<◌, ◌≤◌}
use native.Mathlib.Omega.{arith}
use native.Mathlib.Numerals.{add-one}
use lib.ListN.{length, get_or, take, drop}
use lib.Seq.{drop-cons}
use lib.Dec.{ltb, eqb}
use borrow.Author.Tests.{eq-eqb, ne_eqb, eqb-true, lt-ltb, le-ltb, ltb-false, not-false}
use Rattle.std.proofs.lemmas.Bool.Decides.{nat_tests}
use Rattle.sheet.specs.Booleans.{one_of}
use Rattle.sheet.specs.Kind.{is_kind}
use Rattle.sheet.specs.Head.{quad_at, head_at}
use Rattle.sheet.specs.Read.{records_of, labels_of}
use Rattle.sheet.specs.Refusals.{all_zero, any_from, torn}
use Rattle.refusals.specs.Framed.{FramedBy}
use Rattle.sheet.specs.declared.Head.{Head}
use Rattle.sheet.proofs.Heads.{head_inside}
use Rattle.sheet.proofs.Booleans.{one_at, one_is_lem, not_of}

-- the sum of k bytes from i on
abbrev total : List ℕ → ℕ → ℕ → ℕ
total s i zero = 0
total s i (suc k) = get_or s i 0 + total s (i + 1) k

zero_both : (a b : ℕ) → (a ≡ 0 → b ≡ 0) → (b ≡ 0 → a ≡ 0) → eqb a 0 ≡ eqb b 0
zero_both a b f g = grind (arith, nat_tests)

zero_sum : (a b : ℕ) → (eqb a 0 && eqb b 0) ≡ eqb (a + b) 0
zero_sum a b = grind (arith, nat_tests)

-- bytes are zero where their sum is
zero_total : (s : List ℕ) (k i : ℕ) → i + k ≤ length s → all_zero (take k (drop i s)) ≡ eqb (total s i k) 0
zero_total s zero i h = refl
zero_total s (suc k) i h =
    ap (λ (l : List ℕ). all_zero (take (suc k) l)) (drop-cons s i 0 (omega arith))
    ∙ ap (λ (j : ℕ). eqb (get_or s i 0) 0 && all_zero (take k (drop j s))) (sym (add-one i))
    ∙ ap (λ (b : Bool). eqb (get_or s i 0) 0 && b) (zero_total s k (i + 1) (omega arith))
    ∙ zero_sum (get_or s i 0) (total s (i + 1) k)

quads_zero : (s : List ℕ) → quad_at s 4 + quad_at s 8 + quad_at s 12 ≡ 0 → total s 4 12 ≡ 0
quads_zero s z = omega arith

bytes_zero : (s : List ℕ) → total s 4 12 ≡ 0 → quad_at s 4 + quad_at s 8 + quad_at s 12 ≡ 0
bytes_zero s z = omega arith

-- the rest of a header, read as three numbers of 32 bits
pub rest_zero : (s : List ℕ) (b c d : ℕ) → 16 ≤ length s → b ≡ quad_at s 4 → c ≡ quad_at s 8 → d ≡ quad_at s 12
    → eqb (b + c + d) 0 ≡ all_zero (take 12 (drop 4 s))
rest_zero s b c d l eb ec ed =
    (λ i. eqb (eb i + ec i + ed i) 0)
    ∙ zero_both (quad_at s 4 + quad_at s 8 + quad_at s 12) (total s 4 12) (quads_zero s) (bytes_zero s)
    ∙ sym (zero_total s 12 4 l)

any_step : (test : ℕ → Bool) (n r : ℕ) → r < n → any_from test r (n - r) ≡ (test r || any_from test (r + 1) (n - (r + 1)))
any_step test n r h = let e : n - r ≡ suc (n - (r + 1)) = omega arith in ap (any_from test r) e

-- the kind of a record that lies inside
pub odd_at : (s : List ℕ) (r : ℕ) {b c : Bool} → 16 * r + 16 ≤ length s → b ≡ is_kind (get_or s (16 * r) 0) → b ≡ c → not (is_kind (head_at s r).kind) ≡ not c
odd_at s r h e f = ap (λ (k : Head). not (is_kind k.kind)) (head_inside s r h) ∙ ap not (sym e ∙ f)

-- a record that fails the test, and one that passes it
pub any_next : (test : ℕ → Bool) (n r : ℕ) (w : Bool) → r < n → test r ≡ false → any_from test r (n - r) ≡ w → any_from test (r + 1) (n - (r + 1)) ≡ w
any_next test n r w h e v = ap (λ (b : Bool). b || any_from test (r + 1) (n - (r + 1))) (sym e) ∙ sym (any_step test n r h) ∙ v

pub any_here : (test : ℕ → Bool) (n r : ℕ) (w : Bool) → r < n → test r ≡ true → any_from test r (n - r) ≡ w → true ≡ w
any_here test n r w h e v = ap (λ (b : Bool). b || any_from test (r + 1) (n - (r + 1))) (sym e) ∙ sym (any_step test n r h) ∙ v

-- four records of right kinds
module _ (s : List ℕ) (n r : ℕ) (long : 16 * n ≤ length s) (lt : r + 3 < n) where
  odd : ℕ → Bool
  odd q = not (is_kind (head_at s q).kind)

  right_at : (q i : ℕ) → q < n → i ≡ 16 * q → is_kind (get_or s i 0) ≡ true → odd q ≡ false
  unfolding odd
  right_at q i h e k =
      ap (λ (x : Head). not (is_kind x.kind)) (head_inside s q (omega arith)) ∙ ap (λ (j : ℕ). not (is_kind (get_or s j 0))) (sym e) ∙ not_of k

  pub any_four : (w : Bool)
      → (is_kind (get_or s (16 * r) 0) ≡ true) × ((is_kind (get_or s (16 * r + 16) 0) ≡ true) × ((is_kind (get_or s (16 * r + 32) 0) ≡ true) × (is_kind (get_or s (16 * r + 48) 0) ≡ true)))
      → any_from (λ q. not (is_kind (head_at s q).kind)) r (n - r) ≡ w → any_from (λ q. not (is_kind (head_at s q).kind)) (r + 4) (n - (r + 4)) ≡ w
  unfolding odd
  any_four w k v =
      let four : r + 1 + 1 + 1 + 1 ≡ r + 4 = omega arith in
      subst (λ (q : ℕ). any_from odd q (n - q) ≡ w) four
      (any_next odd n (r + 1 + 1 + 1) w (omega arith) (right_at (r + 1 + 1 + 1) (16 * r + 48) (omega arith) (omega arith) k.1.1.1)
      (any_next odd n (r + 1 + 1) w (omega arith) (right_at (r + 1 + 1) (16 * r + 32) (omega arith) (omega arith) k.1.1.0)
      (any_next odd n (r + 1) w (omega arith) (right_at (r + 1) (16 * r + 16) (omega arith) (omega arith) k.1.0)
      (any_next odd n r w (omega arith) (right_at r (16 * r) (omega arith) refl k.0) v))))

module _ (s : List ℕ) where
  pub torn_short : length s < 16 → torn s ≡ true
  unfolding torn
  torn_short h = one_is_lem _ 0 (lt-ltb (length s) 16 h)

-- a sheet that is not torn
module _ (s : List ℕ) (h : torn s ≡ false) where
  pub framed_long : 16 ≤ length s
  unfolding torn
  framed_long = ltb-false (length s) 16 (one_at _ 0 h)

  pub framed_by : (n m : ℕ) → n ≡ records_of s → m ≡ labels_of s → FramedBy s n m
  unfolding torn
  framed_by n m en em =
      let some = ltb-false (records_of s) 1 (one_at _ 1 h) in
      let few = ltb-false 1024 (records_of s) (one_at _ 2 h) in
      let short = ltb-false 16384 (labels_of s) (one_at _ 3 h) in
      let long = eqb-true (length s) (16 * records_of s + labels_of s) (not-false _ (one_at _ 4 h)) in
      record { whole = h; records = en; labels = em; some = omega arith; few = omega arith; short = omega arith; long = omega arith }

-- n and m of a header, and the rest of it
module _ (s : List ℕ) (n m : ℕ) (en : n ≡ records_of s) (em : m ≡ labels_of s) where
  pub torn_length : ¬ (length s ≡ 16 * n + m) → torn s ≡ true
  unfolding torn
  torn_length h = one_is_lem _ 4 (ap not (ne_eqb (length s) (16 * records_of s + labels_of s) (λ e. h (omega arith))))

  pub torn_rest : {b : Bool} → 16 ≤ length s → length s ≡ 16 * n + m → b ≡ all_zero (take 12 (drop 4 s))
      → (((ltb n 1 || ltb 1024 n) || ltb 16384 m) || not b) ≡ torn s
  unfolding torn one_of
  torn_rest {b} least long e =
      rw (le-ltb (length s) 16 least, eq-eqb (length s) (16 * records_of s + labels_of s) (omega arith), en, em, e)
      (go (ltb (records_of s) 1) (ltb 1024 (records_of s)) (ltb 16384 (labels_of s)) (not (all_zero (take 12 (drop 4 s)))))
    where
      go : (x y z w : Bool) → (((x || y) || z) || w) ≡ (x || (y || (z || (false || (w || false)))))
      go true y z w = refl
      go false true z w = refl
      go false false true w = refl
      go false false false true = refl
      go false false false false = refl
