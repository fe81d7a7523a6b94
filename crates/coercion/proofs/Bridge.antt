-- The decimal rule on scales plus 128 is the rule on signed numbers. Assumes nothing.
use mathlib.Core.Path.{◌≡◌, refl, sym, ◌∙◌, ap, ap₂}
use Prim.Native.Nat.{ℕ, zero, suc, ◌+◌, ◌-◌, ◌<◌, ◌≤◌, min, max}
use native.Mathlib.Decide.{dec_lt}
use native.Mathlib.Omega.{arith}
use lib.IntN.{ℤ, pos, negsuc, sub_ℕ, ◌+ℤ◌, ◌-ℤ◌}
use borrow.Author.Tests.{lt-ltb, le-ltb}
use Rattle.sheet.specs.Refusals.{biased}
use Rattle.coercion.specs.Numbers.{ahead}
use Rattle.coercion.specs.Signed.{signed, max_z, min_z, scale_z, precision_z, held_z}

-- a - b, by the order of the two
sub_lt : (a b n : ℕ) → a < b → b ≡ suc (a + n) → sub_ℕ a b ≡ negsuc n
sub_lt a b n h e = simp (lt-ltb a b h) (ap negsuc (omega arith))

sub_ge : (a b n : ℕ) → a ≡ b + n → sub_ℕ a b ≡ pos n
sub_ge a b n e = let h : b ≤ a = omega arith in simp (le-ltb a b h) (ap pos (omega arith))

pos_sub : (p n : ℕ) → pos p -ℤ pos n ≡ sub_ℕ p n
pos_sub p zero = let e : p + 0 ≡ p = omega arith in ap pos e ∙ sym (sub_ge p 0 p (omega arith))
pos_sub p (suc n) = refl

-- a byte
pub signed_is : (b : ℕ) → b < 256 → signed b ≡ sub_ℕ (biased b) 128
signed_is b h = go (dec_lt b 128)
  where
    go : Dec (b < 128) → signed b ≡ sub_ℕ (biased b) 128
    go (yes l) = simp (lt-ltb b 128 l) (sym (sub_ge (biased b) 128 b (omega arith)))
    go (no n) =
        let k : 128 ≤ b = omega arith in
        let l : biased b < 128 = omega arith in
        simp (le-ltb b 128 k) (sym (sub_lt (biased b) 128 (255 - b) l (omega arith)))

-- p - s
ahead_is : (p s : ℕ) → s < 256 → pos p -ℤ sub_ℕ s 128 ≡ sub_ℕ (ahead p s) 128
ahead_is p s h = go (dec_lt s 128)
  where
    go : Dec (s < 128) → pos p -ℤ sub_ℕ s 128 ≡ sub_ℕ (ahead p s) 128
    go (yes l) =
        ap (λ (z : ℤ). pos p -ℤ z) (sub_lt s 128 (127 - s) l (omega arith)) ∙ sym (sub_ge (ahead p s) 128 (p + suc (127 - s)) (omega arith))
    go (no n) =
        ap (λ (z : ℤ). pos p -ℤ z) (sub_ge s 128 (s - 128) (omega arith)) ∙ pos_sub p (s - 128) ∙ shift (dec_lt p (s - 128))
      where
        shift : Dec (p < s - 128) → sub_ℕ p (s - 128) ≡ sub_ℕ (ahead p s) 128
        shift (yes l) =
            let k : ahead p s < 128 = omega arith in
            sub_lt p (s - 128) (s - 128 - suc p) l (omega arith) ∙ sym (sub_lt (ahead p s) 128 (s - 128 - suc p) k (omega arith))
        shift (no m) = sub_ge p (s - 128) (p - (s - 128)) (omega arith) ∙ sym (sub_ge (ahead p s) 128 (p - (s - 128)) (omega arith))

-- the larger of two, each less k
larger : (k a b : ℕ) → max_z (sub_ℕ a k) (sub_ℕ b k) ≡ sub_ℕ (max a b) k
larger k a b = go (dec_lt a k) (dec_lt b k) (dec_lt a b)
  where
    right : a < b → sub_ℕ b k ≡ sub_ℕ (max a b) k
    right h = let e : b ≡ max a b = omega arith in ap (λ (n : ℕ). sub_ℕ n k) e

    left : b ≤ a → sub_ℕ a k ≡ sub_ℕ (max a b) k
    left h = let e : a ≡ max a b = omega arith in ap (λ (n : ℕ). sub_ℕ n k) e

    go : Dec (a < k) → Dec (b < k) → Dec (a < b) → max_z (sub_ℕ a k) (sub_ℕ b k) ≡ sub_ℕ (max a b) k
    go (yes p) (yes q) (yes r) =
        let h : k - suc b < k - suc a = omega arith in
        ap₂ max_z (sub_lt a k (k - suc a) p (omega arith)) (sub_lt b k (k - suc b) q (omega arith)) ∙ (simp (lt-ltb _ _ h))
        ∙ sym (sub_lt b k (k - suc b) q (omega arith)) ∙ right r
    go (yes p) (yes q) (no r) =
        let h : k - suc a ≤ k - suc b = omega arith in
        ap₂ max_z (sub_lt a k (k - suc a) p (omega arith)) (sub_lt b k (k - suc b) q (omega arith)) ∙ (simp (le-ltb _ _ h))
        ∙ sym (sub_lt a k (k - suc a) p (omega arith)) ∙ left (omega arith)
    go (yes p) (no q) r =
        ap₂ max_z (sub_lt a k (k - suc a) p (omega arith)) (sub_ge b k (b - k) (omega arith)) ∙ sym (sub_ge b k (b - k) (omega arith)) ∙ right (omega arith)
    go (no p) (yes q) r =
        ap₂ max_z (sub_ge a k (a - k) (omega arith)) (sub_lt b k (k - suc b) q (omega arith)) ∙ sym (sub_ge a k (a - k) (omega arith)) ∙ left (omega arith)
    go (no p) (no q) (yes r) =
        let h : a - k < b - k = omega arith in
        ap₂ max_z (sub_ge a k (a - k) (omega arith)) (sub_ge b k (b - k) (omega arith)) ∙ (simp (lt-ltb _ _ h))
        ∙ sym (sub_ge b k (b - k) (omega arith)) ∙ right r
    go (no p) (no q) (no r) =
        let h : b - k ≤ a - k = omega arith in
        ap₂ max_z (sub_ge a k (a - k) (omega arith)) (sub_ge b k (b - k) (omega arith)) ∙ (simp (le-ltb _ _ h))
        ∙ sym (sub_ge a k (a - k) (omega arith)) ∙ left (omega arith)

-- the sum of two, each less 128, where it is not below 0
sum : (a b : ℕ) → 256 ≤ a + b → sub_ℕ a 128 +ℤ sub_ℕ b 128 ≡ pos (a + b - 256)
sum a b h = go (dec_lt a 128) (dec_lt b 128)
  where
    go : Dec (a < 128) → Dec (b < 128) → sub_ℕ a 128 +ℤ sub_ℕ b 128 ≡ pos (a + b - 256)
    go (yes p) (yes q) = absurd (let z : ◌≡◌ {A = ℕ} 0 1 = omega arith in omega arith)
    go (yes p) (no q) =
        ap₂ ◌+ℤ◌ (sub_lt a 128 (127 - a) p (omega arith)) (sub_ge b 128 (b - 128) (omega arith)) ∙ sub_ge (b - 128) (suc (127 - a)) (a + b - 256) (omega arith)
    go (no p) (yes q) =
        ap₂ ◌+ℤ◌ (sub_ge a 128 (a - 128) (omega arith)) (sub_lt b 128 (127 - b) q (omega arith)) ∙ sub_ge (a - 128) (suc (127 - b)) (a + b - 256) (omega arith)
    go (no p) (no q) =
        let e : a - 128 + (b - 128) ≡ a + b - 256 = omega arith in
        ap₂ ◌+ℤ◌ (sub_ge a 128 (a - 128) (omega arith)) (sub_ge b 128 (b - 128) (omega arith)) ∙ ap pos e

-- the scale
pub scale_is : (s t : ℕ) → s < 256 → t < 256 → scale_z s t ≡ sub_ℕ (max (biased s) (biased t)) 128
scale_is s t h k = ap₂ max_z (signed_is s h) (signed_is t k) ∙ larger 128 (biased s) (biased t)

-- the precision, before it is held to the cap
pub precision_is : (p s q t : ℕ) → s < 256 → t < 256
    → precision_z p s q t ≡ pos (max (ahead p (biased s)) (ahead q (biased t)) + max (biased s) (biased t) - 256)
precision_is p s q t h k =
    let b = biased s in
    let c = biased t in
    let l : b < 256 = omega arith in
    let m : c < 256 = omega arith in
    ap₂ ◌+ℤ◌ (scale_is s t h k)
    (ap₂ max_z (ap (λ (z : ℤ). pos p -ℤ z) (signed_is s h) ∙ ahead_is p b l) (ap (λ (z : ℤ). pos q -ℤ z) (signed_is t k) ∙ ahead_is q c m)
    ∙ larger 128 (ahead p b) (ahead q c))
    ∙ sum (max b c) (max (ahead p b) (ahead q c)) (enough p b q c l)
    ∙ ap pos (swap (max b c) (max (ahead p b) (ahead q c)))
  where
    enough : (p b q c : ℕ) → b < 256 → 256 ≤ max b c + max (ahead p b) (ahead q c)
    enough p b q c l = omega arith

    swap : (a b : ℕ) → a + b - 256 ≡ b + a - 256
    swap a b = omega arith

-- the smaller of two that are not below 0
smaller : (a b : ℕ) → min_z (pos a) (pos b) ≡ pos (min a b)
smaller a b = go (dec_lt b a)
  where
    go : Dec (b < a) → min_z (pos a) (pos b) ≡ pos (min a b)
    go (yes l) = let e : b ≡ min a b = omega arith in simp (lt-ltb b a l) (ap pos e)
    go (no n) = let h : a ≤ b = omega arith in let e : a ≡ min a b = omega arith in simp (le-ltb b a h) (ap pos e)

-- the precision
pub held_is : (most p s q t : ℕ) → s < 256 → t < 256
    → held_z most p s q t ≡ pos (min most (max (ahead p (biased s)) (ahead q (biased t)) + max (biased s) (biased t) - 256))
held_is most p s q t h k = ap (min_z (pos most)) (precision_is p s q t h k) ∙ smaller most _
