-- Byte strings compared by numbers of four and of eight of their bytes. Assumes nothing.
use mathlib.Core.Path.{◌≡◌, refl, sym, ◌∙◌, ap, ap₂}
use mathlib.Core.Bool.{Bool, true, false}
use mathlib.Core.List.{List}
use Prim.Native.Nat.{ℕ, ◌+◌, ◌*◌, ◌-◌, ◌/◌, ◌%◌, ◌<◌, ◌≤◌}
use native.Mathlib.Omega.{arith}
use mir.Syntax.{w8}
use mir.Val.{Fits}
use lib.Dec.{eqb}
use lib.ListN.{length, get_or}
use lib.Seq.{ext_get_or}
use borrow.Author.Tests.{eqb-true, eqb-false, ne_eqb}
use Rattle.sheet.specs.Head.{word, quad_at, eight_at}
use Rattle.sheet.specs.Names.{same_bytes}
use Rattle.sheet.specs.Holds.{Plain}
use Rattle.sheet.proofs.Bytewise.{same_self, same_equal}
use Rattle.sheet.proofs.Heads.{low, high, quad0, quad1, quad2, quad3}
use Rattle.sheet.proofs.Spans.{at_eq}

-- two strings agree in their first i bytes
abbrev pub Agree : List ℕ → List ℕ → ℕ → Type 0
Agree a b i = (k : ℕ) → k < i → get_or a k 0 ≡ get_or b k 0

pub agree_none : (a b : List ℕ) → Agree a b 0
agree_none a b k h = absurd (omega arith)

-- strings that a number made of them tells apart
pub same_unlike : (f : List ℕ → ℕ) (a b : List ℕ) → (f a ≡ f b → ⊥) → false ≡ same_bytes a b
same_unlike f a b n = go (same_bytes a b) refl
  where
    go : (t : Bool) → same_bytes a b ≡ t → false ≡ t
    go true e = absurd (n (ap f (same_equal a b e)))
    go false e = refl

-- a test of a comparison, where it fails
pub unlike : (f : List ℕ → ℕ) (a b : List ℕ) {x y : ℕ} → x ≡ f a → y ≡ f b → eqb x y ≡ false → false ≡ same_bytes a b
unlike f a b p q n = same_unlike f a b (λ e. eqb-false _ _ n (p ∙ e ∙ sym q))

pub apart : (f : List ℕ → ℕ) (a b : List ℕ) {x y : ℕ} → x ≡ f a → y ≡ f b → (x ≡ y → ⊥) → eqb x y ≡ same_bytes a b
apart f a b p q n = ne_eqb _ _ n ∙ unlike f a b p q (ne_eqb _ _ n)

-- strings of one length that agree in all of it
agree_all : (a b : List ℕ) → length a ≡ length b → Agree a b (length a) → true ≡ same_bytes a b
agree_all a b e f = sym (ap (λ (l : List ℕ). same_bytes l b) (ext_get_or 0 a b e f) ∙ same_self b)

-- what two numbers that are equal say of a digit of each
by : (g : ℕ → ℕ) {u v x y : ℕ} → u ≡ v → g u ≡ x → g v ≡ y → x ≡ y
by g e p q = sym p ∙ ap g e ∙ q

-- where two strings agree past place j, and the number of the bytes from j on is the same, they agree up to the last of
-- these
module _ (a b : List ℕ) where
  agree_one : (i j t : ℕ) → Agree a b i → j ≤ i → t ≤ j + 1 → get_or a j 0 ≡ get_or b j 0 → Agree a b t
  agree_one i j t f h z e k q = go (native.Mathlib.Decide.dec_lt k j)
    where
      go : Dec (k < j) → get_or a k 0 ≡ get_or b k 0
      go (yes l) = f k (omega arith)
      go (no g) = let w : k ≡ j = omega arith in at_eq a w ∙ e ∙ sym (at_eq b w)

  module _ (fits_a : (i : ℕ) → Fits w8 (get_or a i 0)) (fits_b : (i : ℕ) → Fits w8 (get_or b i 0)) where
    pa : Plain a
    pa i = (fits_a i).fits

    pb : Plain b
    pb i = (fits_b i).fits

    pub agree_word : (i j t : ℕ) → Agree a b i → j ≤ i → t ≤ j + 2 → word a j ≡ word b j → Agree a b t
    agree_word i j t f h z e =
        let one = agree_one i j (j + 1) f h (omega arith) (by (λ (x : ℕ). x % 256) e (low a 0 pa j) (low b 0 pb j)) in
        agree_one (j + 1) (j + 1) t one (omega arith) (omega arith) (by (λ (x : ℕ). x / 256) e (high a 0 pa j) (high b 0 pb j))

    pub agree_quad : (i j t : ℕ) → Agree a b i → j ≤ i → t ≤ j + 4 → quad_at a j ≡ quad_at b j → Agree a b t
    agree_quad i j t f h z e =
        let one = agree_one i j (j + 1) f h (omega arith) (by (λ (x : ℕ). x % 256) e (quad0 a 0 pa j) (quad0 b 0 pb j)) in
        let two = agree_one (j + 1) (j + 1) (j + 2) one (omega arith) (omega arith) (by (λ (x : ℕ). x / 256 % 256) e (quad1 a 0 pa j) (quad1 b 0 pb j)) in
        let three = agree_one (j + 2) (j + 2) (j + 3) two (omega arith) (omega arith) (by (λ (x : ℕ). x / 65536 % 256) e (quad2 a 0 pa j) (quad2 b 0 pb j)) in
        agree_one (j + 3) (j + 2 + 1) t three (omega arith) (omega arith) (by (λ (x : ℕ). x / 16777216) e (quad3 a 0 pa j) (quad3 b 0 pb j))

    quad_fits : (s : List ℕ) → Plain s → (j : ℕ) → quad_at s j < 4294967296
    quad_fits s p j = omega (arith, p j, p (j + 1), p (j + 2), p (j + 2 + 1))

    digits : (x y u v : ℕ) → x < 4294967296 → y < 4294967296 → x + 4294967296 * u ≡ y + 4294967296 * v → (x ≡ y) × (u ≡ v)
    digits x y u v p q e = (omega arith, omega arith)

    pub agree_eight : (i j t : ℕ) → Agree a b i → j ≤ i → t ≤ j + 8 → eight_at a j ≡ eight_at b j → Agree a b t
    agree_eight i j t f h z e =
        let d = digits (quad_at a j) (quad_at b j) (quad_at a (j + 4)) (quad_at b (j + 4)) (quad_fits a pa j) (quad_fits b pb j) e in
        agree_quad (j + 4) (j + 4) t (agree_quad i j (j + 4) f h (omega arith) d.0) (omega arith) (omega arith) d.1

    -- the last test of a comparison, by four bytes or by eight
    decided : (f : List ℕ → ℕ) → length a ≡ length b → (f a ≡ f b → Agree a b (length a)) → eqb (f a) (f b) ≡ same_bytes a b
    decided f e g = go (eqb (f a) (f b)) refl
      where
        go : (t : Bool) → eqb (f a) (f b) ≡ t → t ≡ same_bytes a b
        go true q = agree_all a b e (g (eqb-true (f a) (f b) q))
        go false q = same_unlike f a b (eqb-false (f a) (f b) q)

    pub byte_decides : length a ≡ length b → length a ≤ 1 → eqb (get_or a 0 0) (get_or b 0 0) ≡ same_bytes a b
    byte_decides e z = decided (λ (l : List ℕ). get_or l 0 0) e (agree_one 0 0 (length a) (agree_none a b) (omega arith) (omega arith))

    -- the last two, four or eight bytes, where the strings agree up to these or in as many at the front
    module _ (e : length a ≡ length b) {z w : ℕ} where
      pub words_decide : {x y : ℕ} → 2 ≤ length a → length a ≤ 4 → x ≡ word a 0 → y ≡ word b 0 → x ≡ y → z ≡ word a (length a - 2) → w ≡ word b (length a - 2)
          → eqb z w ≡ same_bytes a b
      words_decide h k p q f r t =
          ap₂ eqb r t
          ∙ decided (λ (l : List ℕ). word l (length a - 2)) e
          (agree_word 2 (length a - 2) (length a) (agree_word 0 0 2 (agree_none a b) (omega arith) (omega arith) (sym p ∙ f ∙ q)) (omega arith) (omega arith))

      pub quads_decide : {x y : ℕ} → 4 ≤ length a → length a ≤ 8 → x ≡ quad_at a 0 → y ≡ quad_at b 0 → x ≡ y → z ≡ quad_at a (length a - 4) → w ≡ quad_at b (length a - 4)
          → eqb z w ≡ same_bytes a b
      quads_decide h k p q f r t =
          ap₂ eqb r t
          ∙ decided (λ (l : List ℕ). quad_at l (length a - 4)) e
          (agree_quad 4 (length a - 4) (length a) (agree_quad 0 0 4 (agree_none a b) (omega arith) (omega arith) (sym p ∙ f ∙ q)) (omega arith) (omega arith))

      pub eights_decide : 8 ≤ length a → Agree a b (length a - 8) → z ≡ eight_at a (length a - 8) → w ≡ eight_at b (length a - 8) → eqb z w ≡ same_bytes a b
      eights_decide h f r t =
          ap₂ eqb r t ∙ decided (λ (l : List ℕ). eight_at l (length a - 8)) e (agree_eight (length a - 8) (length a - 8) (length a) f (omega arith) (omega arith))
