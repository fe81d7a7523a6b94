-- A head and the sixteen bytes that hold it. Assumes nothing.
use mathlib.Core.Path.{◌≡◌, refl, ap, sym, ◌∙◌}
use mathlib.Core.List.{List, [], ◌∷◌}
use Prim.Native.Nat.{ℕ, zero, suc, ◌+◌, ◌*◌, ◌/◌, ◌%◌, ◌<◌, ◌≤◌}
use native.Mathlib.Omega.{arith}
use lib.ListN.{length, get_or}
use borrow.Author.Tests.{lt-ltb}
use Rattle.sheet.specs.Head.{word, quad_at, head_from, by_quads, head_at, bytes_of}
use Rattle.sheet.specs.Holds.{Span, Plain}
use Rattle.sheet.specs.declared.Head.{Head}
use Rattle.sheet.proofs.Spans.{at_eq, at_span, span_at, span_inside}

-- the head of a record that lies inside
pub head_inside : (s : List ℕ) (r : ℕ) → 16 * r + 16 ≤ length s → head_at s r ≡ head_from s (16 * r)
unfolding head_at
head_inside s r h = rw (lt-ltb r (length s / 16) (omega arith))

module _ (s : List ℕ) (i : ℕ) (plain : Plain s) where
  pub low : (j : ℕ) → word s j % 256 ≡ get_or s j 0
  low j = omega (arith, plain j)

  pub high : (j : ℕ) → word s j / 256 ≡ get_or s (j + 1) 0
  high j = omega (arith, plain j)

  pub quad0 : (j : ℕ) → quad_at s j % 256 ≡ get_or s j 0
  quad0 j = omega (arith, plain j)

  pub quad1 : (j : ℕ) → quad_at s j / 256 % 256 ≡ get_or s (j + 1) 0
  quad1 j = omega (arith, plain j, plain (j + 1))

  pub quad2 : (j : ℕ) → quad_at s j / 65536 % 256 ≡ get_or s (j + 2) 0
  quad2 j = omega (arith, plain j, plain (j + 1), plain (j + 2))

  pub quad3 : (j : ℕ) → quad_at s j / 16777216 ≡ get_or s (j + 2 + 1) 0
  quad3 j = omega (arith, plain j, plain (j + 1), plain (j + 2))

  low16 : (j : ℕ) → quad_at s j % 65536 ≡ word s j
  low16 j = omega (arith, plain j, plain (j + 1))

  high16 : (j : ℕ) → quad_at s j / 65536 ≡ word s (j + 2)
  high16 j = omega (arith, plain j, plain (j + 1))

  -- the head of sixteen bytes that were read as four numbers
  pub by_quads_lem : (a b c d : ℕ) → a ≡ quad_at s i → b ≡ quad_at s (i + 4) → c ≡ quad_at s (i + 8) → d ≡ quad_at s (i + 12) → by_quads a b c d ≡ head_from s i
  by_quads_lem a b c d ea eb ec ed =
      let e3 : i + 2 + 1 ≡ i + 3 = omega arith in
      let e10 : i + 8 + 2 ≡ i + 10 = omega arith in
      let e14 : i + 12 + 2 ≡ i + 14 = omega arith in
      let e15 : i + 12 + 2 + 1 ≡ i + 15 = omega arith in
      λ t.
      record {
        kind = (ap (λ (x : ℕ). x % 256) ea ∙ quad0 i) t;
        flags = (ap (λ (x : ℕ). x / 256 % 256) ea ∙ quad1 i) t;
        figure = (ap (λ (x : ℕ). x / 65536 % 256) ea ∙ quad2 i) t;
        scale = (ap (λ (x : ℕ). x / 16777216) ea ∙ quad3 i ∙ at_eq s e3) t;
        bytes_4_7 = eb t;
        first = (ap (λ (x : ℕ). x % 65536) ec ∙ low16 (i + 8)) t;
        next = (ap (λ (x : ℕ). x / 65536) ec ∙ high16 (i + 8) ∙ ap (word s) e10) t;
        name = (ap (λ (x : ℕ). x % 65536) ed ∙ low16 (i + 12)) t;
        name_len = (ap (λ (x : ℕ). x / 65536 % 256) ed ∙ quad2 (i + 12) ∙ at_eq s e14) t;
        byte_15 = (ap (λ (x : ℕ). x / 16777216) ed ∙ quad3 (i + 12) ∙ at_eq s e15) t;
      }

  byte : (j : ℕ) → j < 16 → get_or s (i + j) 0 ≡ get_or (bytes_of (head_from s i)) j 0
  byte zero q = at_eq s (omega arith)
  byte (suc zero) q = refl
  byte (suc (suc zero)) q = refl
  byte (suc (suc (suc zero))) q = refl
  byte (suc (suc (suc (suc zero)))) q = sym (quad0 (i + 4))
  byte (suc (suc (suc (suc (suc zero))))) q = at_eq s (omega arith) ∙ sym (quad1 (i + 4))
  byte (suc (suc (suc (suc (suc (suc zero)))))) q = at_eq s (omega arith) ∙ sym (quad2 (i + 4))
  byte (suc (suc (suc (suc (suc (suc (suc zero))))))) q = at_eq s (omega arith) ∙ sym (quad3 (i + 4))
  byte (suc (suc (suc (suc (suc (suc (suc (suc zero)))))))) q = sym (low (i + 8))
  byte (suc (suc (suc (suc (suc (suc (suc (suc (suc zero))))))))) q = at_eq s (omega arith) ∙ sym (high (i + 8))
  byte (suc (suc (suc (suc (suc (suc (suc (suc (suc (suc zero)))))))))) q = sym (low (i + 10))
  byte (suc (suc (suc (suc (suc (suc (suc (suc (suc (suc (suc zero))))))))))) q = at_eq s (omega arith) ∙ sym (high (i + 10))
  byte (suc (suc (suc (suc (suc (suc (suc (suc (suc (suc (suc (suc zero)))))))))))) q = sym (low (i + 12))
  byte (suc (suc (suc (suc (suc (suc (suc (suc (suc (suc (suc (suc (suc zero))))))))))))) q = at_eq s (omega arith) ∙ sym (high (i + 12))
  byte (suc (suc (suc (suc (suc (suc (suc (suc (suc (suc (suc (suc (suc (suc zero)))))))))))))) q = refl
  byte (suc (suc (suc (suc (suc (suc (suc (suc (suc (suc (suc (suc (suc (suc (suc j))))))))))))))) q =
      at_eq s (omega arith) ∙ last j (omega arith)
    where
      last : (j : ℕ) → j < 1 → get_or s (i + 15) 0 ≡ get_or (get_or s (i + 15) 0 ∷ []) j 0
      last zero q = refl
      last (suc j) q = absurd (omega arith)

-- the sixteen bytes of a record are those of its head
pub head_span : (s : List ℕ) (r : ℕ) → Plain s → 16 * r + 16 ≤ length s → Span s (16 * r) (bytes_of (head_at s r))
head_span s r plain h =
    rw (head_inside s r h) (at_span s (16 * r) (bytes_of (head_from s (16 * r))) (omega arith) (byte s (16 * r) plain))

head_path : {h g : Head} → h.kind ≡ g.kind → h.flags ≡ g.flags → h.figure ≡ g.figure → h.scale ≡ g.scale → h.bytes_4_7 ≡ g.bytes_4_7
    → h.first ≡ g.first → h.next ≡ g.next → h.name ≡ g.name → h.name_len ≡ g.name_len → h.byte_15 ≡ g.byte_15 → h ≡ g
head_path a b c d e f g h j k =
    λ i. record { kind = a i; flags = b i; figure = c i; scale = d i; bytes_4_7 = e i; first = f i; next = g i; name = h i; name_len = j i; byte_15 = k i }

-- bytes that are those of a head hold it
pub span_head : (s : List ℕ) (r : ℕ) (h : Head) → Span s (16 * r) (bytes_of h) → head_at s r ≡ h
span_head s r h a =
    head_inside s r (span_inside (omega arith) a)
    ∙ head_path {h = head_from s (16 * r)} {g = h}
    (at_eq s (omega arith) ∙ b 0 (omega arith)) (b 1 (omega arith)) (b 2 (omega arith)) (b 3 (omega arith))
    (quad (b 4 (omega arith)) (at_eq s (omega arith) ∙ b 5 (omega arith)) (at_eq s (omega arith) ∙ b 6 (omega arith)) (at_eq s (omega arith) ∙ b 7 (omega arith)))
    (pair (b 8 (omega arith)) (at_eq s (omega arith) ∙ b 9 (omega arith)))
    (pair (b 10 (omega arith)) (at_eq s (omega arith) ∙ b 11 (omega arith)))
    (pair (b 12 (omega arith)) (at_eq s (omega arith) ∙ b 13 (omega arith)))
    (b 14 (omega arith)) (b 15 (omega arith))
  where
    b : (j : ℕ) → j < 16 → get_or s (16 * r + j) 0 ≡ get_or (bytes_of h) j 0
    b j q = span_at j q a

    pair : {x y f : ℕ} → x ≡ f % 256 → y ≡ f / 256 → x + 256 * y ≡ f
    pair p q = omega arith

    quad : {x y z w f : ℕ} → x ≡ f % 256 → y ≡ f / 256 % 256 → z ≡ f / 65536 % 256 → w ≡ f / 16777216 → x + 256 * y + 65536 * (z + 256 * w) ≡ f
    quad p q r t = omega arith
