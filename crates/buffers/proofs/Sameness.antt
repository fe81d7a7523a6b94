-- The returns of the comparison of two types. Assumes nothing.
use mathlib.Core.Path.{◌≡◌, refl, ap, ap₂, sym, ◌∙◌}
use mathlib.Core.Bool.{Bool, true, false, cond, ◌&&◌, beq}
use mathlib.Core.List.{List, [], ◌∷◌}
use Prim.Native.Nat.{ℕ, zero, suc, ◌+◌, ◌*◌, ◌/◌, ◌%◌, ◌<◌, ◌≤◌}
use native.Mathlib.Omega.{arith}
use lib.Dec.{eqb}
use borrow.Author.Tests.{eq-eqb, ne_eqb, eqb-true, eqb-false}
use Rattle.sheet.specs.Booleans.{all_of, implies}
use Rattle.sheet.specs.Types.{absent, present, Shape, Fields, end, field, count}
use Rattle.sheet.specs.Encode.{link_to}
use Rattle.sheet.specs.Head.{head_at, nullable_in, zoned_in, sorted_in, zone_at, zone_len}
use Rattle.sheet.specs.Read.{label_at, shape_of}
use Rattle.sheet.specs.Names.{same_bytes}
use Rattle.sheet.specs.declared.Head.{Head}
use Rattle.sheet.proofs.Booleans.{and_true, all_not}
use Rattle.coercion.specs.Same.{same_zone, same_shape}
use Rattle.buffers.specs.Source.{Source, SameTypes, type_of}
use Rattle.buffers.specs.Differ.{first_of, fields_differ, type_differs, DifferChains, DifferTypes}
use Rattle.buffers.specs.Records.{same_figures, same_content}
use Rattle.buffers.proofs.Differing.{from_link, type_same}
use Rattle.buffers.proofs.Sources.{source_none, link_is, link_inside, read_name, read_nullable, read_shape, source_first, source_next, source_lower}

-- two bits, each compared by itself, or both by the number that they make
bit_same : (x y : ℕ) → x < 2 → y < 2 → beq (eqb x 1) (eqb y 1) ≡ eqb x y
bit_same zero zero p q = refl
bit_same zero (suc zero) p q = refl
bit_same zero (suc (suc y)) p q = absurd (omega arith)
bit_same (suc zero) zero p q = refl
bit_same (suc zero) (suc zero) p q = refl
bit_same (suc zero) (suc (suc y)) p q = absurd (omega arith)
bit_same (suc (suc x)) y p q = absurd (omega arith)

pair_same : (x y z w : ℕ) → x < 2 → y < 2 → eqb (x + 2 * z) (y + 2 * w) ≡ (eqb x y && eqb z w)
pair_same x y z w hx hy = go (eqb x y) (eqb z w) refl refl
  where
    go : (p q : Bool) → eqb x y ≡ p → eqb z w ≡ q → eqb (x + 2 * z) (y + 2 * w) ≡ (p && q)
    go true true e f = eq-eqb (x + 2 * z) (y + 2 * w) (omega (arith, eqb-true x y e, eqb-true z w f))
    go true false e f = ne_eqb (x + 2 * z) (y + 2 * w) (λ k. eqb-false z w f (omega (arith, eqb-true x y e)))
    go false q e f = ne_eqb (x + 2 * z) (y + 2 * w) (λ k. eqb-false x y e (omega arith))

nullable_is : (g h : Head) → beq (nullable_in g) (nullable_in h) ≡ eqb (g.flags % 2) (h.flags % 2)
nullable_is g h = bit_same (g.flags % 2) (h.flags % 2) (omega arith) (omega arith)

bits_is : (g h : Head) → (beq (sorted_in g) (sorted_in h) && beq (zoned_in g) (zoned_in h)) ≡ eqb (g.flags / 2 % 4) (h.flags / 2 % 4)
bits_is g h =
    let x = g.flags / 2 % 2 in
    let y = h.flags / 2 % 2 in
    let z = g.flags / 4 % 2 in
    let w = h.flags / 4 % 2 in
    let p : x + 2 * z ≡ g.flags / 2 % 4 = omega arith in
    let q : y + 2 * w ≡ h.flags / 2 % 4 = omega arith in
    ap₂ ◌&&◌ (bit_same x y (omega arith) (omega arith)) (bit_same z w (omega arith) (omega arith))
    ∙ sym (pair_same x y z w (omega arith) (omega arith))
    ∙ ap₂ eqb p q

and_none : (p q r : Bool) → (p && (q && false)) ≡ ((q && false) && r)
and_none false false r = refl
and_none false true r = refl
and_none true false r = refl
and_none true true r = refl

-- the sizes, the sorted bits and the zones of two records
content_is : (b z w : Bool) (u v : List ℕ) (x y : ℕ)
    → (eqb (cond z 0 x) (cond w 0 y) && (b && (same_zone (cond z (present u) absent) (cond w (present v) absent) && true)))
    ≡ ((b && beq z w) && cond z (same_bytes u v) (eqb x y))
unfolding same_zone
content_is b true true u v x y = ap (λ (l : Bool). b && l) (and_true (same_bytes u v)) ∙ ap (λ (c : Bool). c && same_bytes u v) (sym (and_true b))
content_is b true false u v x y = and_none (eqb 0 y) b (same_bytes u v)
content_is b false true u v x y = and_none (eqb x 0) b (eqb x y)
content_is b false false u v x y = go (eqb x y) b
  where
    go : (p q : Bool) → (p && (q && true)) ≡ ((q && true) && p)
    go false false = refl
    go false true = refl
    go true false = refl
    go true true = refl

-- two shapes, by the tests of the code
pub shape_is : (s : List ℕ) (n : ℕ) (g : Head) (t : List ℕ) (m : ℕ) (h : Head)
    → same_shape (shape_of s n g) (shape_of t m h) ≡ (same_figures g h && same_content s n g t m h)
unfolding same_shape all_of
shape_is s n g t m h =
    go (eqb g.kind h.kind) (eqb g.figure h.figure) (eqb g.scale h.scale) (eqb (g.flags / 2 % 4) (h.flags / 2 % 4)) _
    (content_is (beq (sorted_in g) (sorted_in h)) (zoned_in g) (zoned_in h) (label_at s n (zone_at g) (zone_len g)) (label_at t m (zone_at h) (zone_len h)) g.bytes_4_7 h.bytes_4_7
    ∙ ap (λ (b : Bool). b && same_content s n g t m h) (bits_is g h))
  where
    go : (k f c b r : Bool) → r ≡ (b && same_content s n g t m h) → (k && (f && (c && r))) ≡ ((k && (f && (c && (b && true)))) && same_content s n g t m h)
    go false f c b r e = refl
    go true false c b r e = refl
    go true true false b r e = refl
    go true true true false r e = e
    go true true true true r e = e

-- the tests of two records but for their parts
abbrev pub own_same : Bool → List ℕ → ℕ → Head → List ℕ → ℕ → Head → Bool
own_same named s n g t m h =
    all_of
    (implies named (same_bytes (label_at s n g.name g.name_len) (label_at t m h.name h.name_len))
    ∷ beq (nullable_in g) (nullable_in h)
    ∷ same_shape (shape_of s n g) (shape_of t m h)
    ∷ [])

pub record_is : (named : Bool) (s : List ℕ) (n : ℕ) (g : Head) (t : List ℕ) (m : ℕ) (h : Head)
    → own_same named s n g t m h
    ≡ (same_figures g h
    && (eqb (g.flags % 2) (h.flags % 2)
    && (same_content s n g t m h && implies named (same_bytes (label_at s n g.name g.name_len) (label_at t m h.name h.name_len)))))
unfolding all_of
record_is named s n g t m h =
    rw (nullable_is g h, shape_is s n g t m h)
    (go (same_figures g h) (eqb (g.flags % 2) (h.flags % 2)) (same_content s n g t m h) (implies named (same_bytes (label_at s n g.name g.name_len) (label_at t m h.name h.name_len))))
  where
    go : (f e x i : Bool) → (i && (e && ((f && x) && true))) ≡ (f && (e && (x && i)))
    go false false x false = refl
    go false false x true = refl
    go false true x false = refl
    go false true x true = refl
    go true false x false = refl
    go true false x true = refl
    go true true false false = refl
    go true true false true = refl
    go true true true false = refl
    go true true true true = refl

-- two chains of which the first is empty
module _ (s : List ℕ) (n floor i : ℕ) (t : List ℕ) (m j : ℕ) (named : Bool) (d : ℕ) (h : i ≤ floor) where
  pub fields_none : j ≡ 0 → DifferChains s n floor i t m j named d 0
  unfolding fields_differ
  fields_none z r o up a r' o' up' b x y = rw (source_none h x, source_none (omega arith) y)

  pub fields_longer : ¬ (j ≡ 0) → DifferChains s n floor i t m j named d d
  unfolding fields_differ
  fields_longer z r o up a r' o' up' end x y = absurd (z y.leads.is)
  fields_longer z r o up a r' o' up' (field name nullable shape parts rest) x y = rw (source_none h x)

pub fields_past : (s : List ℕ) (n floor i : ℕ) (t : List ℕ) (m j : ℕ) (named : Bool) (d v : ℕ) → floor < i → n ≤ i → DifferChains s n floor i t m j named d v
fields_past s n floor i t m j named d v lo hi r o up end r' o' up' b x y = absurd (omega (arith, x.leads.is))
fields_past s n floor i t m j named d v lo hi r o up (field name nullable shape parts rest) r' o' up' b x y = absurd (omega (arith, link_inside x))

pub fields_short : (s : List ℕ) (n floor i : ℕ) (t : List ℕ) (m j : ℕ) (named : Bool) (d : ℕ) → floor < i → j ≡ 0 → DifferChains s n floor i t m j named d d
unfolding fields_differ
fields_short s n floor i t m j named d lo e r o up end r' o' up' b x y = absurd (omega (arith, x.leads.is))
fields_short s n floor i t m j named d lo e r o up (field name nullable shape parts rest) r' o' up' b x y = rw (source_none (omega arith) y)

-- two records
module _ (s : List ℕ) (n floor i : ℕ) (t : List ℕ) (m j : ℕ) (named : Bool) (d : ℕ) (past : floor < i) (some : ¬ (j ≡ 0)) (g h : Head) (eg : g ≡ head_at s i) (eh : h ≡ head_at t j) where
  abbrev Claim : ℕ → Type 0
  Claim v = DifferChains s n floor i t m j named d v

  -- what is asked of two records is asked of their own tests, their parts and the rest
  both : (v : ℕ)
      → ((r o up : ℕ) (name : List ℕ) (nullable : Bool) (shape : Shape) (parts rest : Fields) (r' o' up' : ℕ) (name' : List ℕ) (nullable' : Bool) (shape' : Shape) (parts' rest' : Fields)
      → Source s n floor i r o up (field name nullable shape parts rest) → Source t m 0 j r' o' up' (field name' nullable' shape' parts' rest')
      → v ≡ fields_differ named d i (field name nullable shape parts rest) (field name' nullable' shape' parts' rest'))
      → Claim v
  both v f r o up end r' o' up' b x y = absurd (omega (arith, x.leads.is))
  both v f r o up (field name nullable shape parts rest) r' o' up' end x y = absurd (some y.leads.is)
  both v f r o up (field name nullable shape parts rest) r' o' up' (field name' nullable' shape' parts' rest') x y =
      f r o up name nullable shape parts rest r' o' up' name' nullable' shape' parts' rest' x y

  module _ {r o up : ℕ} {name : List ℕ} {nullable : Bool} {shape : Shape} {parts rest : Fields} {r' o' up' : ℕ} {name' : List ℕ} {nullable' : Bool} {shape' : Shape} {parts' rest' : Fields}
      (x : Source s n floor i r o up (field name nullable shape parts rest)) (y : Source t m 0 j r' o' up' (field name' nullable' shape' parts' rest')) where
    own_is : own_same named s n g t m h ≡ all_of (implies named (same_bytes name name') ∷ beq nullable nullable' ∷ same_shape shape shape' ∷ [])
    own_is =
        λ k.
        all_of
        (implies named (same_bytes (read_name x g eg k) (read_name y h eh k))
        ∷ beq (read_nullable x g eg k) (read_nullable y h eh k)
        ∷ same_shape (read_shape x g eg k) (read_shape y h eh k)
        ∷ [])

    whole_is : {v : Bool} {w u : ℕ} → v ≡ own_same named s n g t m h → w ≡ fields_differ named i g.first parts parts' → u ≡ fields_differ named d g.next rest rest'
        → cond v (first_of w u) i ≡ fields_differ named d i (field name nullable shape parts rest) (field name' nullable' shape' parts' rest')
    unfolding fields_differ
    whole_is e f k =
        let p : g.first ≡ link_to (i + 1) parts = (source_first x g eg).leads.is ∙ ap (λ (r : ℕ). link_to (r + 1) parts) (sym (link_is x)) in
        let q : g.next ≡ link_to (i + 1 + count parts) rest = (source_next x g eg).leads.is ∙ ap (λ (r : ℕ). link_to (r + 1 + count parts) rest) (sym (link_is x)) in
        ap₂ (λ (b : Bool) (l : ℕ). cond b l i) (e ∙ own_is)
        (ap₂ first_of (f ∙ from_link named i (i + 1) parts parts' p) (k ∙ from_link named d (i + 1 + count parts) rest rest' q))

  pub fields_own : {v : Bool} → v ≡ own_same named s n g t m h → v ≡ false → Claim i
  fields_own e z =
      both i (λ r o up name nullable shape parts rest r' o' up' name' nullable' shape' parts' rest' x y.
      rw z at (whole_is x y e refl refl))

  module _ {v : Bool} (e : v ≡ own_same named s n g t m h) (z : v ≡ true) where
    pub fields_parts : {w : ℕ}
        → DifferChains s n i g.first t m h.first named i w
        → ¬ (w ≡ 0) → Claim w
    fields_parts {w} f q =
        both w (λ r o up name nullable shape parts rest r' o' up' name' nullable' shape' parts' rest' x y.
        let k : eqb w 0 ≡ false = ne_eqb w 0 q in
        rw (z, k) at (whole_is x y e (f _ _ _ parts _ _ _ parts' (source_first x g eg) (source_lower 0 (omega arith) (source_first y h eh))) refl))

    pub fields_rest : {w u : ℕ}
        → DifferChains s n i g.first t m h.first named i w
        → w ≡ 0
        → DifferChains s n i g.next t m h.next named d u
        → Claim u
    fields_rest {w} {u} f q k =
        both u (λ r o up name nullable shape parts rest r' o' up' name' nullable' shape' parts' rest' x y.
        rw (z, q) at
        (whole_is x y e (f _ _ _ parts _ _ _ parts' (source_first x g eg) (source_lower 0 (omega arith) (source_first y h eh)))
        (k _ _ _ rest _ _ _ rest' (source_next x g eg) (source_lower 0 (omega arith) (source_next y h eh)))))

    -- two records have no parts
    pub fields_plain : {u : ℕ} → g.first + h.first ≡ 0
        → DifferChains s n i g.next t m h.next named d u
        → Claim u
    fields_plain q k = fields_rest (fields_none s n i g.first t m h.first named i (omega arith) (omega arith)) refl k

-- shapes of unlike kinds
pub shapes_unlike : (a b : Shape) → ¬ (a.kind ≡ b.kind) → same_shape a b ≡ false
unfolding same_shape
shapes_unlike a b ne = all_not _ 0 (ne_eqb a.kind b.kind ne)

-- two types, by their shapes and their parts
module _ (s : List ℕ) (n i : ℕ) (t : List ℕ) (m j : ℕ) (named : Bool) where
  module _ (g h : Head) (eg : g ≡ head_at s i) (eh : h ≡ head_at t j) {v : Bool} (ev : v ≡ same_shape (shape_of s n g) (shape_of t m h)) where
    pub types_differ : v ≡ false → DifferTypes s n i t m j named i
    unfolding type_differs
    types_differ z r o up name nullable shape parts rest r' o' up' name' nullable' shape' parts' rest' x y =
        let e : same_shape shape shape' ≡ false = sym (ap₂ same_shape (read_shape x g eg) (read_shape y h eh)) ∙ sym ev ∙ z in
        rw e

    pub types_parts : (w : ℕ) → v ≡ true
        → DifferChains s n i g.first t m h.first named i w
        → DifferTypes s n i t m j named w
    unfolding type_differs
    types_parts w z f r o up name nullable shape parts rest r' o' up' name' nullable' shape' parts' rest' x y =
        let e : same_shape shape shape' ≡ true = sym (ap₂ same_shape (read_shape x g eg) (read_shape y h eh)) ∙ sym ev ∙ z in
        let p : g.first ≡ link_to (i + 1) parts = (source_first x g eg).leads.is ∙ ap (λ (r : ℕ). link_to (r + 1) parts) (sym (link_is x)) in
        rw e
        (f _ _ _ parts _ _ _ parts' (source_first x g eg) (source_lower 0 (omega arith) (source_first y h eh))
        ∙ from_link named i (i + 1) parts parts' p)

    -- neither type has parts
    pub types_plain : v ≡ true → g.first + h.first ≡ 0 → DifferTypes s n i t m j named 0
    types_plain z q = types_parts 0 z (fields_none s n i g.first t m h.first named i (omega arith) (omega arith))

  -- two types that differ at no record are the same
  pub types_same : (e : ℕ) → DifferTypes s n i t m j named e → SameTypes s n i t m j named (eqb e 0)
  types_same e f r o up name nullable shape parts rest r' o' up' name' nullable' shape' parts' rest' x y =
      ap (λ (d : ℕ). eqb d 0) (f r o up name nullable shape parts rest r' o' up' name' nullable' shape' parts' rest' x y)
      ∙ type_same named i (type_of shape parts) (type_of shape' parts') (omega (arith, x.leads.is, x.leads.above))
