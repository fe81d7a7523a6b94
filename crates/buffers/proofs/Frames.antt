-- What stands in bytes stands in others that agree with them. Assumes nothing.
use mathlib.Core.Path.{◌≡◌, refl, ap, ap₂, sym, ◌∙◌}
use mathlib.Core.Bool.{Bool, true, false, cond}
use mathlib.Core.List.{List, [], ◌∷◌, ◌++◌}
use Prim.Native.Nat.{ℕ, ◌+◌, ◌*◌, ◌-◌, ◌/◌, ◌<◌, ◌≤◌}
use native.Mathlib.Omega.{arith}
use lib.ListN.{length, get_or, drop, length-append, length-drop}
use lib.Seq.{get_or-drop}
use lib.Dec.{ltb}
use borrow.Author.Tests.{ltb-true}
use Rattle.sheet.specs.Booleans.{between}
use Rattle.sheet.specs.Kind.{is_kind}
use Rattle.sheet.specs.Types.{Shape, Fields, end, field, count, own_labels, labels}
use Rattle.sheet.specs.Head.{head_at, head_from, blank}
use Rattle.sheet.specs.Holds.{Span, Stands, Holds}
use Rattle.sheet.specs.declared.Head.{Head}
use Rattle.sheet.proofs.Spans.{at_eq, at_span, span_at, span_inside, span_nil}
use Rattle.buffers.specs.Region.{region, Kept, Held}
use Rattle.buffers.specs.declared.Space.{Space}

-- the same bytes from i up to e
abbrev pub Agree : List ℕ → List ℕ → ℕ → ℕ → Type 0
Agree w v i e = (j : ℕ) → i ≤ j → j < e → get_or v j 0 ≡ get_or w j 0

pub span_frame : {w : List ℕ} (v : List ℕ) {i : ℕ} (u : List ℕ) → length v ≡ length w → Agree w v i (i + length u) → Span w i u → Span v i u
span_frame v [] l f a = span_nil
span_frame {w} v {i} (b ∷ bs) l f a =
    at_span v i (b ∷ bs) (omega (arith, span_inside (omega arith) a)) (λ j q. f (i + j) (omega arith) (omega arith) ∙ span_at j q a)

-- the sixteen bytes of record r of w stand as record q of v
pub head_moved : (w v : List ℕ) (r q : ℕ) → ((k : ℕ) → k < 16 → get_or v (16 * q + k) 0 ≡ get_or w (16 * r + k) 0) → head_from v (16 * q) ≡ head_from w (16 * r)
head_moved w v r q f =
    λ i.
    record {
      kind = at (16 * q) (16 * r) 0 (omega arith) (omega arith) (omega arith) i;
      flags = f 1 (omega arith) i;
      figure = f 2 (omega arith) i;
      scale = f 3 (omega arith) i;
      bytes_4_7 = ap₂ (λ (a b : ℕ). a + 65536 * b) (word 4 (omega arith)) high i;
      first = word 8 (omega arith) i;
      next = word 10 (omega arith) i;
      name = word 12 (omega arith) i;
      name_len = f 14 (omega arith) i;
      byte_15 = f 15 (omega arith) i;
    }
  where
    at : (i j k : ℕ) → i ≡ 16 * q + k → j ≡ 16 * r + k → k < 16 → get_or v i 0 ≡ get_or w j 0
    at i j k a b h = at_eq v a ∙ f k h ∙ sym (at_eq w b)

    word : (k : ℕ) → k < 15 → get_or v (16 * q + k) 0 + 256 * get_or v (16 * q + k + 1) 0 ≡ get_or w (16 * r + k) 0 + 256 * get_or w (16 * r + k + 1) 0
    word k h = ap₂ (λ (a b : ℕ). a + 256 * b) (f k (omega arith)) (at (16 * q + k + 1) (16 * r + k + 1) (k + 1) (omega arith) (omega arith) (omega arith))

    high : get_or v (16 * q + 4 + 2) 0 + 256 * get_or v (16 * q + 4 + 2 + 1) 0 ≡ get_or w (16 * r + 4 + 2) 0 + 256 * get_or w (16 * r + 4 + 2 + 1) 0
    high = ap₂ (λ (a b : ℕ). a + 256 * b) (at (16 * q + 4 + 2) (16 * r + 4 + 2) 6 (omega arith) (omega arith) (omega arith)) (at (16 * q + 4 + 2 + 1) (16 * r + 4 + 2 + 1) 7 (omega arith) (omega arith) (omega arith))

pub head_bytes : (w v : List ℕ) (r : ℕ) → Agree w v (16 * r) (16 * r + 16) → head_from v (16 * r) ≡ head_from w (16 * r)
head_bytes w v r f = head_moved w v r r (λ k q. f (16 * r + k) (omega arith) (omega arith))

pub head_frame : (w v : List ℕ) (r : ℕ) → length v ≡ length w → Agree w v (16 * r) (16 * r + 16) → head_at v r ≡ head_at w r
unfolding head_at
head_frame w v r l f =
    ap (λ (k : ℕ). cond (ltb r (k / 16)) (head_from v (16 * r)) blank) l ∙ ap (λ (h : Head). cond (ltb r (length w / 16)) h blank) (head_bytes w v r f)

-- a record that has a kind lies inside
pub record_inside : (s : List ℕ) (r : ℕ) (k : ℕ) → (head_at s r).kind ≡ k → is_kind k ≡ true → 16 * r + 16 ≤ length s
unfolding head_at is_kind between
record_inside s r k e q = go (ltb r (length s / 16)) refl e
  where
    go : (b : Bool) → ltb r (length s / 16) ≡ b → (cond b (head_from s (16 * r)) blank).kind ≡ k → 16 * r + 16 ≤ length s
    go true z p = omega (arith, ltb-true r (length s / 16) z)
    go false z p = let u = rw (sym p) at q in let y : ◌≡◌ {A = ℕ} 0 1 = cc in absurd (omega arith)

-- a chain stands where its records and its labels are the same
pub holds_frame : (w v : List ℕ) (n r o : ℕ) (t : Fields) → length v ≡ length w → Agree w v (16 * r) (16 * (r + count t)) → Agree w v (16 * n + o) (16 * n + (o + length (labels t)))
    → Holds w n r o t → Holds v n r o t
unfolding count labels
holds_frame w v n r o end l f g a = tt
holds_frame w v n r o (field name nullable shape parts rest) l f g a =
    let own = own_labels name shape in
    let e = length-append own (labels parts ++ labels rest) in
    let e' = length-append (labels parts) (labels rest) in (
      record {
        head = head_frame w v r l (λ j lo hi. f j lo (omega arith)) ∙ a.0.head;
        label = span_frame v own l (λ j lo hi. g j lo (omega arith)) a.0.label;
      },
      (
        holds_frame w v n (r + 1) (o + length own) parts l (λ j lo hi. f j (omega arith) (omega arith)) (λ j lo hi. g j (omega arith) (omega arith)) a.1.0,
        holds_frame w v n (r + 1 + count parts) (o + length own + length (labels parts)) rest l (λ j lo hi. f j (omega arith) (omega arith))
            (λ j lo hi. g j (omega arith) (omega arith)) a.1.1,
      ),
    )

-- a source in the first half stays
pub held_frame : (space : Space) (w v : List ℕ) (at label floor link r o up : ℕ) (t : Fields) → space.half ≡ 16 * space.n + space.m
    → Kept space w v at label → Held space w floor link r o up t → Held space v floor link r o up t
held_frame space w v at label floor link r o up t half k a =
    let l = a.source.leads in
    record {
      source =
          record {
            leads =
                record {
                  holds =
                      holds_frame w v space.n r o t k.long (λ j lo hi. k.below j (omega (arith, l.inside))) (λ j lo hi. k.below j (omega (arith, a.low))) l.holds;
                  is = l.is;
                  above = l.above;
                  inside = l.inside;
                };
            right = a.source.right;
            short = a.source.short;
          };
      low = a.low;
      differ = a.differ;
    }

-- what was written in the second half stays where later writes begin after it
pub wrote_frame : (space : Space) (w v : List ℕ) (at label r o : ℕ) (t : Fields) → r + count t ≤ at → o + length (labels t) ≤ label
    → Kept space w v at label → Holds (region space w) space.n r o t → Holds (region space v) space.n r o t
wrote_frame space w v at label r o t h g k a =
    holds_frame (drop space.half w) (drop space.half v) space.n r o t
    (length-drop space.half v ∙ ap (λ (x : ℕ). x - space.half) k.long ∙ sym (length-drop space.half w))
    (λ j lo hi. get_or-drop space.half v j 0 ∙ k.below (space.half + j) (omega arith) ∙ sym (get_or-drop space.half w j 0))
    (λ j lo hi. get_or-drop space.half v j 0 ∙ k.between (space.half + j) (omega arith) (omega arith) ∙ sym (get_or-drop space.half w j 0)) a

pub kept_trans : {space : Space} {w v u : List ℕ} {at label : ℕ} → Kept space w v at label → Kept space v u at label → Kept space w u at label
kept_trans a b =
    record {
      long = b.long ∙ a.long;
      below = λ j q. b.below j q ∙ a.below j q;
      between = λ j lo hi. b.between j lo hi ∙ a.between j lo hi;
      above = λ j q. b.above j q ∙ a.above j q;
    }

pub kept_wider : {space : Space} {w v : List ℕ} {at label : ℕ} (at' label' : ℕ) → at' ≤ at → label' ≤ label → Kept space w v at label → Kept space w v at' label'
kept_wider at' label' p q a =
    record {
      long = a.long;
      below = λ j h. a.below j (omega arith);
      between = λ j lo hi. a.between j lo (omega arith);
      above = a.above;
    }

pub kept_self : {space : Space} (w : List ℕ) (at label : ℕ) → Kept space w w at label
kept_self w at label = record { long = refl; below = λ j q. refl; between = λ j lo hi. refl; above = λ j q. refl }

-- a head of the second half stays where its bytes do
pub region_head : (space : Space) (w v : List ℕ) (r : ℕ) → length v ≡ length w → Agree w v (space.half + 16 * r) (space.half + 16 * r + 16)
    → head_at (region space v) r ≡ head_at (region space w) r
region_head space w v r l f =
    head_frame (drop space.half w) (drop space.half v) r
    (length-drop space.half v ∙ ap (λ (x : ℕ). x - space.half) l ∙ sym (length-drop space.half w))
    (λ j lo hi. get_or-drop space.half v j 0 ∙ f (space.half + j) (omega arith) (omega arith) ∙ sym (get_or-drop space.half w j 0))

-- a record of the second half stays
pub stands_frame : (space : Space) (w v : List ℕ) (at label r o : ℕ) {name : List ℕ} {nullable : Bool} {shape : Shape} {first next : ℕ} → r < at → o + length (own_labels name shape) ≤ label
    → Kept space w v at label → Stands (region space w) space.n r o name nullable shape first next → Stands (region space v) space.n r o name nullable shape first next
stands_frame space w v at label r o {name} {nullable} {shape} h g k a =
    record {
      head = region_head space w v r k.long (λ j lo hi. k.below j (omega arith)) ∙ a.head;
      label =
          span_frame {w = drop space.half w} (drop space.half v) (own_labels name shape)
          (length-drop space.half v ∙ ap (λ (x : ℕ). x - space.half) k.long ∙ sym (length-drop space.half w))
          (λ j lo hi. get_or-drop space.half v j 0 ∙ k.between (space.half + j) (omega arith) (omega arith) ∙ sym (get_or-drop space.half w j 0)) a.label;
    }
