-- Where the core of a type stands: its record is the last of the type if it has no parts, and its labels are
-- the last. Assumes nothing.
use mathlib.Core.Path.{◌≡◌, refl, ap, sym, subst, ◌∙◌}
use mathlib.Core.Bool.{Bool, true, false}
use mathlib.Core.List.{List}
use Prim.Native.Nat.{ℕ, ◌+◌, ◌*◌, ◌≤◌}
use native.Mathlib.Omega.{arith}
use lib.ListN.{length}
use Rattle.sheet.specs.Types.{Shape, Fields, end, field, arity, count, own_labels, labels}
use Rattle.sheet.specs.Head.{head_at}
use Rattle.sheet.specs.Holds.{Holds}
use Rattle.coercion.specs.Data.{DataType}
use Rattle.buffers.specs.Target.{type_of}
use Rattle.buffers.specs.Region.{Held}
use Rattle.buffers.specs.declared.Space.{Space}
use Rattle.buffers.proofs.Frames.{Agree, span_frame, head_frame, holds_frame}
use Rattle.buffers.proofs.Chained.{labels_sum, held_first, held_next}
use Rattle.sheet.specs.Kind.{is_wrapper}
use Rattle.wrappers.proofs.Cores.{two_parts}
use Rattle.resolution.specs.Keeps.{core_of, with_core}
use Rattle.resolution.proofs.Keeping.{by_test, core_bare, core_wrap, with_bare, with_wrap}

-- a field with a type
abbrev pub with_type : List ℕ → Bool → DataType → Fields
with_type name nullable t = field name nullable t.shape t.parts end

-- where the core of a chain t of one field stands, and what the chain is with another core
pub record Tail (space : Space) (s : List ℕ) (r o : ℕ) (t : Fields) (core : DataType) (make : DataType → Fields) : Type 0 where
  pub name : List ℕ
  pub nullable : Bool
  pub floor : ℕ
  pub link : ℕ
  pub at : ℕ
  pub label : ℕ
  pub up : ℕ
  pub held : Held space s floor link at label up (with_type name nullable core)
  pub below : r ≤ at
  pub before : o ≤ label
  pub records : at + count (with_type name nullable core) ≡ r + count t
  pub letters : label + length (labels (with_type name nullable core)) ≡ o + length (labels t)
  pub many : (c : DataType) → r + count (make c) ≡ at + count (with_type name nullable c)
  pub long : (c : DataType) → o + length (labels (make c)) ≡ label + length (labels (with_type name nullable c))
  pub back : (v : List ℕ) (c : DataType) → length v ≡ length s → Agree s v (16 * r) (16 * at) → Agree s v (16 * space.n + o) (16 * space.n + label)
      → Holds v space.n at label (with_type name nullable c) → Holds v space.n r o (make c)

-- a type that is its own core
bare_tail : {space : Space} {s : List ℕ} {floor link r o up : ℕ} (name : List ℕ) (nullable : Bool) (shape : Shape) (parts : Fields)
    → Held space s floor link r o up (field name nullable shape parts end) → Tail space s r o (field name nullable shape parts end) (type_of shape parts) (with_type name nullable)
bare_tail {floor = floor} {link} {r} {o} {up} name nullable shape parts a =
    record {
      name = name;
      nullable = nullable;
      floor = floor;
      link = link;
      at = r;
      label = o;
      up = up;
      held = a;
      below = omega arith;
      before = omega arith;
      records = refl;
      letters = refl;
      many = λ c. refl;
      long = λ c. refl;
      back = λ v c l f g h. h;
    }

-- a wrapper, by its value
module _ {space : Space} {s : List ℕ} {floor link r o up : ℕ} {name : List ℕ} {nullable : Bool} {shape : Shape} {n : List ℕ} {b : Bool} {s₁ : Shape} {p : Fields} {n₂ : List ℕ} {b₂ : Bool} {s₂ : Shape}
    {p₂ : Fields} {core : DataType} (make : DataType → DataType) (a : Held space s floor link r o up (field name nullable shape (field n b s₁ p (field n₂ b₂ s₂ p₂ end)) end))
    (t : Tail space s (r + 1 + 1 + count p) (o + length (own_labels name shape) + length (own_labels n s₁) + length (labels p)) (field n₂ b₂ s₂ p₂ end) core (λ c. with_type n₂ b₂ (make c))) where
  wrap_tail : Tail space s r o (field name nullable shape (field n b s₁ p (field n₂ b₂ s₂ p₂ end)) end) core (λ c. field name nullable shape (field n b s₁ p (with_type n₂ b₂ (make c))) end)
  unfolding count labels
  wrap_tail =
      record {
        name = t.name;
        nullable = t.nullable;
        floor = t.floor;
        link = t.link;
        at = t.at;
        label = t.label;
        up = t.up;
        held = t.held;
        below = omega (arith, t.below);
        before = omega (arith, t.before);
        records = omega (arith, t.records);
        letters = omega (arith, t.letters, sum (type_of s₂ p₂));
        many = λ c. omega (arith, t.many c);
        long = λ c. omega (arith, t.long c, sum (make c));
        back = back;
      }
    where
      sum : (c : DataType) → length (labels (field name nullable shape (field n b s₁ p (with_type n₂ b₂ c)) end))
          ≡ length (own_labels name shape) + (length (own_labels n s₁) + (length (labels p) + length (labels (with_type n₂ b₂ c))))
      sum c = omega (arith, labels_sum name nullable shape (field n b s₁ p (with_type n₂ b₂ c)) end, labels_sum n b s₁ p (with_type n₂ b₂ c))

      back : (v : List ℕ) (c : DataType) → length v ≡ length s → Agree s v (16 * r) (16 * t.at) → Agree s v (16 * space.n + o) (16 * space.n + t.label)
          → Holds v space.n t.at t.label (with_type t.name t.nullable c) → Holds v space.n r o (field name nullable shape (field n b s₁ p (with_type n₂ b₂ (make c))) end)
      back v c l f g h =
          let k = a.source.leads.holds in (
            record {
              head = head_frame s v r l (λ j lo hi. f j (omega arith) (omega (arith, t.below))) ∙ k.0.head;
              label = span_frame {w = s} v (own_labels name shape) l (λ j lo hi. g j (omega arith) (omega (arith, t.before))) k.0.label;
            },
            (
              (
                record {
                  head = head_frame s v (r + 1) l (λ j lo hi. f j (omega arith) (omega (arith, t.below))) ∙ k.1.0.0.head;
                  label = span_frame {w = s} v (own_labels n s₁) l (λ j lo hi. g j (omega arith) (omega (arith, t.before))) k.1.0.0.label;
                },
                (
                  holds_frame s v space.n (r + 1 + 1) (o + length (own_labels name shape) + length (own_labels n s₁)) p l (λ j lo hi. f j (omega arith) (omega (arith, t.below)))
                      (λ j lo hi. g j (omega arith) (omega (arith, t.before))) k.1.0.1.0,
                  t.back v c l (λ j lo hi. f j (omega arith) hi) (λ j lo hi. g j (omega arith) hi) h,
                ),
              ),
              tt,
            ),
          )

-- the same of an equal core, and of equal chains
module _ {space : Space} {s : List ℕ} {r o : ℕ} {t : Fields} {core core' : DataType} {make make' : DataType → Fields} where
  retail : core ≡ core' → ((c : DataType) → make c ≡ make' c) → Tail space s r o t core make → Tail space s r o t core' make'
  retail p q a = subst (λ (k : DataType). Tail space s r o t k make') p (subst (λ (m : DataType → Fields). Tail space s r o t core m) (λ i c. q c i) a)

-- a type that is no wrapper
no_wrapper : {space : Space} {s : List ℕ} {floor link r o up : ℕ} (name : List ℕ) (nullable : Bool) (shape : Shape) (parts : Fields)
    → Held space s floor link r o up (field name nullable shape parts end) → is_wrapper shape.kind ≡ false
    → Tail space s r o (field name nullable shape parts end) (core_of shape parts) (λ c. with_type name nullable (with_core shape parts c))
no_wrapper name nullable shape parts a e =
    retail (sym (core_bare shape parts e)) (λ c. ap (with_type name nullable) (sym (with_bare shape parts c e))) (bare_tail name nullable shape parts a)

-- a type with two parts, by its value
module _ (space : Space) (s : List ℕ) {floor link r o up : ℕ} (name : List ℕ) (nullable : Bool) (shape : Shape) (n : List ℕ) (b : Bool) (s₁ : Shape) (p : Fields) (n₂ : List ℕ) (b₂ : Bool) (s₂ : Shape)
    (p₂ : Fields) (t : (floor link r o up : ℕ) → Held space s floor link r o up (field n₂ b₂ s₂ p₂ end)
    → Tail space s r o (field n₂ b₂ s₂ p₂ end) (core_of s₂ p₂) (λ c. with_type n₂ b₂ (with_core s₂ p₂ c))) where
  value_tail : Held space s floor link r o up (field name nullable shape (field n b s₁ p (field n₂ b₂ s₂ p₂ end)) end) → is_wrapper shape.kind ≡ true
      → Tail space s r o (field name nullable shape (field n b s₁ p (field n₂ b₂ s₂ p₂ end)) end) (core_of shape (field n b s₁ p (field n₂ b₂ s₂ p₂ end)))
      (λ c. with_type name nullable (with_core shape (field n b s₁ p (field n₂ b₂ s₂ p₂ end)) c))
  value_tail a e =
      let f = held_first a (head_at s link) refl in
      let parts = field n b s₁ p (field n₂ b₂ s₂ p₂ end) in
      retail (sym (core_wrap shape parts (type_of s₂ p₂) e refl)) (λ c. ap (with_type name nullable) (sym (with_wrap shape n b s₁ p n₂ b₂ s₂ p₂ c e)))
      (wrap_tail (with_core s₂ p₂) a (t _ _ _ _ _ (held_next f (head_at s (head_at s link).first) refl)))

  two_tail : (q : Fields) → Held space s floor link r o up (field name nullable shape (field n b s₁ p (field n₂ b₂ s₂ p₂ q)) end) → is_wrapper shape.kind ≡ true
      → Tail space s r o (field name nullable shape (field n b s₁ p (field n₂ b₂ s₂ p₂ q)) end) (core_of shape (field n b s₁ p (field n₂ b₂ s₂ p₂ q)))
      (λ c. with_type name nullable (with_core shape (field n b s₁ p (field n₂ b₂ s₂ p₂ q)) c))
  unfolding arity
  two_tail (field n₃ b₃ s₃ p₃ q) a e = absurd (omega (arith, two_parts _ _ e a.source.right.0.filled))
  two_tail end a e = value_tail a e

-- the core of a type that stands in bytes
pub tail : (space : Space) (s : List ℕ) (floor link r o up : ℕ) (name : List ℕ) (nullable : Bool) (shape : Shape) (parts : Fields)
    → Held space s floor link r o up (field name nullable shape parts end)
    → Tail space s r o (field name nullable shape parts end) (core_of shape parts) (λ c. with_type name nullable (with_core shape parts c))
unfolding arity
tail space s floor link r o up name nullable shape end a =
    by_test (is_wrapper shape.kind) (λ e. absurd (omega (arith, two_parts _ _ e a.source.right.0.filled))) (no_wrapper name nullable shape end a)
tail space s floor link r o up name nullable shape (field n b s₁ p end) a =
    by_test (is_wrapper shape.kind) (λ e. absurd (omega (arith, two_parts _ _ e a.source.right.0.filled))) (no_wrapper name nullable shape (field n b s₁ p end) a)
tail space s floor link r o up name nullable shape (field n b s₁ p (field n₂ b₂ s₂ p₂ q)) a =
    by_test (is_wrapper shape.kind)
    (two_tail space s name nullable shape n b s₁ p n₂ b₂ s₂ p₂ (λ floor link r o up h. tail space s floor link r o up n₂ b₂ s₂ p₂ h) q a)
    (no_wrapper name nullable shape (field n b s₁ p (field n₂ b₂ s₂ p₂ q)) a)
