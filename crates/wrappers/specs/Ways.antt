-- Wrappers, the core below them, and which of two rules can give an answer where a Dictionary meets run ends.
use Rattle.std.specs.Prelude.{◌≡◌, ℕ, Bool, true, false, cond, ◌||◌, List, [], ◌∷◌, eqb}
use Rattle.std.specs.Prelude.{Option, None, Some}
use Rattle.sheet.specs.declared.kind.TheConstants as Kind
use Rattle.sheet.specs.Kind.{is_wrapper}
use Rattle.sheet.specs.Types.{Shape, Fields, end, field}
use Rattle.coercion.specs.Data.{DataType, may_become}
use Rattle.coercion.specs.Wrappers.{value_in, is_of}

-- the kinds of the wrappers about a value, the outermost first
unfoldable pub wrappers_of : Shape → Fields → List ℕ
wrappers_of shape end = []
wrappers_of shape (field n b s p end) = []
wrappers_of shape (field n b s p (field n₂ b₂ s₂ p₂ rest)) = cond (is_wrapper shape.kind) (shape.kind ∷ wrappers_of s₂ p₂) []

-- the kind of the core, the value below all wrappers
unfoldable pub core_kind : Shape → Fields → ℕ
core_kind shape end = shape.kind
core_kind shape (field n b s p end) = shape.kind
core_kind shape (field n b s p (field n₂ b₂ s₂ p₂ rest)) = cond (is_wrapper shape.kind) (core_kind s₂ p₂) shape.kind

abbrev pub is_null_core : DataType → Bool
is_null_core t = eqb (core_kind t.shape t.parts) Kind.NULL

-- whether Null may become one of some kinds
abbrev pub allows : ℕ → List ℕ → Bool
allows mask [] = false
allows mask (k ∷ ks) = may_become mask k || allows mask ks

-- The wrappers ks stand about a value that Null may not become, ns about Null. Two of a kind come off together; of
-- two that differ, Null's comes off, which leaves the most of the others. In the end Null stands alone.
unfoldable pub meets : ℕ → List ℕ → List ℕ → Bool
meets mask ks [] = allows mask ks
meets mask [] (n ∷ ns) = false
meets mask (k ∷ ks) (n ∷ ns) = cond (eqb k n) (meets mask ks ns) (meets mask (k ∷ ks) ns)

-- a type whose core is not Null, and one whose core is
abbrev pub null_may : ℕ → DataType → DataType → Bool
null_may mask t n =
    may_become mask (core_kind t.shape t.parts) || meets mask (wrappers_of t.shape t.parts) (wrappers_of n.shape n.parts)

-- whether two types can have a common type, as far as wrappers and Nulls tell
unfoldable pub may_merge : ℕ → DataType → DataType → Bool
may_merge mask l r = cond (is_null_core l) (cond (is_null_core r) true (null_may mask r l)) (cond (is_null_core r) (null_may mask l r) true)

abbrev pub value_may : Option DataType → (DataType → Bool) → Bool
value_may None f = false
value_may (Some v) f = f v

-- a Dictionary and run ends: whether the rule for Dictionaries can give an answer
unfoldable pub dictionary_may : ℕ → DataType → DataType → Bool
dictionary_may mask l r =
    cond (is_of Kind.DICTIONARY l) (value_may (value_in l.parts) (λ v. may_merge mask v r)) (value_may (value_in r.parts) (λ w. may_merge mask l w))

-- What the kinds of two cores leave to be asked of the wrappers about them. 1: nothing, as neither is Null, or both
-- are, or Null may become the other. 2: Null is on the right, and whether the left's wrappers meet those about it. 3:
-- the same with the sides exchanged.
abbrev pub hint_of : ℕ → ℕ → ℕ → ℕ
hint_of mask a b = cond (eqb a Kind.NULL) (cond (eqb b Kind.NULL || may_become mask b) 1 3) (cond (eqb b Kind.NULL) (cond (may_become mask a) 1 2) 1)

-- what the wrappers answer
abbrev pub wrappers_may : ℕ → ℕ → DataType → DataType → Bool
wrappers_may hint mask l r =
    cond (eqb hint 2) (meets mask (wrappers_of l.shape l.parts) (wrappers_of r.shape r.parts))
    (cond (eqb hint 3) (meets mask (wrappers_of r.shape r.parts) (wrappers_of l.shape l.parts)) true)

-- what may be known of two types: nothing where the number is 0, else what their cores leave to be asked, and that
-- they can have a common type
abbrev pub Hint : ℕ → ℕ → DataType → DataType → Type 0
Hint hint mask l r = ¬ (hint ≡ 0) → (hint ≡ hint_of mask (core_kind l.shape l.parts) (core_kind r.shape r.parts)) × (may_merge mask l r ≡ true)

abbrev pub value_else : DataType → Option DataType → DataType
value_else t None = t
value_else t (Some v) = v

-- a type less its wrapper of a kind, or the type where it is none
abbrev pub without : ℕ → DataType → DataType
without k t = cond (is_of k t) (value_else t (value_in t.parts)) t
