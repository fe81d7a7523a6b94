-- What a walk down the wrappers says, whatever types stand at its links, where no more than `left` records are left
-- in them.
use Rattle.std.specs.Prelude.{◌≡◌, ℕ, ◌+◌, ◌<◌, ◌≤◌, Bool, true, not, cond, ◌&&◌, ◌||◌, List}
use Rattle.std.specs.Prelude.{Option, None, Some, IfSome}
use Rattle.sheet.specs.declared.kind.TheConstants as Kind
use Rattle.coercion.specs.Data.{DataType, size}
use Rattle.coercion.specs.Wrappers.{is_of}
use Rattle.buffers.specs.Writes.{side}
use Rattle.buffers.specs.Typed.{Typed}
use Rattle.buffers.specs.declared.Space.{Space}
use Rattle.sheet.specs.Kind.{is_wrapper}
use Rattle.wrappers.specs.Ways.{core_kind, may_merge, dictionary_may, hint_of, Hint, without}
use Rattle.wrappers.specs.declared.walk.Choice.{Choice}

-- the kind of the core of a type
pub record Core (left : ℕ) (s : List ℕ) (l k : ℕ) : Type 0 where
  pub is : (space : Space) (x : DataType) → Typed space s l x → size x ≤ left → k ≡ core_kind x.shape x.parts
  pub low : k < 64

-- a test of one type
pub record Tells (test : DataType → Bool) (left : ℕ) (s : List ℕ) (l : ℕ) (b : Bool) : Type 0 where
  pub is : (space : Space) (x : DataType) → Typed space s l x → size x ≤ left → b ≡ test x

-- a test of two types, one on each side
pub record TellsBoth (test : DataType → DataType → Bool) (left : ℕ) (swap : Bool) (s w : List ℕ) (l r : ℕ) (b : Bool) : Type 0 where
  pub is : (space : Space) (x y : DataType) → Typed space (side swap s w) l x → Typed space (side (not swap) s w) r y → size x + size y ≤ left → b ≡ test x y

-- what the cores of two types leave to be asked, where something may be known of it; 0 where the types can have no
-- common type
pub record Learns (hint mask left : ℕ) (swap : Bool) (s w : List ℕ) (l r h : ℕ) : Type 0 where
  pub is : (space : Space) (x y : DataType) → Typed space (side swap s w) l x → Typed space (side (not swap) s w) r y → size x + size y ≤ left → Hint hint mask x y
      → h ≡ cond (may_merge mask x y) (hint_of mask (core_kind x.shape x.parts) (core_kind y.shape y.parts)) 0

-- a Dictionary on one side and run ends on the other
abbrev pub crosses : DataType → DataType → Bool
crosses l r = (is_of Kind.DICTIONARY l && is_of Kind.RUN_END_ENCODED r) || (is_of Kind.RUN_END_ENCODED l && is_of Kind.DICTIONARY r)

-- the wrapper whose rule is asked: it has the answer of the two rules in turn (proofs/Choosing.antt); 0 where neither
-- rule can give one, and run ends where neither type is a wrapper
unfoldable pub chosen_kind : ℕ → DataType → DataType → ℕ
chosen_kind mask l r =
    cond (crosses l r) (cond (may_merge mask l r) (cond (dictionary_may mask l r) Kind.DICTIONARY Kind.RUN_END_ENCODED) 0)
    (cond (is_of Kind.DICTIONARY l || is_of Kind.DICTIONARY r) Kind.DICTIONARY Kind.RUN_END_ENCODED)

-- the kind of a wrapper whose rule is asked, 0 for none, and what is known of the types that the rule goes on with
abbrev pub kind_in : Option Choice → ℕ
kind_in None = 0
kind_in (Some t) = t.kind

abbrev pub hint_in : Option Choice → ℕ
hint_in None = 0
hint_in (Some t) = t.hint

-- that wrapper, and what is known of the types that its rule goes on with
pub record Chosen (hint mask left : ℕ) (swap : Bool) (s w : List ℕ) (l r : ℕ) (t : Option Choice) : Type 0 where
  pub is : (space : Space) (x y : DataType) → Typed space (side swap s w) l x → Typed space (side (not swap) s w) r y → size x + size y ≤ left → Hint hint mask x y
      → kind_in t ≡ chosen_kind mask x y
  pub on : (space : Space) (x y : DataType) → Typed space (side swap s w) l x → Typed space (side (not swap) s w) r y → size x + size y ≤ left → Hint hint mask x y
      → Hint (hint_in t) mask (without (kind_in t) x) (without (kind_in t) y)
  pub wrapper : IfSome t (λ u. is_wrapper u.kind ≡ true)
