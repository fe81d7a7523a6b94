-- Two types that were merged, by one rule and by another. Assumes nothing.
use mathlib.Core.Path.{◌≡◌, refl, ap, sym, subst, ◌∙◌}
use mathlib.Core.Bool.{Bool, true, not}
use mathlib.Core.List.{List, [], ◌++◌}
use Rattle.std.specs.Prelude.{Option, None, Some}
use Rattle.std.proofs.lemmas.Option.{none-some}
use Prim.Native.Nat.{ℕ, ◌+◌, ◌<◌, ◌≤◌}
use native.Mathlib.Omega.{arith}
use lib.ListN.{length, replicate, length-append}
use Rattle.sheet.specs.Types.{Shape, Fields, field, zone_bytes, labels}
use Rattle.sheet.specs.Names.{names_differ}
use Rattle.sheet.specs.Head.{head_at}
use Rattle.sheet.specs.declared.Head.{Head}
use Rattle.coercion.specs.Data.{DataType, size, single}
use Rattle.coercion.specs.Answers.{coercion}
use Rattle.coercion.proofs.Shorter.{coercion_smaller, coercion_shorter}
use Rattle.sheet.proofs.Booleans.{all_at, all_cons, all_nil}
use Rattle.coercion.specs.Same.{same_type}
use Rattle.coercion.specs.declared.Rules.{Rules}
use Rattle.buffers.specs.Source.{SameTypes}
use Rattle.buffers.specs.Writes.{side}
use Rattle.buffers.specs.Region.{Room, Kept}
use Rattle.buffers.specs.Target.{letters, Means, CopiedType}
use Rattle.buffers.specs.Typed.{Chain, Typed, Merges}
use Rattle.buffers.specs.Differ.{type_differs, DifferTypes}
use Rattle.merge.specs.Known.{Differs}
use Rattle.merge.specs.Merge.{Tabled, MergesKnown, MergesHinted}
use Rattle.buffers.specs.declared.Space.{Space}
use Rattle.buffers.specs.declared.Target.{Target}
use Rattle.buffers.specs.Written.{Written}
use Rattle.std.specs.Prelude.{Ok, Err}
use Rattle.buffers.specs.declared.Failure.TheVariants.{NoType, Full}
use Rattle.buffers.proofs.Sources.{source_lower}
use Rattle.buffers.proofs.Frames.{kept_self}
use Rattle.buffers.proofs.Copying.{held_side}
use Rattle.buffers.proofs.Laying.{named_kept}
use Rattle.buffers.proofs.Fielding.{typed_reads}
use Rattle.buffers.proofs.Stamping.{means_more}
use Rattle.partners.proofs.Partnering.{partners_zeros, partners_kept}
use Rattle.wrappers.specs.Ways.{Hint}
use Rattle.wrappers.proofs.Values.{side_twice}

-- what a source holds stays while the second half is written
pub chain_side : (swap : Bool) (space : Space) (s w v : List ℕ) (at label : ℕ) {link : ℕ} {t : Fields} → Room w space → Kept space w v at label → Chain space (side swap s w) link t
    → Chain space (side swap s v) link t
chain_side swap space s w v at label room k a =
    record { floor = a.floor; at = a.at; label = a.label; up = a.up; held = held_side swap space s w v at label room.half k a.held }

pub typed_side : (swap : Bool) (space : Space) (s w v : List ℕ) (at label : ℕ) {link : ℕ} {t : DataType} → Room w space → Kept space w v at label → Typed space (side swap s w) link t
    → Typed space (side swap s v) link t
typed_side swap space s w v at label room k a =
    record { name = a.name; nullable = a.nullable; rest = a.rest; chain = chain_side swap space s w v at label room k a.chain }

-- a table of partners that says nothing
pub tabled_zeros : {space : Space} {s w : List ℕ} (m : ℕ) → Tabled space s w (replicate m 0)
tabled_zeros {space} {s} {w} m = record { partners = partners_zeros space s w m }

-- a table of partners stays true while the second half is written
pub tabled_over : {space : Space} {u s w v : List ℕ} {at label : ℕ} {table : List ℕ} → Room u space → Kept space w v at label → Tabled space s w table → Tabled space s v table
tabled_over {space} {u} {s} {w} {v} {at} {label} {table} room k p = record { partners = partners_kept space s w v at label table room.half k p.partners }

-- the kind of a type
pub typed_kind : {space : Space} {s : List ℕ} {link : ℕ} {t : DataType} (h : Head) → h ≡ head_at s link → Typed space s link t → h.kind ≡ t.shape.kind
typed_kind h e a = sym (typed_reads a e).kind

-- two types that were compared
pub typed_same : {space : Space} {s t : List ℕ} {i j : ℕ} (named : Bool) {e : Bool} {x y : DataType} → SameTypes s space.n i t space.n j named e → Typed space s i x → Typed space t j y
    → e ≡ same_type named x y
typed_same named f a b =
    f _ _ _ _ _ _ _ _ _ _ _ _ _ _ _ _ (source_lower 0 (omega arith) a.chain.held.source) (source_lower 0 (omega arith) b.chain.held.source)

-- two types of which the record at which they first differ was sought
pub typed_differs : {space : Space} {s t : List ℕ} {i j : ℕ} (named : Bool) {e : ℕ} {x y : DataType} → DifferTypes s space.n i t space.n j named e → Typed space s i x → Typed space t j y
    → e ≡ type_differs named i x y
typed_differs named f a b =
    f _ _ _ _ _ _ _ _ _ _ _ _ _ _ _ _ (source_lower 0 (omega arith) a.chain.held.source) (source_lower 0 (omega arith) b.chain.held.source)

-- the same meaning, for more room
pub means_for : (space : Space) (w v : List ℕ) (g : Target) {z y : ℕ} (z' y' : ℕ) (o : Written) {m m' : Option DataType} → z ≤ z' → y ≤ y' → m ≡ m' → Means space w v g z y o m
    → Means space w v g z' y' o m'
means_for space w v g {z} {y} z' y' o {m} p q e a = subst (Means space w v g z' y' o) e (means_more space w v g z y z' y' o m p q a)

-- what is said of a goal after something else was written at it: the name there stood there before
pub means_after : (space : Space) (w v u : List ℕ) (g : Target) (z y : ℕ) (o : Written) (m : Option DataType) → Kept space w v g.at (g.label + g.name_len) → Means space v u g z y o m → Means space w u g z y o m
means_after space w v u g z y (Ok d) None k a = absurd a
means_after space w v u g z y (Ok d) (Some t) k a = λ name nm. a name (named_kept space w v g.at (g.label + g.name_len) g (omega arith) k nm)
means_after space w v u g z y (Err NoType) None k a = tt
means_after space w v u g z y (Err NoType) (Some t) k a = absurd a
means_after space w v u g z y (Err Full) m k a = a

-- a link to a field is not 0
pub chain_some : {space : Space} {s : List ℕ} {link : ℕ} {name : List ℕ} {nullable : Bool} {shape : Shape} {parts rest : Fields} → Chain space s link (field name nullable shape parts rest) → 0 < link
chain_some a = omega (arith, a.held.source.leads.is, a.held.source.leads.above)

-- nothing is known of two types
pub nothing_known : (named : Bool) (l : ℕ) (x y : DataType) → Differs None named l x y
nothing_known named l x y d e = absurd (none-some d e)

-- two types of which something may be known, and of which nothing is
pub any_known : (known : Option ℕ) {named : Bool} {A : DataType → DataType → Option DataType} {space : Space} {left : ℕ} (swap : Bool) {s w v : List ℕ} {l r : ℕ} {g : Target} {o : Written}
    → Merges A space left swap s w v l r g o → MergesKnown known named A space left swap s w v l r g o
any_known known swap m = record { writes = m.writes; means = λ x y a b q d. m.means x y a b q }

pub none_known : {named : Bool} {A : DataType → DataType → Option DataType} {space : Space} {left : ℕ} (swap : Bool) {s w v : List ℕ} {l r : ℕ} {g : Target} {o : Written}
    → MergesKnown None named A space left swap s w v l r g o → Merges A space left swap s w v l r g o
none_known {named} swap {l = l} m = record { writes = m.writes; means = λ x y a b q. m.means x y a b q (nothing_known named l x y) }

-- two types of whose wrappers something may be known, and of whose nothing is
pub any_hint : (hint mask : ℕ) {known : Option ℕ} {named : Bool} {A : DataType → DataType → Option DataType} {space : Space} {left : ℕ} (swap : Bool) {s w v : List ℕ} {l r : ℕ} {g : Target} {o : Written}
    → MergesKnown known named A space left swap s w v l r g o → MergesHinted hint mask known named A space left swap s w v l r g o
any_hint hint mask swap m = record { writes = m.writes; means = λ x y a b q d n. m.means x y a b q d }

pub none_hint : {mask : ℕ} {known : Option ℕ} {named : Bool} {A : DataType → DataType → Option DataType} {space : Space} {left : ℕ} (swap : Bool) {s w v : List ℕ} {l r : ℕ} {g : Target} {o : Written}
    → MergesHinted 0 mask known named A space left swap s w v l r g o → MergesKnown known named A space left swap s w v l r g o
none_hint swap m = record { writes = m.writes; means = λ x y a b q d. m.means x y a b q d (λ n. absurd (n refl)) }

module _ {A : DataType → DataType → Option DataType} (B : DataType → DataType → Option DataType) (space : Space) (swap : Bool) (s w v : List ℕ) (l r : ℕ) (g : Target) (o : Written) where
  -- a rule that says the same of the types at hand, of which as much is known, where no more records are left in them
  pub hinted_within : {hint mask : ℕ} {known : Option ℕ} (known' : Option ℕ) {named : Bool} {left : ℕ} (left' : ℕ) → left' ≤ left
      → ((x y : DataType) → Typed space (side swap s w) l x → Typed space (side (not swap) s w) r y → size x + size y ≤ left' → Differs known' named l x y → Hint hint mask x y
      → (A x y ≡ B x y) × Differs known named l x y)
      → MergesHinted hint mask known named A space left swap s w v l r g o → MergesHinted hint mask known' named B space left' swap s w v l r g o
  hinted_within known' left' h f m =
      record {
        writes = m.writes;
        means =
            λ x y a b q d n.
            let i = f x y a b q d n in
            means_for space w v g (size x + size y) (letters x + letters y) o (omega arith) (omega arith) i.0 (m.means x y a b (omega arith) i.1 n);
      }

  pub known_as : {known : Option ℕ} (known' : Option ℕ) {named : Bool} {left : ℕ} (left' : ℕ) → left' ≤ left
      → ((x y : DataType) → Typed space (side swap s w) l x → Typed space (side (not swap) s w) r y → Differs known' named l x y → (A x y ≡ B x y) × Differs known named l x y)
      → MergesKnown known named A space left swap s w v l r g o → MergesKnown known' named B space left' swap s w v l r g o
  known_as known' left' h f m = none_hint {mask = 0} swap (hinted_within known' left' h (λ x y a b q d n. f x y a b d) (any_hint 0 0 swap m))

  pub as_known : (known : Option ℕ) {named : Bool} {left : ℕ} (left' : ℕ) → left' ≤ left
      → ((x y : DataType) → Typed space (side swap s w) l x → Typed space (side (not swap) s w) r y → Differs known named l x y → A x y ≡ B x y)
      → Merges A space left swap s w v l r g o → MergesKnown known named B space left' swap s w v l r g o
  as_known known {named} left' h f m = known_as {known = None} known left' h (λ x y a b d. (f x y a b d, nothing_known named l x y)) (any_known None swap m)

  -- the sides exchanged
  pub merges_swapped : (left : ℕ) → ((x y : DataType) → Typed space (side swap s w) l x → Typed space (side (not swap) s w) r y → A y x ≡ B x y)
      → Merges A space left (not swap) s w v r l g o → Merges B space left swap s w v l r g o
  merges_swapped left f m =
      record {
        writes = m.writes;
        means =
            λ x y a b q.
            means_for space w v g (size x + size y) (letters x + letters y) o (omega arith) (omega arith) (f x y a b)
            (m.means y x b (subst (λ (u : List ℕ). Typed space u l x) (sym (side_twice swap s w)) a) (omega arith));
      }

module _ (B : DataType → DataType → Option DataType) (space : Space) (left : ℕ) (swap : Bool) (s w : List ℕ) (l r : ℕ) (g : Target) where
  -- the left type as it is
  pub merges_left : (v : List ℕ) (o : Written) → ((x y : DataType) → Typed space (side swap s w) l x → Typed space (side (not swap) s w) r y → Some x ≡ B x y)
      → CopiedType space (side swap s w) w v l g o → Merges B space left swap s w v l r g o
  merges_left v o f c =
      record {
        writes = c.writes;
        means =
            λ x y a b q.
            means_for space w v g (size x + size y) (letters x + letters y) o (omega arith) (omega arith) (f x y a b)
            (c.means a.chain.floor a.chain.at a.chain.label a.chain.up a.name a.nullable x.shape x.parts a.rest a.chain.held);
      }

  -- the right type as it is
  pub merges_right : (v : List ℕ) (o : Written) → ((x y : DataType) → Typed space (side swap s w) l x → Typed space (side (not swap) s w) r y → Some y ≡ B x y)
      → CopiedType space (side (not swap) s w) w v r g o → Merges B space left swap s w v l r g o
  merges_right v o f c =
      record {
        writes = c.writes;
        means =
            λ x y a b q.
            means_for space w v g (size x + size y) (letters x + letters y) o (omega arith) (omega arith) (f x y a b)
            (c.means b.chain.floor b.chain.at b.chain.label b.chain.up b.name b.nullable y.shape y.parts b.rest b.chain.held);
      }

  -- no common type
  pub known_none : (known : Option ℕ) (named : Bool) → ((x y : DataType) → Typed space (side swap s w) l x → Typed space (side (not swap) s w) r y → size x + size y ≤ left
      → Differs known named l x y → None ≡ B x y) → MergesKnown known named B space left swap s w w l r g (Err NoType)
  known_none known named f =
      record {
        writes = record { kept = kept_self w g.at (g.label + g.name_len); passes = tt };
        means = λ x y a b q d. subst (Means space w w g (size x + size y) (letters x + letters y) (Err NoType)) (f x y a b q d) tt;
      }

  pub merges_none : ((x y : DataType) → Typed space (side swap s w) l x → Typed space (side (not swap) s w) r y → size x + size y ≤ left → None ≡ B x y)
      → Merges B space left swap s w w l r g (Err NoType)
  merges_none f = none_known swap (known_none None true (λ x y a b q d. f x y a b q))

-- names within a type differ
pub type_differ : {space : Space} {s : List ℕ} {link : ℕ} (t : DataType) → Typed space s link t → names_differ (single t) ≡ true
unfolding names_differ
type_differ t a = let d = a.chain.held.differ in all_cons _ (all_at _ 0 d) (all_cons _ (all_at _ 1 d) (all_cons _ refl all_nil))

pub single_letters : (t : DataType) → length (labels (single t)) ≡ letters t
unfolding labels
single_letters t = length-append (zone_bytes t.shape.zone) (labels t.parts ++ []) ∙ ap (λ (k : ℕ). length (zone_bytes t.shape.zone) + k) (length-append (labels t.parts) [] ∙ omega arith)

-- the common type takes no more than both
pub common_fits : {space : Space} {s u : List ℕ} {i j : ℕ} (rules : Rules) {x y : DataType} (t : DataType) → Typed space s i x → Typed space u j y → coercion rules x y ≡ Some t
    → (size t ≤ size x + size y) × (letters t ≤ letters x + letters y)
common_fits rules {x} {y} t a b e =
    let p = coercion_smaller rules x y t (type_differ x a) (type_differ y b) e in
    let q = coercion_shorter rules x y t (type_differ x a) (type_differ y b) e in
    (omega arith, omega (arith, single_letters t, single_letters x, single_letters y))
