-- A record that was written at a goal, and its parts after it. Assumes nothing.
use mathlib.Core.Path.{◌≡◌, refl, ap, ap₂, sym, subst, subst₂, ◌∙◌}
use mathlib.Core.Bool.{Bool, true, cond, not, ◌&&◌}
use mathlib.Core.List.{List, [], ◌++◌}
use mathlib.Core.Logic.{inl, inr, ⊎_elim}
use Rattle.std.specs.Prelude.{Option, None, Some}
use Prim.Native.Nat.{ℕ, ◌+◌, ◌<◌, ◌≤◌}
use native.Mathlib.Omega.{arith}
use lib.ListN.{length, length-append}
use lib.Dec.{eqb}
use borrow.Author.Tests.{eq-eqb, ne_eqb}
use Rattle.sheet.specs.Types.{Shape, Fields, end, field, count, zone_bytes, own_labels, labels}
use Rattle.sheet.specs.Head.{head_at, nullable_in, sorted_in}
use Rattle.sheet.specs.Encode.{link_to}
use Rattle.sheet.specs.Holds.{Stands, Holds}
use Rattle.sheet.specs.declared.Head.{Head}
use Rattle.coercion.specs.Data.{DataType, size, and_then}
use Rattle.coercion.specs.Nested.{join_fields, list_of, struct_coercion, entry_type, entry_of, map_shape}
use Rattle.coercion.proofs.Maybe.{If, if_then}
use Rattle.buffers.specs.Writes.{side}
use Rattle.buffers.specs.Region.{Room, region, Kept, Grows, Ready, Named, Passes, Wrote, CopiedHead}
use Rattle.buffers.specs.Target.{letters, place_of_target, field_for, Means, Writes, Laid, type_of, shape_for}
use Rattle.rule_order.specs.Order.{both_wrapped, map_rule}
use Rattle.buffers.specs.Typed.{Chain, Typed, Merges, ChainIs, target_at, NamedAt}
use Rattle.buffers.specs.Differ.{RowsKnown}
use Rattle.merge.specs.Known.{Differs, row_known}
use Rattle.merge.specs.Merge.{MergesKnown, MergesField, field_of, Rowed, Under}
use Rattle.buffers.specs.declared.Space.{Space}
use Rattle.buffers.specs.declared.Place.{Place}
use Rattle.buffers.specs.declared.Target.{Target}
use Rattle.partners.specs.declared.Feed.{Feed}
use Rattle.buffers.specs.Written.{Written}
use Rattle.std.specs.Prelude.{Ok, Err}
use Rattle.buffers.specs.declared.Failure.{Failure}
use Rattle.buffers.specs.declared.Failure.TheVariants.{NoType, Full}
use Rattle.buffers.proofs.Sources.{read_shape}
use Rattle.buffers.proofs.Frames.{stands_frame, kept_trans, kept_wider}
use Rattle.buffers.proofs.Chained.{labels_sum}
use Rattle.wrappers.proofs.Values.{chain_first}
use Rattle.partners.proofs.Known.{next_at_lem}
use Rattle.merge.proofs.Knowing.{parts_known, row_known_lem}
use Rattle.merge.proofs.Merging.{chain_side, typed_side, chain_some, nothing_known, means_for, any_known, merges_none}
use Rattle.buffers.proofs.Rows.{chain_end, chain_link, chain_typed, chain_nullable}
use Rattle.buffers.proofs.Fielding.{name_length_lem}

-- a record stands at a goal with a link to its parts, whose place is d
pub record Parent (space : Space) (w v : List ℕ) (g : Target) (shape : Shape) (link : ℕ) (d : Place) : Type 0 where
  pub at : d.at ≡ g.at + 1
  pub label : d.label ≡ g.label + g.name_len + length (zone_bytes shape.zone)
  pub stands : (name : List ℕ) → Named space w g name → Stands (region space v) space.n g.at g.label name g.nullable shape link 0

-- the place after a record without a zone
abbrev pub after : Target → Place
after g = record { at = g.at + 1; label = g.label + g.name_len }

pub parent_laid : {space : Space} {w v : List ℕ} {g : Target} {kind figure scale sz first : ℕ} {sorted : Bool} → Laid space w v g (shape_for kind figure scale sz sorted) first
    → Parent space w v g (shape_for kind figure scale sz sorted) first (after g)
parent_laid l = record { at = refl; label = omega arith; stands = l.stands }

pub parent_copied : {space : Space} {s w v : List ℕ} {h : Head} {link : ℕ} {g : Target} {d : Place} {name : List ℕ} {nullable : Bool} {shape : Shape} {parts rest : Fields}
    → h ≡ head_at s link → CopiedHead space s w v h link g 0 (Ok d) → Chain space s link (field name nullable shape parts rest)
    → Parent space w v g shape (link_to (g.at + 1) parts) d
parent_copied {name = name} {nullable} {shape} {parts} {rest} e c a =
    let m = c.means.1 a.floor a.at a.label a.up name nullable shape parts rest a.held e in
    record { at = c.means.0; label = m.0; stands = m.1 }

-- the record, and the chain of its parts
pub parent_wrote : {space : Space} {w v : List ℕ} (u : List ℕ) {g : Target} {shape : Shape} {link : ℕ} {d e : Place} (parts : Fields) → Parent space w v g shape link d
    → link ≡ link_to (g.at + 1) parts → Kept space v u d.at d.label → Wrote space u d e parts
    → (name : List ℕ) → Named space w g name → Wrote space u (place_of_target g) e (field_for g name (type_of shape parts))
unfolding count labels
parent_wrote {space} {w} {v} u {g} {shape} {link} {d} {e} parts p el k q name nm =
    let own = own_labels name shape in
    let l = length-append name (zone_bytes shape.zone) in
    let l₁ = length-append own (labels parts ++ []) in
    let l₂ = length-append (labels parts) [] in
    let ea : d.at ≡ g.at + 1 = p.at in
    let eb : d.label ≡ g.label + length own = omega (arith, p.label, nm.long) in
    record {
      records = omega (arith, q.records);
      letters = omega (arith, q.letters);
      holds = (
        stands_frame space v u d.at d.label g.at g.label (omega arith) (omega arith) k
            (subst (λ (i : ℕ). Stands (region space v) space.n g.at g.label name g.nullable shape i 0) el (p.stands name nm)),
        (subst₂ (λ (i j : ℕ). Holds (region space u) space.n i j parts) ea eb q.holds, tt),
      );
    }

-- the same of whatever an answer says of the parts
pub parent_means : {space : Space} {w v : List ℕ} (u : List ℕ) {g : Target} {shape : Shape} {link : ℕ} {d : Place} (z y : ℕ) (o : Written) (m : Option Fields)
    → Parent space w v g shape link d → If (λ parts. link ≡ link_to (g.at + 1) parts) m → Kept space v u d.at d.label → ChainIs space u d z y o m
    → Means space w u g (1 + z) (length (zone_bytes shape.zone) + y) o (list_of shape m)
parent_means u z y (Ok e) None p el k a = absurd a
parent_means u z y (Ok e) (Some parts) p el k a = parent_wrote u parts p el k a
parent_means u z y (Err NoType) None p el k a = tt
parent_means u z y (Err NoType) (Some parts) p el k a = absurd a
parent_means u z y (Err Full) m p el k a = ⊎_elim (λ i. inl (omega (arith, p.at))) (λ i. inr (omega (arith, p.label))) a

-- writes at a goal, and then after its record
pub kept_on : {space : Space} {w v u : List ℕ} (g : Target) {d : Place} → Kept space w v g.at (g.label + g.name_len) → Passes space g (Ok d) → Kept space v u d.at d.label
    → Kept space w u g.at (g.label + g.name_len)
kept_on g a p k = kept_trans a (kept_wider g.at (g.label + g.name_len) (omega (arith, p.1.0)) p.1.1 k)

pub writes_on : {space : Space} {w v u : List ℕ} (g : Target) {d : Place} (o : Written) → Kept space w v g.at (g.label + g.name_len) → Passes space g (Ok d)
    → Kept space v u d.at d.label → Grows space d o → Writes space w u g o
writes_on g (Ok e) a p k q =
    record { kept = kept_on g a p k; passes = (q.0, (omega (arith, p.1.0, q.1.0), omega (arith, p.1.1, q.1.1))) }
writes_on g (Err NoType) a p k q = record { kept = kept_on g a p k; passes = tt }
writes_on g (Err Full) a p k q = record { kept = kept_on g a p k; passes = tt }

pub after_passes : {space : Space} (g : Target) → Ready space g → g.at < space.n → Passes space g (Ok (after g))
after_passes g ready lt = (record { some = omega arith; records = omega arith; letters = ready.letters }, (omega arith, omega arith))

always : {A : Type 0} (o : Option A) → If (λ a. Unit {0}) o
always None = tt
always (Some a) = tt

-- a merged chain is empty where the left chain is
join_link : (c : DataType → DataType → Option DataType) (i : ℕ) (lf tf nf : Fields) → If (λ parts. link_to i lf ≡ link_to i parts) (join_fields c lf tf nf)
unfolding join_fields
join_link c i end end end = refl
join_link c i end end (field n₃ b₃ s₃ p₃ q₃) = tt
join_link c i end (field n₂ b₂ s₂ p₂ q₂) end = tt
join_link c i end (field n₂ b₂ s₂ p₂ q₂) (field n₃ b₃ s₃ p₃ q₃) = tt
join_link c i (field n₁ b₁ s₁ p₁ q₁) end end = tt
join_link c i (field n₁ b₁ s₁ p₁ q₁) end (field n₃ b₃ s₃ p₃ q₃) = tt
join_link c i (field n₁ b₁ s₁ p₁ q₁) (field n₂ b₂ s₂ p₂ q₂) end = tt
join_link c i (field n₁ b₁ s₁ p₁ q₁) (field n₂ b₂ s₂ p₂ q₂) (field n₃ b₃ s₃ p₃ q₃) =
    if_then (λ t. Unit) _ (c (record { shape = s₁; parts = p₁ }) (record { shape = s₂; parts = p₂ })) _ (always (c (record { shape = s₁; parts = p₁ }) (record { shape = s₂; parts = p₂ })))
    (λ t k. if_then (λ f. Unit) _ (join_fields c q₁ q₂ q₃) _ (always (join_fields c q₁ q₂ q₃)) (λ f k. refl))

-- the link to parts that follow their record
link_is : {space : Space} {s : List ℕ} {l : ℕ} (at : ℕ) (t : Fields) → Chain space s l t → cond (eqb l 0) 0 (at + 1) ≡ link_to (at + 1) t
link_is {l = l} at end a = rw (eq-eqb l 0 (chain_link refl a)) refl
link_is {l = l} at (field name nullable shape parts rest) a = rw (ne_eqb l 0 (λ e. omega (arith, chain_some a))) refl

-- the record of a type with parts, and the merged rows
module _ {known : Option ℕ} {named : Bool} (c : DataType → DataType → Option DataType) (space : Space) (left : ℕ) (swap : Bool) (s w : List ℕ) (feed : Feed) (l r p : ℕ) (g : Target) where
  pub under_on : (v u : List ℕ) (o : Written) {kind figure scale sz first : ℕ} {sorted : Bool} → Room w space → Ready space g → g.at < space.n → first ≡ cond (eqb l 0) 0 (g.at + 1)
      → Laid space w v g (shape_for kind figure scale sz sorted) first → Rowed known named c space left swap s v u feed l r p (after g) o
      → Under known named c space left swap s w u feed (shape_for kind figure scale sz sorted) l r p g o
  under_on v u o room ready lt e laid rows =
      record {
        writes = writes_on g o laid.kept (after_passes g ready lt) rows.kept rows.grows;
        means =
            λ lf rf pf tf nf a b q f h d.
            means_for space w u g (1 + count lf + count tf) (length (labels lf) + length (labels tf)) o (omega arith) (omega arith) refl
            (parent_means u _ _ o (join_fields c lf tf nf) (parent_laid laid) (linked lf tf nf (e ∙ link_is g.at lf a)) rows.kept
            (rows.means lf rf pf tf nf (over swap a) (over (not swap) b) (over (not swap) q) f h d));
      }
    where
      linked : {first : ℕ} (lf tf nf : Fields) → first ≡ link_to (g.at + 1) lf → If (λ parts. first ≡ link_to (g.at + 1) parts) (join_fields c lf tf nf)
      linked lf tf nf e = rw e (join_link c (g.at + 1) lf tf nf)

      over : (way : Bool) {i : ℕ} {t : Fields} → Chain space (side way s w) i t → Chain space (side way s v) i t
      over way a = chain_side way space s w v g.at (g.label + g.name_len) room laid.kept a

-- the record of the left did not fit
pub head_crowded : (B : DataType → DataType → Option DataType) (space : Space) (left : ℕ) (swap : Bool) (s w : List ℕ) (l r : ℕ) (g : Target) (h : Head) → h ≡ head_at (side swap s w) l
    → (v : List ℕ) → CopiedHead space (side swap s w) w v h l g 0 (Err Full) → Merges B space left swap s w v l r g (Err Full)
head_crowded B space left swap s w l r g h eh v m =
    record {
      writes = record { kept = m.kept; passes = tt };
      means =
          λ x y a b q.
          let d = a.chain in
          inr (omega (arith, m.means d.floor d.at d.label d.up a.name a.nullable x.shape x.parts a.rest d.held eh));
    }

pub head_stopped : (B : DataType → DataType → Option DataType) (space : Space) (left : ℕ) (swap : Bool) (s w : List ℕ) (l r : ℕ) (g : Target) (h : Head) → h ≡ head_at (side swap s w) l
    → (v : List ℕ) (f : Failure) → CopiedHead space (side swap s w) w v h l g 0 (Err f) → Merges B space left swap s w v l r g (Err f)
head_stopped B space left swap s w l r g h eh v NoType m = absurd m.means
head_stopped B space left swap s w l r g h eh v Full m = head_crowded B space left swap s w l r g h eh v m

-- two wrappers: the left's record was copied, and the parts of both were merged
module _ (known : Option ℕ) {named : Bool} (c : DataType → DataType → Option DataType) (space : Space) (left : ℕ) (swap : Bool) (s w : List ℕ) (l r : ℕ) (g : Target) (room : Room w space) (h k : Head)
    (eh : h ≡ head_at (side swap s w) l) (ek : k ≡ head_at (side (not swap) s w) r) (v : List ℕ) where
  pub both_on : (d : Place) (u : List ℕ) (o : Written) → CopiedHead space (side swap s w) w v h l g 0 (Ok d)
      → Rowed known named c space left swap s v u Feed.Own h.first k.first k.first d o → MergesKnown known named (both_wrapped c) space (left + 1) swap s w u l r g o
  both_on d u o m rows =
      record {
        writes = writes_on g o m.kept m.passes rows.kept rows.grows;
        means =
            λ x y a b q i.
            means_for space w u g (size x + size y) (letters x + letters y) o (omega arith) (omega arith) refl
            (parent_means u _ _ o (join_fields c x.parts y.parts x.parts) (parent_copied eh m a.chain) (join_link c (g.at + 1) x.parts y.parts x.parts) rows.kept
            (rows.means x.parts y.parts y.parts y.parts x.parts (over swap (chain_first h eh a.chain)) (over (not swap) (chain_first k ek b.chain))
            (over (not swap) (chain_first k ek b.chain)) (refl, refl) (omega arith) (parts_known known named x y a h eh i)));
      }
    where
      over : (way : Bool) {i : ℕ} {t : Fields} → Chain space (side way s w) i t → Chain space (side way s v) i t
      over way a = chain_side way space s w v g.at (g.label + g.name_len) room m.kept a

-- what was written at the goal of a field, from the field's place on
pub target_grows : (space : Space) (to : Place) (name_len : ℕ) (nullable : Bool) (o : Written) → Passes space (target_at to name_len nullable) o → Grows space to o
target_grows space to name_len nullable (Ok d) p = (p.0, (omega (arith, p.1.0), omega (arith, p.1.1)))
target_grows space to name_len nullable (Err NoType) p = tt
target_grows space to name_len nullable (Err Full) p = tt

-- what is said of a field by what is said of its type under its name
pub field_told : (space : Space) (v u : List ℕ) (to : Place) {name_len : ℕ} {own : Bool} {name : List ℕ} {nullable : Bool} (z y y' : ℕ) (o : Written) (t : Option DataType) → name_len ≡ length name → own ≡ nullable → length name + y ≤ y'
    → Named space v (target_at to name_len own) name → Means space v u (target_at to name_len own) z y o t → ChainIs space u to z y' o (field_of name nullable t)
field_told space v u to z y y' (Ok d) None en eb le nm a = absurd a
field_told space v u to {name = name} z y y' (Ok d) (Some t) en eb le nm a = subst (λ (b : Bool). Wrote space u to d (field name b t.shape t.parts end)) eb (a name nm)
field_told space v u to z y y' (Err NoType) None en eb le nm a = tt
field_told space v u to z y y' (Err NoType) (Some t) en eb le nm a = absurd a
field_told space v u to z y y' (Err Full) t en eb le nm a = ⊎_elim (λ i. inl (omega arith)) (λ i. inr (omega arith)) a

-- a field that was merged with a type: its name, and then its type
module _ (A : DataType → DataType → Option DataType) (space : Space) (left : ℕ) (swap : Bool) (s w : List ℕ) (l r : ℕ) (to : Place) (h : Head) (eh : h ≡ head_at (side swap s w) l)
    (v : List ℕ) (b : Bool) (named : NamedAt space (side swap s w) w v h to b) where
  field_merged : {known own-known : Option ℕ} {by_names : Bool}
      → ((name : List ℕ) (nullable : Bool) (x y : DataType) (rest : Fields) → Chain space (side swap s w) l (field name nullable x.shape x.parts rest) → (t : Typed space (side (not swap) s w) r y)
      → RowsKnown known by_names l (field name nullable x.shape x.parts rest) (field t.name t.nullable y.shape y.parts t.rest) → Differs own-known by_names l x y)
      → (u : List ℕ) (o : Written) (own : Bool) → Room w space → b ≡ true → own ≡ nullable_in h → MergesKnown own-known by_names A space left swap s v u l r (target_at to h.name_len own) o
      → MergesField known by_names A space left swap s w u l r to o
  field_merged told-known u o own room z eo m =
      record {
        kept = kept_trans named.kept (kept_wider to.at to.label (omega arith) (omega arith) m.writes.kept);
        grows = target_grows space to h.name_len own o m.writes.passes;
        means =
            λ name nullable x y rest a t q d.
            field_told space v u to (size x + size y) (letters x + letters y) (length name + letters x + letters y) o (A x y) (sym (name_length_lem a h eh)) (eo ∙ chain_nullable a h eh) (omega arith) (named.named z l name nullable own x.shape x.parts rest a eh)
            (m.means x y (chain_typed (chain_side swap space s w v to.at to.label room named.kept a)) (typed_side (not swap) space s w v to.at to.label room named.kept t) q
            (told-known name nullable x y rest a t d));
      }

  module _ {by_names : Bool} (u : List ℕ) (o : Written) (own : Bool) (room : Room w space) (z : b ≡ true) (eo : own ≡ nullable_in h) where
    -- nothing was known of its type
    pub field_alone : Merges A space left swap s v u l r (target_at to h.name_len own) o → MergesField None by_names A space left swap s w u l r to o
    field_alone m = field_merged (λ name nullable x y rest a t k. nothing_known by_names _ x y) u o own room z eo (any_known None swap m)

    -- what was known of its chain was handed down
    pub field_on : {known own-known : Option ℕ} → own-known ≡ row_known known l h.next r r → MergesKnown own-known by_names A space left swap s v u l r (target_at to h.name_len own) o
        → MergesField known by_names A space left swap s w u l r to o
    field_on {known} ek m =
        field_merged (λ name nullable x y rest a t k.
        subst (λ (i : Option ℕ). Differs i by_names l x y) (sym ek) (row_known_lem known by_names name nullable x.shape x.parts rest a h.next (next_at_lem a h eh) _ t.chain t k))
        u o own room z eo m

-- two maps
module _ (c : DataType → DataType → Option DataType) (space : Space) (left : ℕ) (swap : Bool) (s w : List ℕ) (l r : ℕ) (g : Target) (h k : Head)
    (eh : h ≡ head_at (side swap s w) l) (ek : k ≡ head_at (side (not swap) s w) r) where
  pub map_left_end : {known : Option ℕ} {by_names : Bool} → h.first ≡ 0 → MergesKnown known by_names (map_rule c) space left swap s w w l r g (Err NoType)
  map_left_end {known} z = any_known known swap (merges_none (map_rule c) space left swap s w l r g (λ x y a b q. go x y (chain_end z (chain_first h eh a.chain))))
    where
      go : (x y : DataType) → x.parts ≡ end → None ≡ map_rule c x y
      go x y e = rw e refl

  pub map_right_end : {known : Option ℕ} {by_names : Bool} → k.first ≡ 0 → MergesKnown known by_names (map_rule c) space left swap s w w l r g (Err NoType)
  map_right_end {known} z = any_known known swap (merges_none (map_rule c) space left swap s w l r g (λ x y a b q. go x.parts x y (chain_end z (chain_first k ek b.chain))))
    where
      go : (f : Fields) (x y : DataType) → y.parts ≡ end
          → ◌≡◌ {A = Option DataType} None (and_then (entry_type f) (λ a. and_then (entry_type y.parts)
          (λ b. and_then (struct_coercion c a b)
          (λ t. Some (record { shape = map_shape (x.shape.sorted && y.shape.sorted); parts = entry_of f t })))))
      go end x y e = refl
      go (field n b sh p q) x y e = rw e refl

  -- the sorted bits of both
  sorted_is : {space : Space} {s : List ℕ} {link : ℕ} {t : DataType} (h : Head) → h ≡ head_at s link → Typed space s link t → sorted_in h ≡ t.shape.sorted
  sorted_is h e a = ap (λ (sh : Shape). sh.sorted) (read_shape a.chain.held.source h e)

  module _ (room : Room w space) (ready : Ready space g) (lt : g.at < space.n) (v u : List ℕ) (o : Written) (sorted : Bool) (es : sorted ≡ (sorted_in h && sorted_in k))
      (some_left : ¬ (h.first ≡ 0)) (some_right : ¬ (k.first ≡ 0)) (laid : Laid space w v g (shape_for 36 0 0 0 sorted) (g.at + 1))
      (known : Option ℕ) (named : Bool) (m : MergesField known named (struct_coercion c) space left swap s v u h.first k.first (after g) o) where
    linked : (n : List ℕ) (b : Bool) (t : Option DataType) → If (λ parts. g.at + 1 ≡ link_to (g.at + 1) parts) (field_of n b t)
    linked n b None = tt
    linked n b (Some t) = refl

    shaped : (n : List ℕ) (b : Bool) {sx : Bool} (sh : Shape) (p q : Fields) (t : Option DataType) → sorted ≡ sx
        → list_of (shape_for 36 0 0 0 sorted) (field_of n b t)
        ≡ and_then t (λ t. Some (record { shape = map_shape sx; parts = entry_of (field n b sh p q) t }))
    shaped n b sh p q None e = refl
    shaped n b sh p q (Some t) e = rw e refl

    over : (way : Bool) {i : ℕ} {t : Fields} → Chain space (side way s w) i t → Chain space (side way s v) i t
    over way a = chain_side way space s w v g.at (g.label + g.name_len) room laid.kept a

    entries : {sx : Bool} (f f' : Fields) → sorted ≡ sx → Chain space (side swap s w) h.first f → Chain space (side (not swap) s w) k.first f'
        → 1 + count f + (1 + count f') ≤ left → RowsKnown known named h.first f f'
        → Means space w u g (1 + count f + (1 + count f')) (length (labels f) + length (labels f')) o
        (and_then (entry_type f) (λ a. and_then (entry_type f') (λ b. and_then (struct_coercion c a b) (λ t. Some (record { shape = map_shape sx; parts = entry_of f t })))))
    unfolding count
    entries end f' e a b q d = absurd (some_left (chain_link refl a))
    entries (field n nb sh p more) end e a b q d = absurd (some_right (chain_link refl b))
    entries (field n nb sh p more) (field n' nb' sh' p' more') e a b q d =
        let x = type_of sh p in
        let y = type_of sh' p' in
        let l₀ = labels_sum n nb sh p more in
        let l₁ = length-append n (zone_bytes sh.zone) in
        let l₂ = labels_sum n' nb' sh' p' more' in
        let l₃ = length-append n' (zone_bytes sh'.zone) in
        means_for space w u g _ _ o (omega arith) (omega arith) (shaped n nb sh p more (struct_coercion c x y) e)
        (parent_means u _ _ o (field_of n nb (struct_coercion c x y)) (parent_laid laid) (linked n nb (struct_coercion c x y)) m.kept
        (m.means n nb x y more (over swap a) (record { name = n'; nullable = nb'; rest = more'; chain = over (not swap) b }) (omega arith) d))

    pub map_on : MergesKnown known named (map_rule c) space left swap s w u l r g o
    map_on =
        record {
          writes = writes_on g o laid.kept (after_passes g ready lt) m.kept m.grows;
          means =
              λ x y a b q d.
              means_for space w u g (size x + size y) (letters x + letters y) o (omega arith) (omega arith) refl
              (entries x.parts y.parts (es ∙ ap₂ ◌&&◌ (sorted_is h eh a) (sorted_is k ek b)) (chain_first h eh a.chain) (chain_first k ek b.chain) q (parts_known known named x y a h eh d));
        }
