-- Two structs that were merged, by name or by place. Assumes nothing.
use mathlib.Core.Path.{◌≡◌, refl, ap, ap₂, sym, subst, ◌∙◌}
use mathlib.Core.Bool.{Bool, true, false, cond, not, ◌&&◌}
use mathlib.Core.List.{List}
use Rattle.std.specs.Prelude.{Option, None, Some, unwrap_or}
use Rattle.std.proofs.lemmas.Option.{none-some, same_Some}
use Prim.Native.Nat.{ℕ, ◌+◌, ◌≤◌}
use native.Mathlib.Omega.{arith}
use lib.Dec.{eqb}
use borrow.Author.Tests.{eq-eqb, eqb-true, not-true}
use Rattle.sheet.specs.Types.{Fields, arity}
use Rattle.sheet.specs.Head.{head_at}
use Rattle.sheet.specs.Names.{repeats, names_differ}
use Rattle.sheet.specs.declared.Head.{Head}
use Rattle.sheet.proofs.Booleans.{all_at, and_fst, and_snd}
use Rattle.coercion.specs.Data.{DataType, size}
use Rattle.coercion.specs.Wrappers.{is_of}
use Rattle.coercion.specs.Nested.{join_fields, by_name, fields_have_same_names, partners, list_of, struct_of, struct_coercion}
use Rattle.coercion.specs.Answers.{list_struct}
use Rattle.buffers.specs.Writes.{side}
use Rattle.buffers.specs.Region.{Held}
use Rattle.buffers.specs.Target.{letters, Means, shape_for}
use Rattle.buffers.specs.Typed.{Chain, Typed}
use Rattle.buffers.specs.Differ.{RowsKnown}
use Rattle.partners.specs.Feeds.{Feeds}
use Rattle.partners.specs.Partners.{same_order}
use Rattle.merge.specs.Known.{Differs, known_names}
use Rattle.partners.specs.Naming.{structs_feed, StructsFed}
use Rattle.merge.specs.Merge.{MergesKnown, Under}
use Rattle.buffers.specs.declared.Space.{Space}
use Rattle.buffers.specs.declared.Target.{Target}
use Rattle.buffers.specs.Written.{Written}
use Rattle.std.specs.Prelude.{Err}
use Rattle.buffers.specs.declared.Failure.TheVariants.{NoType}
use Rattle.partners.specs.declared.Feed.{Feed}
use Rattle.buffers.proofs.Chained.{held_first}
use Rattle.wrappers.proofs.Values.{chain_first}
use Rattle.merge.proofs.Knowing.{names_known, parts_known}
use Rattle.merge.proofs.Merging.{means_for, any_known, merges_none, known_none}
use Rattle.partners.proofs.Naming.{Asks, same_arity, names_found, names_missing, by_name_fits, end_self, order_names, order_by_name}
use Rattle.buffers.proofs.Fielding.{typed_reads}

-- which fields feed those of a Struct in a union: the ones at their places where the names stand in one order,
-- and where they are not the same
abbrev pub struct_feed : Fields → Fields → Feed
struct_feed l r = cond (same_order l r) Feed.Place (cond (fields_have_same_names l r) Feed.Name Feed.Place)

-- the same of whatever chains stand at two links, where something may be known of their names
abbrev pub StructFed : Option ℕ → Space → List ℕ → List ℕ → ℕ → ℕ → ℕ → Feed → Type 0
StructFed known space s t floor l r feed =
    (a o up : ℕ) (lf rf : Fields) → Held space s floor l a o up lf → Chain space t r rf → RowsKnown known true l lf rf → feed ≡ struct_feed lf rf

-- the names of a Struct's fields differ
pub struct_differ : {space : Space} {s : List ℕ} {link : ℕ} {t : DataType} → t.shape.kind ≡ 35 → Typed space s link t → repeats t.parts ≡ false
unfolding names_differ
struct_differ {t = t} e a =
    not-true (repeats t.parts) (rw (eq-eqb t.shape.kind 35 e) at (all_at _ 0 a.chain.held.differ))

struct_list : (o : Option Fields) → list_of (shape_for 35 0 0 0 false) o ≡ struct_of o
struct_list None = refl
struct_list (Some fields) = refl

-- two Structs of one arity whose fields have the same names
struct_by_name : (c : DataType → DataType → Option DataType) (X Y : DataType) (tf : Fields) → (is_of 35 X && (is_of 35 Y && eqb (arity X.parts) (arity Y.parts))) ≡ true
    → fields_have_same_names X.parts Y.parts ≡ true → by_name X.parts Y.parts ≡ Some tf
    → list_of (shape_for 35 0 0 0 false) (join_fields c X.parts tf tf) ≡ struct_coercion c X Y
unfolding struct_coercion partners
struct_by_name c X Y tf k n f = struct_list (join_fields c X.parts tf tf) ∙ rw k (rw n (rw f refl))

-- what is said of the names of two Structs by what feeds the fields of one
module _ {space : Space} {s t : List ℕ} {floor l r : ℕ} where
  pub fed_or_placed : {known : Option ℕ} {o : Option Feed} {feed : Feed} → feed ≡ unwrap_or o Feed.Place → StructsFed known Feed.Name space s t floor l r o
      → StructFed known space s t floor l r feed
  fed_or_placed e f a o up lf rf h c d = e ∙ rw (f a o up lf rf h c d) (go (same_order lf rf) (fields_have_same_names lf rf))
    where
      go : (i j : Bool) → unwrap_or (cond i (Some Feed.Place) (cond j (Some Feed.Name) None)) Feed.Place ≡ cond i Feed.Place (cond j Feed.Name Feed.Place)
      go true j = refl
      go false true = refl
      go false false = refl

-- what no feed says of two tests
fed_none : (i j : Bool) → ◌≡◌ {A = Option Feed} None (cond i (Some Feed.Place) (cond j (Some Feed.NameThenPlace) None)) → j ≡ false
fed_none true j e = absurd (none-some Feed.Place e)
fed_none false true e = absurd (none-some Feed.NameThenPlace e)
fed_none false false e = refl

and_assoc : (i j k : Bool) → (i && (j && k)) ≡ ((i && j) && k)
and_assoc true j k = refl
and_assoc false j k = refl

-- two types of which one is no Struct
pub struct_other : (c : DataType → DataType → Option DataType) (space : Space) (left : ℕ) (swap : Bool) (s w : List ℕ) (l r : ℕ) (g : Target) (x y : Head) → x ≡ head_at (side swap s w) l
    → y ≡ head_at (side (not swap) s w) r → {known : Option ℕ} {by_names : Bool} → (eqb x.kind 35 && eqb y.kind 35) ≡ false
    → MergesKnown known by_names (struct_coercion c) space (left + 1) swap s w w l r g (Err NoType)
unfolding struct_coercion
struct_other c space left swap s w l r g x y ex ey {known} h =
    any_known known swap (merges_none (struct_coercion c) space (left + 1) swap s w l r g (λ X Y a b q. rw (kinds a b) refl))
  where
    kinds : {X Y : DataType} → Typed space (side swap s w) l X → Typed space (side (not swap) s w) r Y → (is_of 35 X && (is_of 35 Y && eqb (arity X.parts) (arity Y.parts))) ≡ false
    kinds {X} {Y} a b =
        ap₂ (λ (i j : ℕ). eqb i 35 && (eqb j 35 && eqb (arity X.parts) (arity Y.parts))) (typed_reads a ex).kind (typed_reads b ey).kind
        ∙ and_assoc (eqb x.kind 35) (eqb y.kind 35) (eqb (arity X.parts) (arity Y.parts)) ∙ rw h refl

-- the parts of two types, and what was asked of them
module _ (c : DataType → DataType → Option DataType) (space : Space) (left : ℕ) (swap : Bool) (s w : List ℕ) (l r : ℕ) (g : Target) (x y : Head)
    (ex : x ≡ head_at (side swap s w) l) (ey : y ≡ head_at (side (not swap) s w) r) {alike : Bool}
    (fa : Asks same_arity space (side swap s w) (side (not swap) s w) l x.first y.first alike) where
  module _ {X Y : DataType} (a : Typed space (side swap s w) l X) (b : Typed space (side (not swap) s w) r Y) where
    arities : alike ≡ eqb (arity X.parts) (arity Y.parts)
    arities = fa _ _ _ X.parts Y.parts (held_first a.chain.held x ex) (chain_first y ey b.chain)

    kinds : (is_of 35 X && (is_of 35 Y && eqb (arity X.parts) (arity Y.parts))) ≡ ((eqb x.kind 35 && eqb y.kind 35) && alike)
    kinds =
        ap₂ (λ (i j : ℕ). eqb i 35 && (eqb j 35 && eqb (arity X.parts) (arity Y.parts))) (typed_reads a ex).kind (typed_reads b ey).kind
        ∙ ap (λ (t : Bool). eqb x.kind 35 && (eqb y.kind 35 && t)) (sym arities) ∙ and_assoc (eqb x.kind 35) (eqb y.kind 35) alike

    left_kind : ((eqb x.kind 35 && eqb y.kind 35) && alike) ≡ true → X.shape.kind ≡ 35
    left_kind h = (typed_reads a ex).kind ∙ eqb-true x.kind 35 (and_fst _ (eqb y.kind 35) (and_fst _ alike h))

    right_kind : ((eqb x.kind 35 && eqb y.kind 35) && alike) ≡ true → Y.shape.kind ≡ 35
    right_kind h = (typed_reads b ey).kind ∙ eqb-true y.kind 35 (and_snd (eqb x.kind 35) _ (and_fst _ alike h))

  -- no common type
  pub struct_none : {known : Option ℕ} {by_names : Bool} → ((eqb x.kind 35 && eqb y.kind 35) && alike) ≡ false → MergesKnown known by_names (struct_coercion c) space (left + 1) swap s w w l r g (Err NoType)
  unfolding struct_coercion
  struct_none {known} h = any_known known swap (merges_none (struct_coercion c) space (left + 1) swap s w l r g (λ X Y a b q. rw (kinds a b ∙ h) refl))

  -- two Structs, by the fields that feed theirs
  module _ (h : ((eqb x.kind 35 && eqb y.kind 35) && alike) ≡ true) (known : Option ℕ) (by_names : Bool) {feed : Feed}
      (ff : StructFed (known_names by_names known) space (side swap s w) (side (not swap) s w) l x.first y.first feed) (v : List ℕ) (o : Written)
      (u : Under known by_names c space left swap s w v feed (shape_for 35 0 0 0 false) x.first y.first y.first g o) where
    module _ {X Y : DataType} (a : Typed space (side swap s w) l X) (b : Typed space (side (not swap) s w) r Y) (q : size X + size Y ≤ left + 1) (d : Differs known by_names l X Y) where
      abbrev Merged : Type 0
      Merged = Means space w v g (size X + size Y) (letters X + letters Y) o (struct_coercion c X Y)

      right : Chain space (side (not swap) s w) y.first Y.parts
      right = chain_first y ey b.chain

      same : arity X.parts ≡ arity Y.parts
      same = eqb-true _ _ (sym (arities a b) ∙ and_snd (eqb x.kind 35 && eqb y.kind 35) alike h)

      by_place : feed ≡ Feed.Place → list_of (shape_for 35 0 0 0 false) (join_fields c X.parts Y.parts Y.parts) ≡ struct_coercion c X Y → Merged
      by_place e is =
          means_for space w v g (size X + size Y) (letters X + letters Y) o (omega arith) (omega arith) is
          (u.means X.parts Y.parts Y.parts Y.parts Y.parts (chain_first x ex a.chain) right right
          (subst (λ (f : Feed). Feeds f X.parts Y.parts Y.parts Y.parts Y.parts) (sym e) (refl, refl)) (omega arith) (parts_known known by_names X Y a x ex d))

      by_name_lem : feed ≡ Feed.Name → fields_have_same_names X.parts Y.parts ≡ true → Merged
      by_name_lem e n =
          let f = names_found X.parts Y.parts n in
          let fits = by_name_fits X.parts Y.parts f.fields (struct_differ (left_kind a b h) a) right.held.differ f.is in
          means_for space w v g (size X + size Y) (letters X + letters Y) o (omega (arith, fits.0)) (omega (arith, fits.1))
          (struct_by_name c X Y f.fields (kinds a b ∙ h) n f.is)
          (u.means X.parts Y.parts Y.parts f.fields f.fields (chain_first x ex a.chain) right right
          (subst (λ (i : Feed). Feeds i X.parts Y.parts Y.parts f.fields f.fields) (sym e)
          (f.is, (refl, ((end_self Y.parts, struct_differ (right_kind a b h) b), sym same))))
          (omega (arith, fits.0)) (parts_known known by_names X Y a x ex d))

      by_feed : (i j : Bool) → same_order X.parts Y.parts ≡ i → fields_have_same_names X.parts Y.parts ≡ j → feed ≡ cond i Feed.Place (cond j Feed.Name Feed.Place) → Merged
      unfolding struct_coercion partners
      by_feed true j e n is =
          by_place is
          (struct_by_name c X Y Y.parts (kinds a b ∙ h) (order_names X.parts Y.parts e) (order_by_name X.parts Y.parts e same (struct_differ (right_kind a b h) b)))
      by_feed false true e n is = by_name_lem is n
      by_feed false false e n is = by_place is (struct_list (join_fields c X.parts Y.parts Y.parts) ∙ rw (kinds a b ∙ h) (rw n refl))

    pub struct_merged : MergesKnown known by_names (struct_coercion c) space (left + 1) swap s w v l r g o
    struct_merged =
        record {
          writes = u.writes;
          means =
              λ X Y a b q d.
              by_feed a b q d (same_order X.parts Y.parts) (fields_have_same_names X.parts Y.parts) refl refl
              (ff _ _ _ X.parts Y.parts (held_first a.chain.held x ex) (chain_first y ey b.chain) (names_known known by_names x.first X.parts Y.parts (parts_known known by_names X Y a x ex d)));
        }

  -- two Structs of a list
  pub listed_unlike : {known : Option ℕ} {by_names : Bool} → alike ≡ false → MergesKnown known by_names (list_struct c) space (left + 1) swap s w w l r g (Err NoType)
  listed_unlike {known} h = any_known known swap (merges_none (list_struct c) space (left + 1) swap s w l r g (λ X Y a b q. rw (sym (arities a b) ∙ h) refl))

  module _ (h : alike ≡ true) (known : Option ℕ) (by_names : Bool) where
    abbrev FedBy : Option Feed → Type 0
    FedBy o = StructsFed (known_names by_names known) Feed.NameThenPlace space (side swap s w) (side (not swap) s w) l x.first y.first o

    fed_by : {o : Option Feed} → FedBy o → {X Y : DataType} → Typed space (side swap s w) l X → Typed space (side (not swap) s w) r Y → Differs known by_names l X Y
        → o ≡ structs_feed Feed.NameThenPlace X.parts Y.parts
    fed_by f {X} {Y} a b d =
        f _ _ _ X.parts Y.parts (held_first a.chain.held x ex) (chain_first y ey b.chain) (names_known known by_names x.first X.parts Y.parts (parts_known known by_names X Y a x ex d))

    pub listed_none : FedBy None → MergesKnown known by_names (list_struct c) space (left + 1) swap s w w l r g (Err NoType)
    listed_none f =
        known_none (list_struct c) space (left + 1) swap s w l r g known by_names
        (λ X Y a b q d.
        rw (sym (arities a b) ∙ h) (rw (names_missing X.parts Y.parts (fed_none (same_order X.parts Y.parts) (fields_have_same_names X.parts Y.parts) (fed_by f a b d))) refl))

    module _ {feed : Feed} (f : FedBy (Some feed)) (k : (head_at (side swap s w) l).kind ≡ 35) (k' : (head_at (side (not swap) s w) r).kind ≡ 35) (v : List ℕ) (o : Written)
        (u : Under known by_names c space left swap s w v feed (shape_for 35 0 0 0 false) x.first y.first y.first g o) where
      module _ {X Y : DataType} (a : Typed space (side swap s w) l X) (b : Typed space (side (not swap) s w) r Y) (q : size X + size Y ≤ left + 1) (d : Differs known by_names l X Y) where
        abbrev ListMerged : Type 0
        ListMerged = Means space w v g (size X + size Y) (letters X + letters Y) o (list_struct c X Y)

        other : Chain space (side (not swap) s w) y.first Y.parts
        other = chain_first y ey b.chain

        alike_lem : eqb (arity X.parts) (arity Y.parts) ≡ true
        alike_lem = sym (arities a b) ∙ h

        unlike_names : repeats Y.parts ≡ false
        unlike_names = struct_differ ((typed_reads b refl).kind ∙ k') b

        listed_place : same_order X.parts Y.parts ≡ true → feed ≡ Feed.Place → ListMerged
        listed_place e i =
            let by = order_by_name X.parts Y.parts e (eqb-true _ _ alike_lem) unlike_names in
            means_for space w v g (size X + size Y) (letters X + letters Y) o (omega arith) (omega arith)
            (struct_list (join_fields c X.parts Y.parts Y.parts) ∙ rw alike_lem (rw by refl))
            (u.means X.parts Y.parts Y.parts Y.parts Y.parts (chain_first x ex a.chain) other other
            (subst (λ (m : Feed). Feeds m X.parts Y.parts Y.parts Y.parts Y.parts) (sym i) (refl, refl)) (omega arith) (parts_known known by_names X Y a x ex d))

        listed_name : fields_have_same_names X.parts Y.parts ≡ true → feed ≡ Feed.NameThenPlace → ListMerged
        listed_name e i =
            let n = names_found X.parts Y.parts e in
            let fits = by_name_fits X.parts Y.parts n.fields (struct_differ ((typed_reads a refl).kind ∙ k) a) other.held.differ n.is in
            means_for space w v g (size X + size Y) (letters X + letters Y) o (omega (arith, fits.0)) (omega (arith, fits.1))
            (struct_list (join_fields c X.parts n.fields Y.parts) ∙ rw alike_lem (rw n.is refl))
            (u.means X.parts Y.parts Y.parts n.fields Y.parts (chain_first x ex a.chain) other other
            (subst (λ (m : Feed). Feeds m X.parts Y.parts Y.parts n.fields Y.parts) (sym i) (n.is, (refl, (end_self Y.parts, unlike_names)))) (omega (arith, fits.0))
            (parts_known known by_names X Y a x ex d))

        listed_by : (i j : Bool) → same_order X.parts Y.parts ≡ i → fields_have_same_names X.parts Y.parts ≡ j
            → Some feed ≡ cond i (Some Feed.Place) (cond j (Some Feed.NameThenPlace) None) → ListMerged
        listed_by true j e n is = listed_place e (same_Some _ _ is)
        listed_by false true e n is = listed_name n (same_Some _ _ is)
        listed_by false false e n is = absurd (none-some feed (sym is))

      pub listed_fed : MergesKnown known by_names (list_struct c) space (left + 1) swap s w v l r g o
      listed_fed = record { writes = u.writes; means = λ X Y a b q d. listed_by a b q d _ _ refl refl (fed_by f a b d) }
