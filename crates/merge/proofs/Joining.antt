-- The rows of two chains that were merged. Assumes nothing.
use mathlib.Core.Path.{◌≡◌, refl, ap, sym, subst, ◌∙◌}
use Rattle.std.proofs.lemmas.Option.{same_Some}
use mathlib.Core.Bool.{Bool, true, false, cond, not}
use mathlib.Core.List.{List}
use mathlib.Core.Logic.{inl, inr, ⊎_elim}
use Rattle.std.specs.Prelude.{Option, None, Some}
use Prim.Native.Nat.{ℕ, ◌+◌, ◌-◌, ◌<◌, ◌≤◌}
use native.Mathlib.Omega.{arith}
use lib.ListN.{length, length-append}
use lib.Dec.{eqb}
use borrow.Author.Tests.{eq-eqb, ne_eqb}
use Rattle.sheet.specs.Types.{Shape, Fields, end, field, arity, count, zone_bytes, labels}
use Rattle.sheet.specs.Head.{head_at}
use Rattle.sheet.specs.Encode.{link_to}
use Rattle.sheet.specs.declared.Head.{Head}
use Rattle.coercion.specs.Data.{DataType, size, and_then}
use Rattle.coercion.specs.Answers.{coercion}
use Rattle.coercion.specs.Nested.{before, join_fields, by_name}
use Rattle.coercion.specs.declared.Rules.{Rules}
use Rattle.buffers.specs.Writes.{side}
use Rattle.buffers.specs.Region.{Room, Kept, Inside, Grows, Wrote}
use Rattle.buffers.specs.Target.{letters, place_of_target, field_for, Means, Tied}
use Rattle.partners.specs.Feeds.{Feeds, Fed, Unfed, RowIs}
use Rattle.buffers.specs.Typed.{Chain, Typed, ChainIs, target_at, NamedAt}
use Rattle.buffers.specs.Differ.{RowsKnown}
use Rattle.merge.specs.Known.{Differs, row_known, known_names}
use Rattle.merge.specs.Merge.{MergesKnown, Rowed}
use Rattle.buffers.specs.declared.Space.{Space}
use Rattle.buffers.specs.declared.Place.{Place}
use Rattle.buffers.specs.declared.Target.{Target}
use Rattle.partners.specs.declared.Row.{Row}
use Rattle.partners.specs.declared.Feed.{Feed}
use Rattle.buffers.specs.Written.{Written}
use Rattle.std.specs.Prelude.{Ok, Err}
use Rattle.buffers.specs.declared.Failure.{Failure}
use Rattle.buffers.specs.declared.Failure.TheVariants.{NoType, Full}
use Rattle.buffers.proofs.Frames.{kept_self, kept_trans, kept_wider, wrote_frame}
use Rattle.buffers.proofs.Chained.{labels_sum}
use Rattle.buffers.proofs.Tying.{tied_kept, chain_tied}
use Rattle.merge.proofs.Merging.{chain_side, typed_side, chain_some, common_fits}
use Rattle.buffers.proofs.Rows.{chain_link, chain_typed, chain_next}
use Rattle.partners.proofs.Known.{next_at_lem}
use Rattle.merge.proofs.Knowing.{names_known, row_known_lem, rest_known}
use Rattle.buffers.proofs.Fielding.{name_length_lem}

-- the rows after the last field of the left, by what is left of the right at its place
abbrev closed : Fields → Option Fields
closed end = Some end
closed (field name nullable shape parts rest) = None

end_joined : (c : DataType → DataType → Option DataType) (feed : Feed) (rf pf tf nf : Fields) → Feeds feed end rf pf tf nf → join_fields c end tf nf ≡ closed pf
unfolding join_fields by_name arity
end_joined c Feed.Place rf end tf nf f = rw f.0 (rw f.1 refl)
end_joined c Feed.Place rf (field name nullable shape parts rest) tf nf f = rw f.0 (rw f.1 refl)
end_joined c Feed.Own rf end tf nf f = rw f.0 (rw f.1 refl)
end_joined c Feed.Own rf (field name nullable shape parts rest) tf nf f = rw f.0 (rw f.1 refl)
end_joined c Feed.Name rf end tf nf f = rw f.1.0 (rw (sym (same_Some _ _ f.0)) refl)
end_joined c Feed.Name rf (field name nullable shape parts rest) tf nf f = absurd (omega (arith, f.1.1.1))
end_joined c Feed.NameThenPlace rf end tf nf f = rw f.1.0 (rw (sym (same_Some _ _ f.0)) refl)
end_joined c Feed.NameThenPlace rf (field name nullable shape parts rest) tf nf f = rw f.1.0 (rw (sym (same_Some _ _ f.0)) refl)

-- a field that nothing feeds
join_short : (c : DataType → DataType → Option DataType) (name : List ℕ) (nullable : Bool) (shape : Shape) (parts rest tf nf : Fields) → Unfed tf nf
    → join_fields c (field name nullable shape parts rest) tf nf ≡ None
unfolding join_fields
join_short c name nullable shape parts rest tf nf (inl e) = rw e (go nf)
  where
    go : (nf : Fields) → join_fields c (field name nullable shape parts rest) end nf ≡ None
    go end = refl
    go (field n b sh p q) = refl
join_short c name nullable shape parts rest tf nf (inr e) = rw e (go tf)
  where
    go : (tf : Fields) → join_fields c (field name nullable shape parts rest) tf end ≡ None
    go end = refl
    go (field n b sh p q) = refl

labels_none : length (labels end) ≡ 0
unfolding labels
labels_none = refl

module _ (known : Option ℕ) (named : Bool) (c : DataType → DataType → Option DataType) (space : Space) (left : ℕ) (swap : Bool) (s w : List ℕ) (feed : Feed) (l r p : ℕ) (to : Place) where
  pub rows_end : (o : Written) → Inside space to → l ≡ 0 → o ≡ cond (eqb p 0) (Ok to) (Err NoType) → Rowed known named c space left swap s w w feed l r p to o
  unfolding count labels
  rows_end o inside z e =
      record {
        kept = kept_self w to.at to.label;
        grows = subst (Grows space to) (sym e) (grown (eqb p 0));
        means = λ lf rf pf tf nf a b q f h d. go lf rf pf tf nf a q f;
      }
    where
      grown : (b : Bool) → Grows space to (cond b (Ok to) (Err NoType))
      grown true = (inside, (omega arith, omega arith))
      grown false = tt

      last : (z y : ℕ) (pf : Fields) → Chain space (side (not swap) s w) p pf → ChainIs space w to z y (cond (eqb p 0) (Ok to) (Err NoType)) (closed pf)
      last z y end q = rw (eq-eqb p 0 (chain_link refl q)) (record { records = omega arith; letters = omega arith; holds = tt })
      last z y (field name nullable shape parts rest) q = rw (ne_eqb p 0 (λ e. omega (arith, chain_some q))) tt

      go : (lf rf pf tf nf : Fields) → Chain space (side swap s w) l lf → Chain space (side (not swap) s w) p pf → Feeds feed lf rf pf tf nf
          → ChainIs space w to (count lf + count tf) (length (labels lf) + length (labels tf)) o (join_fields c lf tf nf)
      go end rf pf tf nf a q f = rw e (rw (end_joined c feed rf pf tf nf f) (last _ _ pf q))
      go (field name nullable shape parts rest) rf pf tf nf a q f = absurd (omega (arith, chain_some a))

  -- what is said of a field that is there
  pub rows_means : (v : List ℕ) (o : Written) → ¬ (l ≡ 0)
      → ((name : List ℕ) (nullable : Bool) (shape : Shape) (parts rest rf pf tf nf : Fields) → Chain space (side swap s w) l (field name nullable shape parts rest)
      → Chain space (side (not swap) s w) r rf → Chain space (side (not swap) s w) p pf → Feeds feed (field name nullable shape parts rest) rf pf tf nf
      → count (field name nullable shape parts rest) + count tf ≤ left → RowsKnown known named l (field name nullable shape parts rest) pf
      → ChainIs space v to (count (field name nullable shape parts rest) + count tf) (length (labels (field name nullable shape parts rest)) + length (labels tf)) o
      (join_fields c (field name nullable shape parts rest) tf nf))
      → (lf rf pf tf nf : Fields) → Chain space (side swap s w) l lf → Chain space (side (not swap) s w) r rf → Chain space (side (not swap) s w) p pf → Feeds feed lf rf pf tf nf
      → count lf + count tf ≤ left → RowsKnown known named l lf pf → ChainIs space v to (count lf + count tf) (length (labels lf) + length (labels tf)) o (join_fields c lf tf nf)
  rows_means v o z f end rf pf tf nf a b q g h d = absurd (z (chain_link refl a))
  rows_means v o z f (field name nullable shape parts rest) rf pf tf nf a b q g h d = f name nullable shape parts rest rf pf tf nf a b q g h d

  pub rows_spent : ¬ (l ≡ 0) → left ≡ 0 → Rowed known named c space left swap s w w feed l r p to (Err NoType)
  unfolding count
  rows_spent z e =
      record {
        kept = kept_self w to.at to.label;
        grows = tt;
        means = rows_means w (Err NoType) z (λ name nullable shape parts rest rf pf tf nf a b q f h d. absurd (omega arith));
      }

  pub rows_unfed : (row : Row) → ¬ (l ≡ 0) → RowIs (known_names named known) space swap s w feed l r p row → row.partner ≡ 0 → Rowed known named c space left swap s w w feed l r p to (Err NoType)
  rows_unfed row z is e =
      record {
        kept = kept_self w to.at to.label;
        grows = tt;
        means =
            rows_means w (Err NoType) z (λ name nullable shape parts rest rf pf tf nf a b q f h d.
            rw (join_short c name nullable shape parts rest tf nf (is.unfed name nullable shape parts rest rf pf tf nf a b q f (names_known known named l _ pf d) e)) tt);
      }

-- the first row of a chain was merged under its name, and the rows behind it
module _ (known : Option ℕ) (named : Bool) (rules : Rules) (space : Space) (left : ℕ) (swap : Bool) (s w : List ℕ) (feed : Feed) (l r p : ℕ) (to : Place) (room : Room w space) (inside : Inside space to)
    (h : Head) (eh : h ≡ head_at (side swap s w) l) (z : ¬ (l ≡ 0)) (row : Row) (is : RowIs (known_names named known) space swap s w feed l r p row) (lt : ¬ (row.partner ≡ 0))
    (v : List ℕ) (b : Bool) (label : NamedAt space (side swap s w) w v h to b) where
  abbrev goal : Target
  goal = target_at to h.name_len row.nullable

  abbrev both : DataType → DataType → Option DataType
  both = coercion rules

  -- what a field says, where another feeds it
  join_fed : (name : List ℕ) (nullable : Bool) (shape : Shape) (parts rest rf tf nf : Fields) (f : Fed space (side (not swap) s w) feed nullable rest rf row tf nf)
      → join_fields both (field name nullable shape parts rest) tf nf
      ≡ and_then (both (record { shape = shape; parts = parts }) f.type) (λ t. and_then (join_fields both rest f.more f.nulls) (λ fields. Some (before name row.nullable t fields)))
  unfolding join_fields
  join_fed name nullable shape parts rest rf tf nf f = rw f.types (rw f.nullables (rw f.joins refl))

  long : (name : List ℕ) (nullable : Bool) (shape : Shape) (parts rest : Fields) → Chain space (side swap s w) l (field name nullable shape parts rest) → h.name_len ≡ length name
  long name nullable shape parts rest a = sym (name_length_lem a h eh)

  row_labels : (name : List ℕ) (nullable : Bool) (shape : Shape) (parts rest : Fields)
      → length (labels (field name nullable shape parts rest)) ≡ length name + letters (record { shape = shape; parts = parts }) + length (labels rest)
  row_labels name nullable shape parts rest = omega (arith, labels_sum name nullable shape parts rest, length-append name (zone_bytes shape.zone))

  pub rows_crowded : b ≡ false → Rowed known named both space left swap s w v feed l r p to (Err Full)
  rows_crowded e =
      record {
        kept = label.kept;
        grows = tt;
        means =
            rows_means known named both space left swap s w feed l r p to v (Err Full) z (λ name nullable shape parts rest rf pf tf nf a q k f g df.
            inr (omega (arith, label.full e, long name nullable shape parts rest a, row_labels name nullable shape parts rest)));
      }

  module _ (first-known : Option ℕ) (ek : first-known ≡ row_known known l h.next row.partner p) (e : b ≡ true) (u : List ℕ) where
    -- the field that feeds the first row, and the types of both after the name was written
    fed : {name : List ℕ} {nullable : Bool} {shape : Shape} {parts rest rf pf tf nf : Fields} → Chain space (side swap s w) l (field name nullable shape parts rest)
        → Chain space (side (not swap) s w) r rf → Chain space (side (not swap) s w) p pf → Feeds feed (field name nullable shape parts rest) rf pf tf nf
        → RowsKnown known named l (field name nullable shape parts rest) pf → Fed space (side (not swap) s w) feed nullable rest rf row tf nf
    fed {name} {nullable} {shape} {parts} {rest} {rf} {pf} {tf} {nf} a q k f d =
        is.fed name nullable shape parts rest rf pf tf nf a q k f (names_known known named l _ pf d) (omega arith)

    first : {name : List ℕ} {nullable : Bool} {shape : Shape} {parts rest : Fields} → Chain space (side swap s w) l (field name nullable shape parts rest)
        → Typed space (side swap s v) l (record { shape = shape; parts = parts })
    first a = chain_typed (chain_side swap space s w v to.at to.label room label.kept a)

    feeder : {t : DataType} → Typed space (side (not swap) s w) row.partner t → Typed space (side (not swap) s v) row.partner t
    feeder a = typed_side (not swap) space s w v to.at to.label room label.kept a

    -- what is known of the first types
    differs : (name : List ℕ) (nullable : Bool) (shape : Shape) (parts rest : Fields) {rf tf nf : Fields} (pf : Fields) → Chain space (side swap s w) l (field name nullable shape parts rest)
        → Chain space (side (not swap) s w) p pf → (f : Fed space (side (not swap) s w) feed nullable rest rf row tf nf)
        → RowsKnown known named l (field name nullable shape parts rest) pf → Differs first-known named l (record { shape = shape; parts = parts }) f.type
    differs name nullable shape parts rest pf a c f k =
        subst (λ (i : Option ℕ). Differs i named l (record { shape = shape; parts = parts }) f.type) (sym ek)
        (row_known_lem known named name nullable shape parts rest a h.next (next_at_lem a h eh) pf c f.partner k)

    kept : Kept space v u to.at (to.label + h.name_len) → Kept space w u to.at to.label
    kept k = kept_trans label.kept (kept_wider to.at to.label (omega arith) (omega arith) k)

    pub rows_none : MergesKnown first-known named both space left swap s v u l row.partner goal (Err NoType) → Rowed known named both space left swap s w u feed l r p to (Err NoType)
    unfolding count
    rows_none m =
        record {
          kept = kept m.writes.kept;
          grows = tt;
          means =
              rows_means known named both space left swap s w feed l r p to u (Err NoType) z (λ name nullable shape parts rest rf pf tf nf a q k f g df.
              let d = fed a q k f df in
              let x : DataType = record { shape = shape; parts = parts } in
              rw (join_fed name nullable shape parts rest rf tf nf d)
              (go 0 0 0 0 (both x d.type) (join_fields both rest d.more d.nulls) name (m.means x d.type (first a) (feeder d.partner) (omega (arith, ap (λ (y : Fields). count y) d.types)) (differs name nullable shape parts rest pf a k d df))));
        }
      where
        go : (z₀ y₀ z₁ y₁ : ℕ) (o : Option DataType) (o' : Option Fields) (name : List ℕ) → Means space v u goal z₀ y₀ (Err NoType) o
            → ChainIs space u to z₁ y₁ (Err NoType) (and_then o (λ t. and_then o' (λ fields. Some (before name row.nullable t fields))))
        go z₀ y₀ z₁ y₁ None o' name k = tt
        go z₀ y₀ z₁ y₁ (Some t) o' name k = absurd k

    pub rows_full : MergesKnown first-known named both space left swap s v u l row.partner goal (Err Full) → Rowed known named both space left swap s w u feed l r p to (Err Full)
    unfolding count
    rows_full m =
        record {
          kept = kept m.writes.kept;
          grows = tt;
          means =
              rows_means known named both space left swap s w feed l r p to u (Err Full) z (λ name nullable shape parts rest rf pf tf nf a q k f g df.
              let d = fed a q k f df in
              let x : DataType = record { shape = shape; parts = parts } in
              let ct = ap (λ (y : Fields). count y) d.types in
              let lt = ap (λ (y : Fields). length (labels y)) d.types in
              let lm = row_labels d.name d.own d.type.shape d.type.parts d.more in
              let ll = row_labels name nullable shape parts rest in
              let ln = long name nullable shape parts rest a in
              ⊎_elim (λ i. inl (omega arith)) (λ i. inr (omega arith)) (m.means x d.type (first a) (feeder d.partner) (omega arith) (differs name nullable shape parts rest pf a k d df)));
        }

    pub rows_stopped : (f : Failure) → MergesKnown first-known named both space left swap s v u l row.partner goal (Err f) → Rowed known named both space left swap s w u feed l r p to (Err f)
    rows_stopped NoType m = rows_none m
    rows_stopped Full m = rows_full m

    -- the first row was written up to d, and the rows behind it were merged from there
    module _ (d : Place) (m : MergesKnown first-known named both space left swap s v u l row.partner goal (Ok d)) where
      kept₂ : Kept space w u to.at to.label
      kept₂ = kept m.writes.kept

      -- the type that was written first
      record First (name : List ℕ) (x t : DataType) : Type 0 where
        type : DataType
        common : both x t ≡ Some type
        wrote : Wrote space u (place_of_target goal) d (field_for goal name type)
        records : d.at ≤ to.at + (size x + size t)
        letters : d.label ≤ to.label + length name + (letters x + letters t)

      first_type : {nullable : Bool} {shape : Shape} {parts rest : Fields} (name : List ℕ) (t : DataType) → Chain space (side swap s w) l (field name nullable shape parts rest)
          → Typed space (side (not swap) s w) row.partner t → size (record { shape = shape; parts = parts }) + size t ≤ left
          → Differs first-known named l (record { shape = shape; parts = parts }) t → First name (record { shape = shape; parts = parts }) t
      unfolding count
      first_type {nullable} {shape} {parts} {rest} name t a q g df = go (both x t) refl (m.means x t (first a) (feeder q) g df)
        where
          x : DataType
          x = record { shape = shape; parts = parts }

          go : (o : Option DataType) → both x t ≡ o → Means space v u goal (size x + size t) (letters x + letters t) (Ok d) o → First name x t
          go None i k = absurd k
          go (Some y) i k =
              let wrote = k name (label.named e l name nullable row.nullable shape parts rest a eh) in
              let fits = common_fits rules y (chain_typed a) q i in
              let ll = row_labels name row.nullable y.shape y.parts end in
              let le = labels_none in
              record {
                type = y;
                common = i;
                wrote = wrote;
                records = omega (arith, wrote.records, fits.0);
                letters = omega (arith, wrote.letters, fits.1);
              }

      -- the rows behind it
      module _ (y : List ℕ) (o : Written) (k : Rowed known named both space (left - 1) swap s u y feed h.next r row.next d o) where
        kept₃ : Kept space w y to.at to.label
        kept₃ = kept_trans kept₂ (kept_wider to.at to.label (omega (arith, m.writes.passes.1.0)) (omega (arith, m.writes.passes.1.1)) k.kept)

        rest_means : {name : List ℕ} {nullable : Bool} {shape : Shape} {parts rest rf tf nf : Fields} → Chain space (side swap s w) l (field name nullable shape parts rest)
            → Chain space (side (not swap) s w) r rf → (f : Fed space (side (not swap) s w) feed nullable rest rf row tf nf) → count rest + count f.more ≤ left - 1 → RowsKnown known named h.next rest f.behind
            → ChainIs space y d (count rest + count f.more) (length (labels rest) + length (labels f.more)) o (join_fields both rest f.more f.nulls)
        rest_means {rest = rest} {rf = rf} a q f g df =
            k.means rest rf f.behind f.more f.nulls (chain_side swap space s w u to.at to.label room kept₂ (chain_next a h eh))
            (chain_side (not swap) space s w u to.at to.label room kept₂ q) (chain_side (not swap) space s w u to.at to.label room kept₂ f.next) f.feeds g df

      pub rows_rest_none : (y : List ℕ) → Rowed known named both space (left - 1) swap s u y feed h.next r row.next d (Err NoType) → Rowed known named both space left swap s w y feed l r p to (Err NoType)
      unfolding count
      rows_rest_none y k =
          record {
            kept = kept₃ y (Err NoType) k;
            grows = tt;
            means =
                rows_means known named both space left swap s w feed l r p to y (Err NoType) z (λ name nullable shape parts rest rf pf tf nf a q c f g df.
                let i = fed a q c f df in
                let ct = ap (λ (x : Fields). count x) i.types in
                let one = first_type name i.type a i.partner (omega arith) (differs name nullable shape parts rest pf a c i df) in
                rw (join_fed name nullable shape parts rest rf tf nf i)
                (rw one.common (go (join_fields both rest i.more i.nulls) name one.type 0 0 0 0 (rest_means y (Err NoType) k a q i (omega arith) (rest_known known named name nullable shape parts rest a h.next (next_at_lem a h eh) feed pf f i df)))));
          }
        where
          go : (o : Option Fields) (name : List ℕ) (t : DataType) (z₀ y₀ z₁ y₁ : ℕ) → ChainIs space y d z₀ y₀ (Err NoType) o
              → ChainIs space y to z₁ y₁ (Err NoType) (and_then o (λ fields. Some (before name row.nullable t fields)))
          go None name t z₀ y₀ z₁ y₁ c = tt
          go (Some f) name t z₀ y₀ z₁ y₁ c = absurd c

      pub rows_rest_full : (y : List ℕ) → Rowed known named both space (left - 1) swap s u y feed h.next r row.next d (Err Full) → Rowed known named both space left swap s w y feed l r p to (Err Full)
      unfolding count
      rows_rest_full y k =
          record {
            kept = kept₃ y (Err Full) k;
            grows = tt;
            means =
                rows_means known named both space left swap s w feed l r p to y (Err Full) z (λ name nullable shape parts rest rf pf tf nf a q c f g df.
                let i = fed a q c f df in
                let ct = ap (λ (x : Fields). count x) i.types in
                let lt = ap (λ (x : Fields). length (labels x)) i.types in
                let lm = row_labels i.name i.own i.type.shape i.type.parts i.more in
                let ll = row_labels name nullable shape parts rest in
                let one = first_type name i.type a i.partner (omega arith) (differs name nullable shape parts rest pf a c i df) in
                let ra = one.records in
                let rb = one.letters in
                ⊎_elim (λ x. inl (omega arith)) (λ x. inr (omega arith)) (rest_means y (Err Full) k a q i (omega arith) (rest_known known named name nullable shape parts rest a h.next (next_at_lem a h eh) feed pf f i df)));
          }

      pub rows_rest_stopped : (y : List ℕ) (f : Failure) → Rowed known named both space (left - 1) swap s u y feed h.next r row.next d (Err f) → Rowed known named both space left swap s w y feed l r p to (Err f)
      rows_rest_stopped y NoType k = rows_rest_none y k
      rows_rest_stopped y Full k = rows_rest_full y k

      pub rows_done : (y y' : List ℕ) (e' : Place) (next : ℕ) → Rowed known named both space (left - 1) swap s u y feed h.next r row.next d (Ok e')
          → next ≡ cond (eqb d.at e'.at) 0 d.at → Tied space y y' to.at next → Rowed known named both space left swap s w y' feed l r p to (Ok e')
      unfolding count
      rows_done y y' e' next k en tied =
          record {
            kept = kept_trans (kept₃ y (Ok e') k) (tied_kept space y y' to.at next tied to.label past);
            grows = (k.grows.0, (omega (arith, m.writes.passes.1.0, k.grows.1.0), omega (arith, m.writes.passes.1.1, k.grows.1.1)));
            means =
                rows_means known named both space left swap s w feed l r p to y' (Ok e') z (λ name nullable shape parts rest rf pf tf nf a q c f g df.
                let i = fed a q c f df in
                let ct = ap (λ (x : Fields). count x) i.types in
                let one = first_type name i.type a i.partner (omega arith) (differs name nullable shape parts rest pf a c i df) in
                rw (join_fed name nullable shape parts rest rf tf nf i)
                (rw one.common (go (join_fields both rest i.more i.nulls) name one.type one.wrote 0 0 0 0 (rest_means y (Ok e') k a q i (omega arith) (rest_known known named name nullable shape parts rest a h.next (next_at_lem a h eh) feed pf f i df)))));
          }
        where
          past : to.at < space.n
          past = omega (arith, m.writes.passes.1.0, m.writes.passes.0.records)

          link : (fields : Fields) → Wrote space y d e' fields → next ≡ link_to d.at fields
          link end o = en ∙ rw (eq-eqb d.at e'.at (omega (arith, o.records))) refl
          link (field n b₁ sh ps rs) o = en ∙ rw (ne_eqb d.at e'.at (λ q. omega (arith, o.records))) refl

          go : (o : Option Fields) (name : List ℕ) (t : DataType) → Wrote space u (place_of_target goal) d (field_for goal name t) → (z₀ y₀ z₁ y₁ : ℕ) → ChainIs space y d z₀ y₀ (Ok e') o
              → ChainIs space y' to z₁ y₁ (Ok e') (and_then o (λ fields. Some (before name row.nullable t fields)))
          go None name t o z₀ y₀ z₁ y₁ c = absurd c
          go (Some fields) name t o z₀ y₀ z₁ y₁ c =
              chain_tied space y y' to.at next tied to.label d e' name row.nullable t.shape t.parts fields past (link fields c)
              (record {
                records = o.records;
                letters = o.letters;
                holds =
                    wrote_frame space u y d.at d.label to.at to.label (field_for goal name t) (omega (arith, o.records)) (omega (arith, o.letters)) k.kept o.holds;
              })
              c
