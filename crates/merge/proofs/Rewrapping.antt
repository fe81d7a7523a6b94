-- A wrapper that was rewritten with another core. Assumes nothing.
use mathlib.Core.Path.{◌≡◌, refl, ap, ap₂, sym, subst, subst₂, ◌∙◌}
use mathlib.Core.Bool.{Bool, true, false, not, ◌&&◌}
use mathlib.Core.List.{List, [], ◌∷◌, ◌++◌}
use mathlib.Core.Logic.{inl, inr, ⊎_elim}
use Rattle.std.specs.Prelude.{Option, None, Some, Ok, Err}
use Rattle.std.proofs.lemmas.Option.{none-some}
use Rattle.std.proofs.lemmas.Bool.{cases_lt}
use Rattle.std.proofs.lemmas.List.{append-nil}
use Prim.Native.Nat.{ℕ, ◌+◌, ◌<◌, ◌≤◌}
use native.Mathlib.Omega.{arith}
use lib.ListN.{length, length-append}
use lib.Dec.{eqb, leb}
use borrow.Author.Tests.{eq-eqb, eqb-true, leb-true}
use Rattle.sheet.specs.Kind.{is_decimal, sized, last_unit, parts_right, is_wrapper}
use Rattle.sheet.specs.Booleans.{between}
use Rattle.sheet.specs.Types.{Zone, absent, Shape, Fields, end, field, arity, count, zone_bytes, labels}
use Rattle.sheet.specs.Head.{head_at}
use Rattle.sheet.specs.Encode.{link_to}
use Rattle.sheet.specs.Refusals.{figure_right, size_right, figures_right}
use Rattle.sheet.specs.Carried.{is_zoned, FieldsRight}
use Rattle.sheet.specs.declared.Head.{Head}
use Rattle.sheet.proofs.Booleans.{never, all_at, and_snd}
use Rattle.coercion.specs.Data.{DataType, size, is_list_question}
use Rattle.coercion.proofs.Maybe.{If}
use Rattle.coercion.proofs.PlainRight.{Sound, own_right}
use Rattle.coercion.proofs.NestedRight.{coercion_sound}
use Rattle.coercion.specs.declared.Rules.{Rules}
use Rattle.plain.proofs.Plain.{end_is}
use Rattle.buffers.specs.Writes.{side}
use Rattle.buffers.specs.Region.{Room, region, Kept, Grows, Wrote, CopiedHead}
use Rattle.buffers.specs.Target.{letters, Means, Writes, type_of, LaidPlain}
use Rattle.buffers.specs.Span.{CopiedSpan}
use Rattle.buffers.specs.Typed.{Chain, Typed, Merges, ChainIs}
use Rattle.buffers.specs.declared.Space.{Space}
use Rattle.buffers.specs.declared.Place.{Place}
use Rattle.buffers.specs.declared.Target.{Target}
use Rattle.buffers.specs.Written.{Written}
use Rattle.buffers.specs.declared.Failure.{Failure}
use Rattle.buffers.specs.declared.Failure.TheVariants.{NoType, Full}
use Rattle.buffers.proofs.Frames.{kept_trans, kept_wider}
use Rattle.buffers.proofs.Chained.{room_kept, labels_sum}
use Rattle.rule_order.specs.Order.{rewrapped}
use Rattle.wrappers.proofs.Cores.{implies_no, absent_is}
use Rattle.merge.specs.declared.descent.Descent.{Descent}
use Rattle.merge.specs.Descent.{Wrapper, alone, nest, AllPass, AllDictionaries, innermost, Descends, Descended, view, PlacedView, run_gives_way, Settled}
use Rattle.merge.specs.Merge.{Tabled, MergesField, field_of}
use Rattle.merge.proofs.Merging.{chain_side, typed_side, tabled_over, typed_kind, means_for, means_after}
use Rattle.merge.proofs.Parents.{Parent, parent_copied, parent_wrote, parent_means, kept_on, writes_on}
use Rattle.merge.proofs.Descending.{nest_append, pass_append}
use Rattle.merge.proofs.Filling.{Cut, with_type, alone_count, parts_short, span_records, span_letters, parts_wrote}
use Rattle.merge.proofs.Passing.{both, none_through, kept_through, gone_through, Sole, sole}

-- a type of kind Utf8View is the plain one
view_figures : (figure scale sz : ℕ) (sorted : Bool) (zone : Zone) (parts : Fields) → parts_right 27 (arity parts) ≡ true → figures_right 27 figure scale sz sorted (is_zoned zone) ≡ true
    → type_of (record { kind = 27; figure = figure; scale = scale; size = sz; sorted = sorted; zone = zone }) parts ≡ view
unfolding figures_right figure_right is_decimal last_unit between size_right sized parts_right
view_figures figure scale sz sorted zone parts filled f =
    let f₀ = all_at _ 0 f in
    let a : leb figure 0 ≡ true = all_at _ 0 f₀ in
    let ef : figure ≡ 0 = omega (arith, leb-true figure 0 a) in
    let es : scale ≡ 0 = eqb-true scale 0 (all_at _ 1 f₀) in
    let ez : sz ≡ 0 = eqb-true sz 0 (all_at _ 1 f) in
    let eo : sorted ≡ false = implies_no sorted (all_at _ 2 f) in
    let en : zone ≡ absent = absent_is zone (implies_no (is_zoned zone) (all_at _ 3 f)) in
    let ep : parts ≡ end = end_is parts (eqb-true (arity parts) 0 filled) in
    λ i. record { shape = record { kind = 27; figure = ef i; scale = es i; size = ez i; sorted = eo i; zone = en i }; parts = ep i }

view_plain : (t : DataType) → Sound t → t.shape.kind ≡ 27 → t ≡ view
view_plain t h e =
    let sh : Shape = record { kind = 27; figure = t.shape.figure; scale = t.shape.scale; size = t.shape.size; sorted = t.shape.sorted; zone = t.shape.zone } in
    let same : t ≡ type_of sh t.parts =
    λ i.
    record {
      shape =
          record { kind = e i; figure = t.shape.figure; scale = t.shape.scale; size = t.shape.size; sorted = t.shape.sorted; zone = t.shape.zone };
      parts = t.parts;
    }
    in
    same
    ∙ view_figures t.shape.figure t.shape.scale t.shape.size t.shape.sorted t.shape.zone t.parts
    (subst (λ (k : ℕ). parts_right k (arity t.parts) ≡ true) e h.0.filled)
    (subst (λ (k : ℕ). figures_right k t.shape.figure t.shape.scale t.shape.size t.shape.sorted (is_zoned t.shape.zone) ≡ true) e h.0.figures)

-- wrappers about a field have its records
count_nest : (zs : List Wrapper) (f : Fields) → count f ≤ count (nest zs f)
unfolding nest count
count_nest [] f = omega arith
count_nest (z ∷ zs) f = omega (arith, count_nest zs f)

nest_longer : (z : Wrapper) (zs : List Wrapper) (f : Fields) → count f < count (nest (z ∷ zs) f)
unfolding nest count
nest_longer z zs f = omega (arith, count_nest zs f)

-- a run that adds no records has no wrappers
none_between : (zs : List Wrapper) (f : Fields) → count (nest zs f) ≡ count f → zs ≡ []
none_between [] f e = refl
none_between (z ∷ zs) f e = absurd (omega (arith, e, nest_longer z zs f))

module _ (rules : Rules) (of_list : is_list_question rules.question ≡ true) (space : Space) (left : ℕ) (swap : Bool) (s w : List ℕ) (k l r : ℕ) (g : Target) (room : Room w space)
    (is : is_wrapper k ≡ true) (h : Head) (eh : h ≡ head_at (side swap s w) l) (ek : (head_at (side swap s w) l).kind ≡ k)
    (descent : Descent) (down : Descended space (side swap s w) k (head_at (side (not swap) s w) r).kind l descent) where
  abbrev c : DataType → DataType → Option DataType
  c = both rules of_list

  abbrev answer : DataType → DataType → Option DataType
  answer = rewrapped k c

  -- the way down from a wrapper at the link
  kind : {x : DataType} → Typed space (side swap s w) l x → x.shape.kind ≡ k
  kind a = sym (typed_kind h eh a) ∙ ap (λ (y : Head). y.kind) eh ∙ ek

  abbrev Way : DataType → Type 0
  Way x = Descends space (side swap s w) (head_at (side (not swap) s w) r).kind l descent x

  -- what is said of a wrapper, with the way down from it
  abbrev Says : List ℕ → Written → DataType → Type 0
  Says v o x =
      Typed space (side swap s w) l x → Way x → (y : DataType) → Typed space (side (not swap) s w) r y → size x + size y ≤ left + 1
      → Means space w v g (size x + size y) (letters x + letters y) o (rewrapped x.shape.kind c x y)

  merged : (v : List ℕ) (o : Written) → Writes space w v g o → ((x : DataType) → Says v o x) → Merges answer space (left + 1) swap s w v l r g o
  merged v o wr f =
      record {
        writes = wr;
        means =
            λ x y a b q.
            subst (λ (i : ℕ). Means space w v g (size x + size y) (letters x + letters y) o (rewrapped i c x y)) (kind a) (f x a (down x a (kind a)) y b q);
      }

  -- its core
  abbrev cut : {x : DataType} → (d : Way x) → Cut l descent.core x d.core
  cut d =
      record {
        n = d.part_name;
        b = d.part_nullable;
        part = d.part;
        p = d.part_parts;
        zs = d.kept ++ d.run;
        name = d.name;
        nullable = d.nullable;
        is = d.is ∙ ap (λ (f : Fields). field d.part_name d.part_nullable d.part d.part_parts f) (sym (nest_append d.kept d.run (alone d.name d.nullable d.core)));
        ends = d.ends;
      }

  -- its wrappers are passed on the way to a type of the other side, and the parts are right
  passed_on : {y : DataType} (zs : List Wrapper) → Typed space (side (not swap) s w) r y → AllPass (head_at (side (not swap) s w) r).kind zs → AllPass y.shape.kind zs
  passed_on zs u a = subst (λ (i : ℕ). AllPass i zs) (typed_kind (head_at (side (not swap) s w) r) refl u) a

  all_passed : {x y : DataType} (d : Way x) → Typed space (side (not swap) s w) r y → AllPass y.shape.kind (d.kept ++ d.run)
  all_passed {y = y} d u = pass_append y.shape.kind d.kept d.run (passed_on d.kept u d.kept_pass) (passed_on d.run u d.run_pass)

  wraps : {x : DataType} → Typed space (side swap s w) l x → is_wrapper x.shape.kind ≡ true
  wraps t = subst (λ (i : ℕ). is_wrapper i ≡ true) (sym (kind t)) is

  fields_right : {x : DataType} → Typed space (side swap s w) l x → {f : Fields} → x.parts ≡ f → FieldsRight x.shape.kind f
  fields_right {x} t i = subst (FieldsRight x.shape.kind) i t.chain.held.source.right.1.0

  with_parts : (x y : DataType) {f : Fields} → x.parts ≡ f → rewrapped x.shape.kind c x y ≡ rewrapped x.shape.kind c (type_of x.shape f) y
  with_parts x y i = ap (λ (f : Fields). rewrapped x.shape.kind c (type_of x.shape f) y) i

  -- the run begins behind others
  abbrev Behind : {x : DataType} → Way x → Type 0
  Behind {x} d =
      (innermost x.shape.kind d.kept ≡ 38)
      × (Chain space (side swap s w) descent.run (nest d.run (alone d.name d.nullable d.core)) × (descent.run + count (nest d.run (alone d.name d.nullable d.core)) ≡ l + size x))

  -- where its core and its run begin
  core_below : {x : DataType} (d : Way x) → size d.core < size x
  unfolding count
  core_below d = omega (arith, ap (λ (f : Fields). count f) (cut d).is, count_nest (d.kept ++ d.run) (alone d.name d.nullable d.core), alone_count d.name d.nullable d.core)

  begins_behind : {x : DataType} (d : Way x) → descent.first ≤ descent.run → Behind d
  begins_behind d le = ⊎_elim (λ i. absurd (omega (arith, i.1.1, d.first))) (λ i. i) d.begins

  begins_whole : {x : DataType} (d : Way x) → descent.run < descent.first → (x.shape.kind ≡ 37) × ((d.kept ≡ []) × (descent.run ≡ l))
  unfolding count
  begins_whole d lt =
      ⊎_elim (λ i. i)
      (λ i. absurd (omega (arith, i.1.1, d.first, ap (λ (f : Fields). count f) d.is, count_nest d.kept (nest d.run (alone d.name d.nullable d.core))))) d.begins

  -- the common type, where the core has none
  none_of : {x y : DataType} (d : Way x) → Typed space (side (not swap) s w) r y → c d.core y ≡ None → rewrapped x.shape.kind c x y ≡ None
  none_of {x} {y} d u e =
      with_parts x y (cut d).is
      ∙ none_through rules of_list d.name d.nullable d.core y x.shape d.part_name d.part_nullable d.part d.part_parts (d.kept ++ d.run) (all_passed d u) e

  -- where the wrappers stay
  kept_of : {x y : DataType} (t : Typed space (side swap s w) l x) (d : Way x) → Typed space (side (not swap) s w) r y → {m : DataType} → c d.core y ≡ Some m
      → ¬ ((innermost x.shape.kind (d.kept ++ d.run) ≡ 37) × (m.shape.kind ≡ 27)) → rewrapped x.shape.kind c x y ≡ Some (type_of x.shape (with_type (cut d) m))
  kept_of {x} {y} t d u {m} e n =
      with_parts x y (cut d).is
      ∙ kept_through rules of_list d.name d.nullable d.core y x.shape d.part_name d.part_nullable d.part d.part_parts (d.kept ++ d.run) m (wraps t) (fields_right t (cut d).is) (all_passed d u) e n

  stays_bare : {x : DataType} (d : Way x) (m : DataType) → (not (eqb descent.run descent.core) && eqb m.shape.kind 27) ≡ false → ¬ ((innermost x.shape.kind (d.kept ++ d.run) ≡ 37) × (m.shape.kind ≡ 27))
  stays_bare {x} d m n q = ⊎_elim (λ i. omega (arith, i.1.1, same, d.ends, core_below d)) behind d.begins
    where
      here : (b : Bool) → (not b && true) ≡ false → b ≡ true
      here true e = refl
      here false e = never (sym e)

      same : descent.run ≡ descent.core
      same = eqb-true descent.run descent.core (here (eqb descent.run descent.core) (sym (ap (λ (i : Bool). not (eqb descent.run descent.core) && i) (eq-eqb m.shape.kind 27 q.1)) ∙ n))

      behind : Behind d → ⊥
      behind i =
          let none : d.run ≡ [] = none_between d.run (alone d.name d.nullable d.core) (omega (arith, i.1.1, same, d.ends, alone_count d.name d.nullable d.core)) in
          let last : innermost x.shape.kind (d.kept ++ d.run) ≡ innermost x.shape.kind d.kept = ap (λ (zs : List Wrapper). innermost x.shape.kind (d.kept ++ zs)) none ∙ ap (λ (zs : List Wrapper). innermost x.shape.kind zs) (append-nil d.kept) in
          omega (arith, last, i.0, q.0)

  -- where all give way to Utf8View, and where those of the run do
  whole_of : {x y : DataType} (d : Way x) → Typed space (side (not swap) s w) r y → {m : DataType} → c d.core y ≡ Some m → m.shape.kind ≡ 27 → descent.run < descent.first → rewrapped x.shape.kind c x y ≡ Some m
  whole_of {x} {y} d u {m} e v lt =
      let i = begins_whole d lt in
      with_parts x y (cut d).is
      ∙ gone_through rules of_list d.name d.nullable d.core y x.shape d.part_name d.part_nullable d.part d.part_parts (d.kept ++ d.run) m i.0
      (subst (λ (zs : List Wrapper). AllDictionaries (zs ++ d.run)) (sym i.1.0) d.dictionaries) (all_passed d u) e v

  part_of : {x y : DataType} (t : Typed space (side swap s w) l x) (d : Way x) → Typed space (side (not swap) s w) r y → {m : DataType} (f : Sole rules of_list d.name d.nullable d.core y d.run)
      → x.parts ≡ field d.part_name d.part_nullable d.part d.part_parts (nest d.kept (alone f.name₁ f.nullable₁ f.type)) → innermost x.shape.kind d.kept ≡ 38 → c f.type y ≡ Some m
      → rewrapped x.shape.kind c x y ≡ Some (type_of x.shape (field d.part_name d.part_nullable d.part d.part_parts (nest d.kept (alone f.name₁ f.nullable₁ m))))
  part_of {x} {y} t d u {m} f i last e =
      with_parts x y i
      ∙ kept_through rules of_list f.name₁ f.nullable₁ f.type y x.shape d.part_name d.part_nullable d.part d.part_parts d.kept m (wraps t) (fields_right t i) (passed_on d.kept u d.kept_pass) e
      (λ q. omega (arith, q.0, last))

  -- the record was copied
  module _ (v₁ : List ℕ) (a : Place) (cp : CopiedHead space (side swap s w) w v₁ h l g 0 (Ok a)) where
    over₁ : {x : DataType} → Typed space (side swap s w) l x → Typed space (side swap s v₁) l x
    over₁ t = typed_side swap space s w v₁ g.at (g.label + g.name_len) room cp.kept t

    parent : {x : DataType} → Typed space (side swap s w) l x → Parent space w v₁ g x.shape (link_to (g.at + 1) x.parts) a
    parent t = parent_copied eh cp t.chain

    span_at : {v : List ℕ} {o : Written} {x : DataType} → Way x → CopiedSpan space (side swap s v₁) v₁ v descent.first descent.core a o → CopiedSpan space (side swap s v₁) v₁ v (l + 1) descent.core a o
    span_at {v} {o} d sp = subst (λ (i : ℕ). CopiedSpan space (side swap s v₁) v₁ v i descent.core a o) d.first sp

    pub span_stopped : (v₂ : List ℕ) (f : Failure) → CopiedSpan space (side swap s v₁) v₁ v₂ descent.first descent.core a (Err f) → Merges answer space (left + 1) swap s w v₂ l r g (Err f)
    span_stopped v₂ NoType sp = absurd sp.means
    span_stopped v₂ Full sp =
        merged v₂ (Err Full) (writes_on g (Err Full) cp.kept cp.passes sp.kept tt)
        (λ x t d y u q.
        let p = parent t in
        ⊎_elim (λ z. inl (omega (arith, z, p.at))) (λ z. inr (omega (arith, z, p.label))) (parts_short (over₁ t) (cut d) (span_at d sp)))

    -- the records behind it were copied
    module _ (v₂ : List ℕ) (b : Place) (sp : CopiedSpan space (side swap s v₁) v₁ v₂ descent.first descent.core a (Ok b)) where
      kept₂ : Kept space w v₂ g.at (g.label + g.name_len)
      kept₂ = kept_on g cp.kept cp.passes sp.kept

      -- writes from the core on
      wider : {u : List ℕ} → Kept space v₂ u b.at b.label → Kept space v₁ u a.at a.label
      wider m = kept_trans sp.kept (kept_wider a.at a.label sp.grows.1.0 sp.grows.1.1 m)

      -- what is said of the core
      core : {named : Bool} {v₃ : List ℕ} {o : Written} → MergesField None named c space left swap s v₂ v₃ descent.core r b o → {x : DataType} → Typed space (side swap s w) l x → (d : Way x)
          → (y : DataType) → Typed space (side (not swap) s w) r y → size x + size y ≤ left + 1
          → ChainIs space v₃ b (size d.core + size y) (length d.name + letters d.core + letters y) o (field_of d.name d.nullable (c d.core y))
      core mf t d y u q =
          mf.means d.name d.nullable d.core y end (chain_side swap space s w v₂ g.at (g.label + g.name_len) room kept₂ d.stands)
          (typed_side (not swap) space s w v₂ g.at (g.label + g.name_len) room kept₂ u) (omega (arith, q, span_records (over₁ t) (cut d) (span_at d sp), sp.grows.1.0)) (λ i e. absurd (none-some i e))

      core_none : {named : Bool} (v₃ : List ℕ) → MergesField None named c space left swap s v₂ v₃ descent.core r b (Err NoType) → Merges answer space (left + 1) swap s w v₃ l r g (Err NoType)
      core_none v₃ mf =
          merged v₃ (Err NoType) (writes_on g (Err NoType) cp.kept cp.passes (wider mf.kept) tt) (λ x t d y u q. go d u 0 0 0 0 (c d.core y) refl (core mf t d y u q))
        where
          go : {x y : DataType} (d : Way x) → Typed space (side (not swap) s w) r y → (z₀ y₀ z₁ y₁ : ℕ) (m : Option DataType) → c d.core y ≡ m → ChainIs space v₃ b z₀ y₀ (Err NoType) (field_of d.name d.nullable m)
              → Means space w v₃ g z₁ y₁ (Err NoType) (rewrapped x.shape.kind c x y)
          go d u z₀ y₀ z₁ y₁ None e i = subst (Means space w v₃ g z₁ y₁ (Err NoType)) (sym (none_of d u e)) tt
          go d u z₀ y₀ z₁ y₁ (Some t) e i = absurd i

      core_full : {named : Bool} (v₃ : List ℕ) → MergesField None named c space left swap s v₂ v₃ descent.core r b (Err Full) → Merges answer space (left + 1) swap s w v₃ l r g (Err Full)
      core_full v₃ mf =
          merged v₃ (Err Full) (writes_on g (Err Full) cp.kept cp.passes (wider mf.kept) tt)
          (λ x t d y u q.
          let p = parent t in
          let records = span_records (over₁ t) (cut d) (span_at d sp) in
          let label = span_letters (over₁ t) (cut d) (span_at d sp) in
          ⊎_elim (λ z. inl (omega (arith, z, p.at, records)))
          (λ z. inr (omega (arith, z, p.label, label, labels_sum d.name d.nullable d.core.shape d.core.parts end, length-append d.name (zone_bytes d.core.shape.zone)))) (core mf t d y u q))

      pub core_stopped : {named : Bool} (v₃ : List ℕ) (f : Failure) → MergesField None named c space left swap s v₂ v₃ descent.core r b (Err f) → Merges answer space (left + 1) swap s w v₃ l r g (Err f)
      core_stopped v₃ NoType mf = core_none v₃ mf
      core_stopped v₃ Full mf = core_full v₃ mf

      -- the core was merged, and the wrapper settled
      module _ {named : Bool} (v₃ : List ℕ) (e : Place) (mf : MergesField None named c space left swap s v₂ v₃ descent.core r b (Ok e)) (v₄ : List ℕ) (o : Written)
          (st : Settled space (side swap s v₃) v₃ v₄ descent a g b.at e o) where
        kept₃ : Kept space v₁ v₃ a.at a.label
        kept₃ = wider mf.kept

        kept_all : Kept space w v₃ g.at (g.label + g.name_len)
        kept_all = kept_on g cp.kept cp.passes kept₃

        grows : Grows space a (Ok e)
        grows = (mf.grows.0, (omega (arith, sp.grows.1.0, mf.grows.1.0), omega (arith, sp.grows.1.1, mf.grows.1.1)))

        -- the wrapper stays
        module _ (gw : run_gives_way space v₃ descent b.at ≡ false) where
          stayed : Writes space w v₄ g o
          stayed = subst₂ (λ (o : Written) (u : List ℕ). Writes space w u g o) (sym (st.stays gw).0) (sym (st.stays gw).1) (writes_on g (Ok e) cp.kept cp.passes kept₃ grows)

          said_stays : {x y : DataType} (t : Typed space (side swap s w) l x) (d : Way x) → Typed space (side (not swap) s w) r y → (z₁ y₁ : ℕ) (m : DataType) → c d.core y ≡ Some m
              → Wrote space v₃ b e (alone d.name d.nullable m) → Means space w v₄ g z₁ y₁ o (rewrapped x.shape.kind c x y)
          said_stays {x} t d u z₁ y₁ m q wrote =
              let parts = parts_wrote (over₁ t) (cut d) (span_at d sp) room.few cp.passes.0 mf.kept m wrote in
              let kind : (head_at (region space v₃) b.at).kind ≡ m.shape.kind = ap (λ (x : Head). x.kind) wrote.holds.0.head in
              subst (Means space w v₄ g z₁ y₁ o) (sym (kept_of t d u q (stays_bare d m (ap₂ (λ (b : Bool) (i : ℕ). not b && eqb i 27) {x = eqb descent.run descent.core} refl (sym kind) ∙ gw))))
              (subst₂ (λ (o : Written) (u : List ℕ). Means space w u g z₁ y₁ o (Some (type_of x.shape (with_type (cut d) m)))) (sym (st.stays gw).0) (sym (st.stays gw).1)
              (parent_wrote v₃ (with_type (cut d) m) (parent t) (ap (link_to (g.at + 1)) (cut d).is) kept₃ parts))

        -- the run of Dictionaries gives way
        module _ (gw : run_gives_way space v₃ descent b.at ≡ true) where
          view_is : {m : DataType} {name : List ℕ} {nullable : Bool} → Wrote space v₃ b e (alone name nullable m) → m.shape.kind ≡ 27
          view_is wrote =
              sym (ap (λ (x : Head). x.kind) wrote.holds.0.head) ∙ eqb-true _ 27 (and_snd (not (eqb descent.run descent.core)) (eqb (head_at (region space v₃) b.at).kind 27) gw)

          -- and with it the whole wrapper
          module _ (lt : descent.run < descent.first) where
            laid : LaidPlain space v₃ v₄ g view.shape o
            laid = st.whole gw lt

            replaced : Writes space w v₄ g o
            replaced = record { kept = kept_trans kept_all laid.writes.kept; passes = laid.writes.passes }

            said_whole : {x y : DataType} (t : Typed space (side swap s w) l x) (d : Way x) → Typed space (side (not swap) s w) r y → {z₁ : ℕ} (y₁ : ℕ) → 1 ≤ z₁ → (m : DataType) → c d.core y ≡ Some m → Sound m
                → Wrote space v₃ b e (alone d.name d.nullable m) → Means space w v₄ g z₁ y₁ o (rewrapped x.shape.kind c x y)
            said_whole t d u y₁ le m q sound wrote =
                means_for space w v₄ g _ y₁ o le (omega arith) (ap (λ (x : DataType). Some x) (sym (view_plain m sound (view_is wrote))) ∙ sym (whole_of d u q (view_is wrote) lt))
                (means_after space w v₃ v₄ g 1 0 o (Some view) kept_all laid.means)

          -- behind others
          module _ (le : descent.first ≤ descent.run) where
            placed : PlacedView space (side swap s v₃) v₃ v₄ descent.first descent.run a o
            placed = st.part gw le

            kept₄ : Kept space v₁ v₄ a.at a.label
            kept₄ = kept_trans kept₃ placed.kept

            renewed : Writes space w v₄ g o
            renewed = writes_on g o cp.kept cp.passes kept₄ placed.grows

            said_part : {x y : DataType} (t : Typed space (side swap s w) l x) (d : Way x) → Typed space (side (not swap) s w) r y → {z₁ y₁ : ℕ} → size x ≤ z₁ → letters x ≤ y₁ → (m : DataType) → c d.core y ≡ Some m → Sound m
                → Wrote space v₃ b e (alone d.name d.nullable m) → Means space w v₄ g z₁ y₁ o (rewrapped x.shape.kind c x y)
            said_part {x} {y} t d u {z₁} {y₁} lz ly m q sound wrote = go (sole rules of_list d.name d.nullable d.core y d.run d.dictionaries (passed_on d.run u d.run_pass)) (begins_behind d le)
              where
                go : Sole rules of_list d.name d.nullable d.core y d.run → Behind d → Means space w v₄ g z₁ y₁ o (rewrapped x.shape.kind c x y)
                go f i =
                    let made = field d.part_name d.part_nullable d.part d.part_parts (nest d.kept (alone f.name₁ f.nullable₁ view)) in
                    let is = d.is ∙ ap (λ (v : Fields). field d.part_name d.part_nullable d.part d.part_parts (nest d.kept v)) f.is in
                    let stands = typed_side swap space s w v₃ g.at (g.label + g.name_len) room kept_all t in
                    let chain = chain_side swap space s w v₃ g.at (g.label + g.name_len) room kept_all (subst (Chain space (side swap s w) descent.run) f.is i.1.0) in
                    let ends : descent.run + size f.type ≡ l + size x = omega (arith, i.1.1, ap (λ (v : Fields). count v) f.is, alone_count f.name₁ f.nullable₁ f.type) in
                    let parts : ChainIs space v₄ a (count x.parts) (length (labels x.parts)) o (Some made)
                    = placed.means l x d.part_name d.part_nullable d.part d.part_parts d.kept f.name₁ f.nullable₁ f.type stands d.first is chain ends in
                    let v = f.answers m q (view_is wrote) in
                    let plain : m ≡ view = view_plain m sound (view_is wrote) in
                    means_for space w v₄ g z₁ y₁ o lz (omega (arith, ly))
                    (ap (λ (n : DataType). Some (type_of x.shape (field d.part_name d.part_nullable d.part d.part_parts (nest d.kept (alone f.name₁ f.nullable₁ n))))) (sym plain)
                    ∙ sym (part_of t d u f is i.0 v))
                    (parent_means v₄ (count x.parts) (length (labels x.parts)) o (Some made) (parent t) (ap (link_to (g.at + 1)) is) kept₄ parts)

        -- whatever became of it
        module _ (wr : Writes space w v₄ g o) (f : (x y : DataType) (t : Typed space (side swap s w) l x) (d : Way x) → Typed space (side (not swap) s w) r y → (m : DataType) → c d.core y ≡ Some m → Sound m
            → Wrote space v₃ b e (alone d.name d.nullable m) → Means space w v₄ g (size x + size y) (letters x + letters y) o (rewrapped x.shape.kind c x y)) where
          each : (x y : DataType) (t : Typed space (side swap s w) l x) (d : Way x) → Typed space (side (not swap) s w) r y → (z₀ y₀ : ℕ) (m : Option DataType) → c d.core y ≡ m → If Sound m
              → ChainIs space v₃ b z₀ y₀ (Ok e) (field_of d.name d.nullable m) → Means space w v₄ g (size x + size y) (letters x + letters y) o (rewrapped x.shape.kind c x y)
          each x y t d u z₀ y₀ None q sound i = absurd i
          each x y t d u z₀ y₀ (Some m) q sound i = f x y t d u m q sound i

          all : Merges answer space (left + 1) swap s w v₄ l r g o
          all =
              merged v₄ o wr
              (λ x t d y u q.
              let a = d.stands.held.source.right in
              let i = u.chain.held.source.right in
              each x y t d u 0 0 (c d.core y) refl (coercion_sound rules d.core y (own_right a.0, a.1.0) (own_right i.0, i.1.0)) (core mf t d y u q))

        pub settled_on : Merges answer space (left + 1) swap s w v₄ l r g o
        settled_on = go (run_gives_way space v₃ descent b.at) refl
          where
            go : (i : Bool) → run_gives_way space v₃ descent b.at ≡ i → Merges answer space (left + 1) swap s w v₄ l r g o
            go false h = all (stayed h) (λ x y t d u m q sound wrote. said_stays h t d u _ _ m q wrote)
            go true h =
                ⊎_elim (λ lt. all (replaced h lt) (λ x y t d u m q sound wrote. said_whole h lt t d u _ (omega arith) m q sound wrote))
                (λ le. all (renewed h le) (λ x y t d u m q sound wrote. said_part h le t d u (omega arith) (omega arith) m q sound wrote)) (cases_lt descent.run descent.first)

        -- the table of partners stays true
        pub settled_tabled : {table : List ℕ} → Tabled space s v₃ table → Tabled space s v₄ table
        settled_tabled {table} p = go (run_gives_way space v₃ descent b.at) refl
          where
            room₃ : Room v₃ space
            room₃ = room_kept kept_all room

            go : (i : Bool) → run_gives_way space v₃ descent b.at ≡ i → Tabled space s v₄ table
            go false h = subst (λ (x : List ℕ). Tabled space s x table) (sym (st.stays h).1) p
            go true h = ⊎_elim (λ lt. tabled_over room₃ (st.whole h lt).writes.kept p) (λ le. tabled_over room₃ (st.part h le).kept p) (cases_lt descent.run descent.first)
