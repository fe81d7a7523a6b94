-- Two chains whose names are looked at place by place, until two differ. Assumes nothing.
use mathlib.Core.Path.{◌≡◌, refl, ap, sym, subst, ◌∙◌}
use mathlib.Core.Bool.{Bool, true, false, cond, ◌&&◌}
use mathlib.Core.List.{List}
use Rattle.std.specs.Prelude.{Option, None, Some}
use Rattle.std.specs.Bool.{then_some}
use Prim.Native.Nat.{ℕ, ◌+◌, ◌<◌, ◌≤◌}
use native.Mathlib.Omega.{arith}
use lib.ListN.{length}
use lib.Dec.{ltb}
use borrow.Author.Tests.{lt-ltb, ltb-true}
use Rattle.sheet.specs.Types.{Shape, Fields, end, field}
use Rattle.sheet.specs.Head.{head_at}
use Rattle.sheet.specs.Read.{label_at}
use Rattle.sheet.specs.Names.{same_bytes, has_name}
use Rattle.sheet.specs.declared.Head.{Head}
use Rattle.sheet.proofs.Bytewise.{same_equal}
use Rattle.sheet.proofs.Booleans.{and_fst, and_snd}
use Rattle.coercion.specs.Nested.{fields_have_same_names}
use Rattle.buffers.specs.Differ.{RowsKnown, known_past}
use Rattle.buffers.specs.Region.{Held}
use Rattle.buffers.specs.Typed.{Chain}
use Rattle.partners.specs.Feeds.{EndOf}
use Rattle.partners.specs.Partners.{same_order}
use Rattle.buffers.specs.declared.Space.{Space}
use Rattle.partners.specs.declared.Feed.{Feed}
use Rattle.buffers.proofs.Sources.{link_inside}
use Rattle.buffers.proofs.Chained.{held_next}
use Rattle.buffers.proofs.Rows.{chain_next}
use Rattle.partners.proofs.Known.{next_at_lem, known_some, known_name, behind_known}
use Rattle.partners.specs.Naming.{Finds, Within, noted, Notes, Matched, Walked, StructsFed}
use Rattle.partners.proofs.Noting.{noted_long, notes_trans, noted_says}
use Rattle.partners.proofs.Naming.{end_next, end_has, held_past, name_is, within_next, within_here, want_is, pairs_found}

-- which fields feed those of lf, of which the first stands at the place of the first of pf, a part of rf
abbrev feed_from : Feed → Fields → Fields → Fields → Option Feed
feed_from by_name lf pf rf = cond (same_order lf pf) (Some Feed.Place) (cond (fields_have_same_names lf rf) (Some by_name) None)

-- the same of the chain at i, the part at j and the whole at r, where something may be known of the names at i and j
abbrev FedFrom : Option ℕ → Feed → Space → List ℕ → List ℕ → ℕ → ℕ → ℕ → ℕ → Option Feed → Type 0
FedFrom known by_name space s t low i r j feed =
    (a o up : ℕ) (lf pf rf : Fields) → Held space s low i a o up lf → Chain space t j pf → EndOf pf rf → Chain space t r rf → RowsKnown known true i lf pf → feed ≡ feed_from by_name lf pf rf

-- the walk under way, in buffers of n records: what its rest says of the whole, and what was noted
pub record Walking (n : ℕ) (s t : List ℕ) (known : Option ℕ) (by_name : Feed) (floor l r key : ℕ) (old : List ℕ) (low i j : ℕ) (table : List ℕ) : Type 0 where
  pub long : length table ≡ length old
  pub notes : Notes n s t key old table
  pub within : Within n t r j
  pub whole : (feed : Option Feed) → ((space : Space) → n ≡ space.n → FedFrom known by_name space s t low i r j feed)
      → (space : Space) → n ≡ space.n → StructsFed known by_name space s t floor l r feed

-- the returns of the walk
module _ (n : ℕ) (s t : List ℕ) (known : Option ℕ) (by_name : Feed) (floor l r key : ℕ) (old : List ℕ) (low i j : ℕ) (table : List ℕ)
    (q : Walking n s t known by_name floor l r key old low i j table) where
  walked : (feed : Option Feed) → ((space : Space) → n ≡ space.n → FedFrom known by_name space s t low i r j feed) → Walked n s t known by_name floor l r key old table feed
  walked feed f = record { long = q.long; notes = q.notes; feeds = q.whole feed f }

  pub walk_none : i ≤ low → Walked n s t known by_name floor l r key old table (Some Feed.Place)
  unfolding same_order
  walk_none h = walked (Some Feed.Place) go
    where
      go : (space : Space) → n ≡ space.n → FedFrom known by_name space s t low i r j (Some Feed.Place)
      go space en a o up end pf rf x p k y d = refl
      go space en a o up (field name nullable shape parts rest) pf rf x p k y d = absurd (omega (arith, x.source.leads.is, x.source.leads.above))

  module _ (past : low < i) where
    pub walk_past : n ≤ i → Walked n s t known by_name floor l r key old table None
    walk_past h = walked None (λ space en a o up lf pf rf x p k y d. absurd (held_past lf past (omega arith) x))

    module _ (g h : Head) (eg : g ≡ head_at s i) (eh : h ≡ head_at t j) where
      -- two names that are the same, and the chains behind them
      step : (feed : Option Feed) → ((space : Space) → n ≡ space.n → FedFrom known by_name space s t i g.next r h.next feed) → (space : Space) → n ≡ space.n → (a o up : ℕ)
          (name : List ℕ) (nullable : Bool) (shape : Shape) (parts rest : Fields) (name' : List ℕ) (nullable' : Bool) (shape' : Shape) (parts' rest' rf : Fields)
          → Held space s low i a o up (field name nullable shape parts rest) → Chain space t j (field name' nullable' shape' parts' rest') → EndOf (field name' nullable' shape' parts' rest') rf
          → Chain space t r rf → RowsKnown known true i (field name nullable shape parts rest) (field name' nullable' shape' parts' rest') → same_bytes name name' ≡ true
          → feed ≡ feed_from by_name (field name nullable shape parts rest) (field name' nullable' shape' parts' rest') rf
      unfolding same_order fields_have_same_names
      step feed f space e a o up name nullable shape parts rest name' nullable' shape' parts' rest' rf x p k y d same =
          let has = ap (λ (u : List ℕ). has_name u rf) (same_equal name name' same) ∙ end_has name' nullable' shape' parts' rest' rf k in
          let c : Chain space s i (field name nullable shape parts rest) = record { floor = low; at = a; label = o; up = up; held = x } in
          rw same (rw has (f space e _ _ _ rest rest' rf (held_next x g eg) (chain_next p h eh) (end_next name' nullable' shape' parts' rest' rf k) y
          (behind_known known true name nullable shape parts rest c g.next (next_at_lem c g eg) name' nullable' shape' parts' rest' d)))

      -- the names are known to be the same
      pub walk_known : {b : Bool} → b ≡ (ltb 0 j && known_past known i) → b ≡ true → Walking n s t known by_name floor l r key old i g.next h.next table
      walk_known e b =
          record {
            long = q.long;
            notes = q.notes;
            within = within_next n t r j h eh (ltb-true 0 j (and_fst _ (known_past known i) both)) q.within;
            whole = λ feed f. q.whole feed (go feed f);
          }
        where
          both : (ltb 0 j && known_past known i) ≡ true
          both = sym e ∙ b

          z : known_past known i ≡ true
          z = and_snd (ltb 0 j) _ both

          go : (feed : Option Feed) → ((space : Space) → n ≡ space.n → FedFrom known by_name space s t i g.next r h.next feed)
              → (space : Space) → n ≡ space.n → FedFrom known by_name space s t low i r j feed
          go feed f space e a o up end pf rf x p k y d = absurd (omega (arith, x.source.leads.is))
          go feed f space e a o up (field name nullable shape parts rest) end rf x p k y d =
              absurd (known_some known name nullable shape parts rest (omega arith) z d)
          go feed f space e a o up (field name nullable shape parts rest) (field name' nullable' shape' parts' rest') rf x p k y d =
              step feed f space e a o up name nullable shape parts rest name' nullable' shape' parts' rest' rf x p k y d
              (known_name known name nullable shape parts rest (omega arith) z name' nullable' shape' parts' rest' d)

    module _ (g h : Head) (eg : g ≡ head_at s i) (eh : h ≡ head_at t j) (want : List ℕ) (ew : want ≡ label_at s n g.name g.name_len) {named : Bool}
        (en : named ≡ (ltb 0 j && (ltb j n && same_bytes want (label_at t n h.name h.name_len)))) where
      -- the name of a field at the place of another
      names_are : (space : Space) → n ≡ space.n → {a o up : ℕ} {name : List ℕ} {nullable : Bool} {shape : Shape} {parts rest : Fields} (name' : List ℕ) {nullable' : Bool} {shape' : Shape} {parts' rest' : Fields}
          → Held space s low i a o up (field name nullable shape parts rest) → Chain space t j (field name' nullable' shape' parts' rest') → same_bytes name name' ≡ named
      names_are space e name' x y =
          let some : 0 < j = omega (arith, y.held.source.leads.is, y.held.source.leads.above) in
          let less : j < n = omega (arith, e, link_inside y.held.source) in
          ap (λ (u : List ℕ). same_bytes u name') (sym (want_is n s i g eg want ew space e x)) ∙ name_is n t want j h eh refl space e y.held.source
          ∙ sym (en ∙ rw (lt-ltb 0 j some) (rw (lt-ltb j n less) refl))

      -- the search goes on from two names that differ
      pub walk_search : named ≡ false → (new : List ℕ) (b : Bool) → Matched n s t low i r key table new b → {feed : Option Feed} → feed ≡ then_some b by_name
          → Walked n s t known by_name floor l r key old new feed
      unfolding same_order
      walk_search z new b m {feed} ef =
          record { long = m.long ∙ q.long; notes = notes_trans n s t key old table new q.notes m.notes; feeds = q.whole feed go }
        where
          some : (b : Bool) → then_some b by_name ≡ cond b (Some by_name) None
          some true = refl
          some false = refl

          is : (space : Space) → n ≡ space.n → (a o up : ℕ) (lf rf : Fields) → Held space s low i a o up lf → Chain space t r rf
              → feed ≡ cond (fields_have_same_names lf rf) (Some by_name) None
          is space e a o up lf rf x y = ef ∙ some b ∙ ap (λ (c : Bool). cond c (Some by_name) None) (m.asks space e a o up lf rf x y)

          go : (space : Space) → n ≡ space.n → FedFrom known by_name space s t low i r j feed
          go space e a o up end pf rf x p k y d = absurd (omega (arith, x.source.leads.is))
          go space e a o up (field name nullable shape parts rest) end rf x p k y d = is space e a o up (field name nullable shape parts rest) rf x y
          go space e a o up (field name nullable shape parts rest) (field name' nullable' shape' parts' rest') rf x p k y d =
              rw (names_are space e name' x p ∙ z) (is space e a o up (field name nullable shape parts rest) rf x y)

      -- the names are the same, and the partner was noted
      module _ (z : named ≡ true) where
        some : 0 < j
        some = ltb-true 0 j (and_fst _ _ (sym en ∙ z))

        less : j < n
        less = ltb-true j n (and_fst _ _ (and_snd (ltb 0 j) _ (sym en ∙ z)))

        finds : Finds n t want r j
        finds = within_here n t r j h eh some q.within want (sym (and_snd (ltb j n) _ (and_snd (ltb 0 j) _ (sym en ∙ z))))

        pub walk_on : n ≤ 1024 → i < n → {new : List ℕ} → new ≡ noted table (key + i) r j → Walking n s t known by_name floor l r key old i g.next h.next new
        walk_on few hi {new} eo =
            record {
              long = ap length eo ∙ noted_long table (key + i) r j ∙ q.long;
              notes =
                  subst (Notes n s t key old) (sym eo)
                  (notes_trans n s t key old table (noted table (key + i) r j) q.notes
                  (noted_says n s t key table i r j (omega arith) (omega (arith, less)) some (pairs_found n s i g eg want ew t r j finds)));
              within = within_next n t r j h eh some q.within;
              whole = λ feed f. q.whole feed (go feed f);
            }
          where
            go : (feed : Option Feed) → ((space : Space) → n ≡ space.n → FedFrom known by_name space s t i g.next r h.next feed)
                → (space : Space) → n ≡ space.n → FedFrom known by_name space s t low i r j feed
            go feed f space e a o up end pf rf x p k y d = absurd (omega (arith, x.source.leads.is))
            go feed f space e a o up (field name nullable shape parts rest) end rf x p k y d = absurd (omega (arith, some, p.held.source.leads.is))
            go feed f space e a o up (field name nullable shape parts rest) (field name' nullable' shape' parts' rest') rf x p k y d =
                step g h eg eh feed f space e a o up name nullable shape parts rest name' nullable' shape' parts' rest' rf x p k y d (names_are space e name' x p ∙ z)
