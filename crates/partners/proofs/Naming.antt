-- Fields that are fed by their names: on trees, and in the chains of two sources. Assumes nothing.
use mathlib.Core.Path.{◌≡◌, refl, ap, ap₂, sym, subst, ◌∙◌}
use Rattle.std.proofs.lemmas.Option.{none-some}
use Rattle.std.proofs.lemmas.List.Elements.{All-replicate}
use mathlib.Core.Bool.{Bool, true, false, ◌||◌}
use mathlib.Core.Logic.{inl, inr}
use mathlib.Core.List.{List}
use Rattle.std.specs.Prelude.{Option, None, Some}
use Prim.Native.Nat.{ℕ, suc, ◌+◌, ◌*◌, ◌<◌, ◌≤◌}
use native.Mathlib.Omega.{arith}
use lib.ListN.{length, drop, replicate, length-take}
use lib.Dec.{eqb, eqb-suc-suc}
use borrow.Author.Tests.{eq-eqb, ne_eqb}
use Rattle.sheet.specs.Types.{Shape, Fields, end, field, arity, count, labels}
use Rattle.sheet.specs.Head.{head_at}
use Rattle.sheet.specs.Read.{label_at}
use Rattle.sheet.specs.Names.{same_bytes, has_name, repeats, names_differ}
use Rattle.sheet.specs.Bounds.{Bounded}
use Rattle.sheet.specs.declared.Head.{Head}
use Rattle.sheet.proofs.Bytewise.{same_self, same_equal}
use Rattle.sheet.proofs.Booleans.{never, and_fst, and_snd, or_fst, or_snd}
use Rattle.coercion.specs.Data.{and_then}
use Rattle.coercion.specs.Nested.{with_name, by_name, fields_have_same_names}
use Rattle.coercion.proofs.Maybe.{if_some}
use Rattle.coercion.proofs.Weights.{nothing, one, name_length, zone_length, records_weigh, labels_weigh, differ_apart, by_name_lem}
use Rattle.buffers.specs.Region.{Held}
use Rattle.buffers.specs.Typed.{Chain}
use Rattle.partners.specs.Feeds.{EndOf}
use Rattle.buffers.specs.Source.{Source}
use Rattle.partners.specs.Partners.{same_order}
use Rattle.partners.specs.Naming.{Picks, Finds, Tried, Within, Member, Lists, noted, Notes, Matched}
use Rattle.buffers.specs.declared.Space.{Space}
use Rattle.buffers.proofs.Sources.{source_none, source_lower, link_inside, read_name}
use Rattle.buffers.proofs.Chained.{held_next}
use Rattle.partners.proofs.Noting.{Pairs, picks_end, noted_long, notes_trans, noted_says}

-- a name has at most 255 bytes
pub label_short : (s : List ℕ) (n : ℕ) {h : Head} {u : List ℕ} → Bounded h → u ≡ label_at s n h.name h.name_len → length u ≤ 255
label_short s n {h} b e =
    let k = ap length e ∙ length-take h.name_len (drop (16 * n + h.name) s) in
    omega (arith, b.name_len, k)

pub some_not_none {ℓ} : {A : Type 0} {B : Type ℓ} {o : Option A} {a : A} → o ≡ None → o ≡ Some a → B
some_not_none {a = a} e f = absurd (none-some a (sym e ∙ f))

-- a name that no field has
pub name_missing : (name : List ℕ) (t more : Fields) → has_name name t ≡ false → with_name name t more ≡ None
unfolding has_name with_name
name_missing name end more h = refl
name_missing name (field label nullable shape parts rest) more h =
    rw (or_fst (same_bytes name label) (has_name name rest) h) (name_missing name rest more (or_snd (same_bytes name label) (has_name name rest) h))

-- a name that a field has
record Takes (name : List ℕ) (t more : Fields) : Type 0 where
  fields : Fields
  is : with_name name t more ≡ Some fields

name_present : (name : List ℕ) (t more : Fields) → has_name name t ≡ true → Takes name t more
unfolding has_name with_name
name_present name end more h = never h
name_present name (field label nullable shape parts rest) more h = go (same_bytes name label) refl (name_present name rest more)
  where
    go : (b : Bool) → same_bytes name label ≡ b → (has_name name rest ≡ true → Takes name rest more) → Takes name (field label nullable shape parts rest) more
    go true e f = record { fields = field label nullable shape parts more; is = rw e }
    go false e f =
        let k = f (rw e at h) in
        record { fields = k.fields; is = rw e k.is }

-- the fields of the right that have the left's names
pub record Found (lf rf : Fields) : Type 0 where
  pub fields : Fields
  pub is : by_name lf rf ≡ Some fields

pub names_found : (lf rf : Fields) → fields_have_same_names lf rf ≡ true → Found lf rf
unfolding fields_have_same_names by_name
names_found end rf h = record { fields = end; is = refl }
names_found (field name nullable shape parts rest) rf h =
    let k = names_found rest rf (and_snd (has_name name rf) (fields_have_same_names rest rf) h) in
    let m = name_present name rf k.fields (and_fst (has_name name rf) (fields_have_same_names rest rf) h) in
    record { fields = m.fields; is = rw k.is m.is }

pub names_missing : (lf rf : Fields) → fields_have_same_names lf rf ≡ false → by_name lf rf ≡ None
unfolding fields_have_same_names by_name
names_missing end rf h = never (sym h)
names_missing (field name nullable shape parts rest) rf h = go (has_name name rf) refl (names_missing rest rf)
  where
    lacks : (o : Option Fields) → has_name name rf ≡ false → and_then o (λ more. with_name name rf more) ≡ None
    lacks None e = refl
    lacks (Some more) e = name_missing name rf more e

    go : (b : Bool) → has_name name rf ≡ b → (fields_have_same_names rest rf ≡ false → by_name rest rf ≡ None)
        → and_then (by_name rest rf) (λ more. with_name name rf more) ≡ None
    go true e f = rw (f (rw e at h))
    go false e f = lacks (by_name rest rf) e

-- the first of the fields by name, and those behind it
pub record Stepped (name : List ℕ) (rest rf tf : Fields) : Type 0 where
  pub more : Fields
  pub behind : by_name rest rf ≡ Some more
  pub takes : with_name name rf more ≡ Some tf

pub by_name_step : (name : List ℕ) (nullable : Bool) (shape : Shape) (parts rest rf tf : Fields) → by_name (field name nullable shape parts rest) rf ≡ Some tf
    → Stepped name rest rf tf
unfolding by_name
by_name_step name nullable shape parts rest rf tf = go (by_name rest rf) refl
  where
    go : (o : Option Fields) → by_name rest rf ≡ o → and_then o (λ more. with_name name rf more) ≡ Some tf → Stepped name rest rf tf
    go None e h = some_not_none refl h
    go (Some more) e h = record { more = more; behind = e; takes = h }

-- fields by name weigh no more than the chain that they come from
pub by_name_fits : (lf rf tf : Fields) → repeats lf ≡ false → names_differ rf ≡ true → by_name lf rf ≡ Some tf
    → (count tf ≤ count rf) × (length (labels tf) ≤ length (labels rf))
by_name_fits lf rf tf d h e =
    let x = if_some _ (by_name lf rf) tf (by_name_lem nothing one lf rf d (differ_apart rf h)) e in
    let y = if_some _ (by_name lf rf) tf (by_name_lem name_length zone_length lf rf d (differ_apart rf h)) e in
    (omega (arith, x.0, records_weigh tf, records_weigh rf), omega (arith, y.0, labels_weigh tf, labels_weigh rf))

-- a chain that is held may be asked about from a lower floor
pub held_lower : {space : Space} {s : List ℕ} {floor link r o up : ℕ} {t : Fields} (low : ℕ) → low ≤ floor → Held space s floor link r o up t
    → Held space s low link r o up t
held_lower low h a = record { source = source_lower low h a.source; low = a.low; differ = a.differ }

pub chain_held : {space : Space} {s : List ℕ} {link : ℕ} {t : Fields} (c : Chain space s link t) → Held space s 0 link c.at c.label c.up t
chain_held c = held_lower 0 (omega arith) c.held

-- a link that is past floor and past the records
pub held_past : {space : Space} {s : List ℕ} {floor link r o up : ℕ} (t : Fields) → floor < link → space.n ≤ link → Held space s floor link r o up t → ⊥
held_past end lo hi a = omega (arith, a.source.leads.is)
held_past (field name nullable shape parts rest) lo hi a = omega (arith, link_inside a.source)

or_right : (a : Bool) {b : Bool} → b ≡ true → a || b ≡ true
or_right true h = refl
or_right false h = h

-- a chain is its own end, and so is what stands behind the first field of an end
pub end_self : (t : Fields) → EndOf t t
end_self end = refl
end_self (field name nullable shape parts rest) = inl refl

no_field : {A : Type 0} {name : List ℕ} {nullable : Bool} {shape : Shape} {parts rest : Fields} → field name nullable shape parts rest ≡ end → A
unfolding arity
no_field {rest = rest} e = let q : 1 + arity rest ≡ 0 = ap (λ (x : Fields). arity x) e in absurd (omega arith)

module _ (name : List ℕ) (nullable : Bool) (shape : Shape) (parts rest : Fields) where
  pub end_next : (t : Fields) → EndOf (field name nullable shape parts rest) t → EndOf rest t
  end_next end e = no_field e
  end_next (field n b s p q) (inl e) = subst (EndOf rest) e (inr (end_self rest))
  end_next (field n b s p q) (inr k) = inr (end_next q k)

  -- the first field of an end is one of the chain, and the one that its name takes where no two have one
  pub end_has : (t : Fields) → EndOf (field name nullable shape parts rest) t → has_name name t ≡ true
  unfolding has_name
  end_has end e = no_field e
  end_has (field n b s p q) (inl e) = subst (λ (x : Fields). has_name name x ≡ true) e (rw (same_self name))
  end_has (field n b s p q) (inr k) = or_right (same_bytes name n) (end_has q k)

  pub end_takes : (t : Fields) → EndOf (field name nullable shape parts rest) t → repeats t ≡ false → (more : Fields) → with_name name t more ≡ Some (field name nullable shape parts more)
  unfolding with_name repeats
  end_takes end e d more = no_field e
  end_takes (field n b s p q) (inl e) d more = subst (λ (x : Fields). with_name name x more ≡ Some (field name nullable shape parts more)) e (rw (same_self name))
  end_takes (field n b s p q) (inr k) d more = rw (other (same_bytes name n) refl) (end_takes q k (or_snd (has_name n q) (repeats q) d) more)
    where
      other : (t : Bool) → same_bytes name n ≡ t → same_bytes name n ≡ false
      other false e = e
      other true e =
          never (sym (or_fst (has_name n q) (repeats q) d) ∙ sym (ap (λ (x : List ℕ). has_name x q) (same_equal name n e)) ∙ end_has q k)

-- the name of a record, in a buffer of n records
module _ (n : ℕ) (s want : List ℕ) (link : ℕ) (h : Head) (e : h ≡ head_at s link) where
  pub name_is : {b : Bool} → b ≡ same_bytes want (label_at s n h.name h.name_len) → (space : Space) → n ≡ space.n
      → {floor r o up : ℕ} {label : List ℕ} {nullable : Bool} {shape : Shape} {parts rest : Fields}
      → Source s space.n floor link r o up (field label nullable shape parts rest) → same_bytes want label ≡ b
  name_is b space en a =
      sym (b ∙ ap (λ (k : ℕ). same_bytes want (label_at s k h.name h.name_len)) en ∙ ap (same_bytes want) (read_name a h e))

  -- a record that has the name, at an end of a chain
  pub picks_here : 0 < link → true ≡ same_bytes want (label_at s n h.name h.name_len) → (space : Space) → n ≡ space.n
      → {label : List ℕ} {nullable : Bool} {shape : Shape} {parts rest : Fields} (t : Fields) → Chain space s link (field label nullable shape parts rest)
      → EndOf (field label nullable shape parts rest) t → Picks space s want t link
  picks_here past b space en {label} {nullable} {shape} {parts} {rest} t c k =
      let q : label ≡ want = sym (same_equal want label (name_is b space en c.held.source)) in
      picks_end space s t c k q

-- a search says so of whatever chain stands at a link above a floor
abbrev Seeks : Space → List ℕ → List ℕ → ℕ → ℕ → ℕ → Type 0
Seeks space s name floor link found = (r o up : ℕ) (t : Fields) → Held space s floor link r o up t → Picks space s name t found

-- what the rest of a search says of the whole, in a buffer of n records
abbrev pub Searched : ℕ → List ℕ → List ℕ → ℕ → ℕ → ℕ → Type 0
Searched n s want start floor link = (found : ℕ) → ((space : Space) → n ≡ space.n → Seeks space s want floor link found) → Finds n s want start found

pub finds_from : (n : ℕ) (s want : List ℕ) (start : ℕ) → Searched n s want start 0 start
finds_from n s want start found f space t en y = f space en _ _ _ t (chain_held y)

-- the returns of the search
module _ (n : ℕ) (s : List ℕ) (want : List ℕ) (start floor link : ℕ) (q : Searched n s want start floor link) where
  pub finds_none : link ≤ floor → Finds n s want start 0
  unfolding has_name
  finds_none h =
      q 0 (λ space en r o up t a. record { missing = λ z. ap (has_name want) (source_none h a.source); present = λ p. absurd (omega arith) })

  module _ (past : floor < link) where
    pub finds_past : n ≤ link → Finds n s want start 0
    finds_past h = q 0 (λ space en r o up t a. absurd (held_past t past (omega arith) a))

    module _ (h : Head) (e : h ≡ head_at s link) where
      pub finds_here : true ≡ same_bytes want (label_at s n h.name h.name_len) → Finds n s want start link
      finds_here b = q link go
        where
          go : (space : Space) → n ≡ space.n → Seeks space s want floor link link
          go space en r o up end a = absurd (omega (arith, a.source.leads.is))
          go space en r o up (field label nullable shape parts rest) a =
              picks_here n s want link h e (omega arith) b space en (field label nullable shape parts rest)
              (record { floor = floor; at = r; label = o; up = up; held = a }) (inl refl)

      pub finds_on : false ≡ same_bytes want (label_at s n h.name h.name_len) → Searched n s want start link h.next
      unfolding has_name
      finds_on b found f = q found go
        where
          go : (space : Space) → n ≡ space.n → Seeks space s want floor link found
          go space en r o up end a = absurd (omega (arith, a.source.leads.is))
          go space en r o up (field label nullable shape parts rest) a =
              let m = f space en _ _ _ rest (held_next a h e) in
              record {
                missing = λ z. rw (name_is n s want link h e b space en a.source) (m.missing z);
                present =
                    λ p.
                    let k = m.present p in
                    record { nullable = k.nullable; shape = k.shape; parts = k.parts; rest = k.rest; chain = k.chain; ends = inr k.ends };
              }

-- what is asked of a held chain of the left and a chain of the right
abbrev pub Asks : (Fields → Fields → Bool) → Space → List ℕ → List ℕ → ℕ → ℕ → ℕ → Bool → Type 0
Asks F space s t floor l r b = (a o up : ℕ) (lf rf : Fields) → Held space s floor l a o up lf → Chain space t r rf → b ≡ F lf rf

pub asks_past : (F : Fields → Fields → Bool) (space : Space) (s t : List ℕ) (floor l r : ℕ) (b : Bool) → floor < l → space.n ≤ l → Asks F space s t floor l r b
asks_past F space s t floor l r b lo hi a o up lf rf x y = absurd (held_past lf lo hi x)

-- records of the chain at a link, in a buffer of n records: none, lists of none, and the next
module _ (n : ℕ) (s : List ℕ) (link : ℕ) where
  pub within_none : Within n s link 0
  within_none space t en c p = absurd (omega arith)

  pub lists_none : Lists n s link (replicate 1024 0)
  lists_none = All-replicate (Member n s link) 1024 0 (omega arith, within_none)

  module _ (j : ℕ) (h : Head) (e : h ≡ head_at s j) (past : 0 < j) (w : Within n s link j) where
    pub within_next : Within n s link h.next
    within_next space t en c p = go (w space t en c past).fields (w space t en c past).chain (w space t en c past).ends
      where
        go : (u : Fields) → Chain space s j u → EndOf u t → Tried space s h.next t
        go end d k = absurd (omega (arith, d.held.source.leads.is))
        go (field label nullable shape parts rest) d k =
            record {
              fields = rest;
              chain = record { floor = j; at = _; label = _; up = _; held = held_next d.held h e };
              ends = end_next label nullable shape parts rest t k;
            }

    -- one that has the name
    pub within_here : (want : List ℕ) → true ≡ same_bytes want (label_at s n h.name h.name_len) → Finds n s want link j
    within_here want b space t en c = go (w space t en c past).fields (w space t en c past).chain (w space t en c past).ends
      where
        go : (u : Fields) → Chain space s j u → EndOf u t → Picks space s want t j
        go end d k = absurd (omega (arith, d.held.source.leads.is))
        go (field label nullable shape parts rest) d k = picks_here n s want j h e past b space en t d k

-- the name of record i of s, and what was found of it, in buffers of n records
module _ (n : ℕ) (s : List ℕ) (i : ℕ) (g : Head) (e : g ≡ head_at s i) (want : List ℕ) (ew : want ≡ label_at s n g.name g.name_len) where
  pub want_is : (space : Space) {floor a o up : ℕ} {name : List ℕ} {nullable : Bool} {shape : Shape} {parts rest : Fields} → n ≡ space.n
      → Held space s floor i a o up (field name nullable shape parts rest) → want ≡ name
  want_is space en x = ew ∙ ap (λ (m : ℕ). label_at s m g.name g.name_len) en ∙ read_name x.source g e

  pub pairs_found : (t : List ℕ) (r found : ℕ) → Finds n t want r found → (space : Space) → n ≡ space.n → Pairs space s t i r found
  pairs_found t r found f space en name nullable shape parts rest rf x y =
      subst (λ (u : List ℕ). Picks space t u rf found) (want_is space en x.held) (f space rf en y)

-- the test for all names under way, in buffers of n records: what its rest says of the whole, and what was noted
pub record Matching (n : ℕ) (s t : List ℕ) (floor l r key : ℕ) (old : List ℕ) (low i : ℕ) (table : List ℕ) : Type 0 where
  pub long : length table ≡ length old
  pub notes : Notes n s t key old table
  pub whole : (b : Bool) → ((space : Space) → n ≡ space.n → Asks fields_have_same_names space s t low i r b)
      → (space : Space) → n ≡ space.n → Asks fields_have_same_names space s t floor l r b

pub match_from : (n : ℕ) (s t : List ℕ) (floor l r key : ℕ) (old : List ℕ) → Matching n s t floor l r key old floor l old
match_from n s t floor l r key old = record { long = refl; notes = λ space en k. inl refl; whole = λ b f. f }

-- the returns of that test
module _ (n : ℕ) (s t : List ℕ) (floor l r key : ℕ) (old : List ℕ) (low i : ℕ) (table : List ℕ) (q : Matching n s t floor l r key old low i table) where
  matched : (b : Bool) → ((space : Space) → n ≡ space.n → Asks fields_have_same_names space s t low i r b) → Matched n s t floor l r key old table b
  matched b f = record { long = q.long; notes = q.notes; asks = q.whole b f }

  pub match_none : i ≤ low → Matched n s t floor l r key old table true
  unfolding fields_have_same_names
  match_none h = matched true go
    where
      go : (space : Space) → n ≡ space.n → Asks fields_have_same_names space s t low i r true
      go space en a o up end rf x y = refl
      go space en a o up (field name nullable shape parts rest) rf x y = absurd (omega (arith, x.source.leads.is, x.source.leads.above))

  -- another test decides the rest
  pub match_rest : (new : List ℕ) (b : Bool) → Matched n s t low i r key table new b → Matched n s t floor l r key old new b
  match_rest new b m = record { long = m.long ∙ q.long; notes = notes_trans n s t key old table new q.notes m.notes; asks = q.whole b m.asks }

  module _ (past : low < i) where
    pub match_past : n ≤ i → Matched n s t floor l r key old table false
    match_past h = matched false (λ space en. asks_past fields_have_same_names space s t low i r false past (omega arith))

    module _ (g : Head) (e : g ≡ head_at s i) (want : List ℕ) (ew : want ≡ label_at s n g.name g.name_len) (found : ℕ) (f : Finds n t want r found) where
      pub match_lack : found ≡ 0 → Matched n s t floor l r key old table false
      unfolding fields_have_same_names
      match_lack z = matched false go
        where
          go : (space : Space) → n ≡ space.n → Asks fields_have_same_names space s t low i r false
          go space en a o up end rf x y = absurd (omega (arith, x.source.leads.is))
          go space en a o up (field name nullable shape parts rest) rf x y =
              rw (sym (ap (λ (m : List ℕ). has_name m rf) (want_is n s i g e want ew space en x)) ∙ (f space rf en y).missing z)

      pub match_on : n ≤ 1024 → i < n → found < 1024 → ¬ (found ≡ 0) → {new : List ℕ} → new ≡ noted table (key + i) r found
          → Matching n s t floor l r key old i g.next new
      unfolding fields_have_same_names
      match_on few hi small z {new} en =
          record {
            long = ap length en ∙ noted_long table (key + i) r found ∙ q.long;
            notes = subst (Notes n s t key old) (sym en) (notes_trans n s t key old table (noted table (key + i) r found) q.notes (noted_says n s t key table i r found (omega arith) (omega arith) past_none says));
            whole = λ b m. q.whole b (go b m);
          }
        where
          past_none : 0 < found
          past_none = omega arith

          says : (space : Space) → n ≡ space.n → Pairs space s t i r found
          says = pairs_found n s i g e want ew t r found f

          go : (b : Bool) → ((space : Space) → n ≡ space.n → Asks fields_have_same_names space s t i g.next r b)
              → (space : Space) → n ≡ space.n → Asks fields_have_same_names space s t low i r b
          go b m space es a o up end rf x y = absurd (omega (arith, x.source.leads.is))
          go b m space es a o up (field name nullable shape parts rest) rf x y =
              let here = (says space es name nullable shape parts rest rf (record { floor = low; at = a; label = o; up = up; held = x }) y).present past_none in
              rw (end_has name here.nullable here.shape here.parts here.rest rf here.ends) (m space es _ _ _ rest rf (held_next x g e) y)

-- the returns of the test for arities
abbrev pub same_arity : Fields → Fields → Bool
same_arity lf rf = eqb (arity lf) (arity rf)

eqb_next : (m n : ℕ) → eqb (1 + m) (1 + n) ≡ eqb m n
eqb_next m n =
    let e : 1 + m ≡ suc m = omega arith in
    let f : 1 + n ≡ suc n = omega arith in
    ap₂ eqb e f ∙ eqb-suc-suc m n

-- what the rest of the test says of the whole, in buffers of n records
abbrev pub Counted : ℕ → List ℕ → List ℕ → ℕ → ℕ → ℕ → ℕ → ℕ → ℕ → Type 0
Counted n s t floor l r low i j = (space : Space) → n ≡ space.n → (b : Bool) → Asks same_arity space s t low i j b → Asks same_arity space s t floor l r b

module _ (space : Space) (s t : List ℕ) (floor l r : ℕ) where
  pub arity_none : l ≤ floor → Asks same_arity space s t floor l r (eqb r 0)
  unfolding arity
  arity_none h a o up end end x y = eq-eqb r 0 y.held.source.leads.is
  arity_none h a o up end (field name nullable shape parts rest) x y =
      ne_eqb r 0 (λ e. let p = y.held.source.leads.above in let q = y.held.source.leads.is in absurd (omega arith))
      ∙ sym (ne_eqb 0 (1 + arity rest) (λ e. absurd (omega arith)))
  arity_none h a o up (field name nullable shape parts rest) rf x y = absurd (omega (arith, x.source.leads.is, x.source.leads.above))

  module _ (past : floor < l) where
    pub arity_short : r ≡ 0 → Asks same_arity space s t floor l r false
    unfolding arity
    arity_short z a o up end rf x y = absurd (omega (arith, x.source.leads.is))
    arity_short z a o up (field name nullable shape parts rest) end x y = sym (ne_eqb (1 + arity rest) 0 (λ e. absurd (omega arith)))
    arity_short z a o up (field name nullable shape parts rest) (field name' nullable' shape' parts' rest') x y =
        absurd (omega (arith, y.held.source.leads.is, y.held.source.leads.above))

    pub arity_on : (g h : Head) → ¬ (r ≡ 0) → g ≡ head_at s l → h ≡ head_at t r → (b : Bool) → Asks same_arity space s t l g.next h.next b
        → Asks same_arity space s t floor l r b
    unfolding arity
    arity_on g h z eg eh b k a o up end rf x y = absurd (omega (arith, x.source.leads.is))
    arity_on g h z eg eh b k a o up (field name nullable shape parts rest) end x y = absurd (z y.held.source.leads.is)
    arity_on g h z eg eh b k a o up (field name nullable shape parts rest) (field name' nullable' shape' parts' rest') x y =
        k _ _ _ rest rest' (held_next x g eg) (record { floor = r; at = _; label = _; up = _; held = held_next y.held h eh })
        ∙ sym (eqb_next (arity rest) (arity rest'))

-- names in one order are all there, and a chain of one arity is that of its names
order_within : (lf pf rf : Fields) → EndOf pf rf → same_order lf pf ≡ true → fields_have_same_names lf rf ≡ true
unfolding same_order fields_have_same_names
order_within end pf rf k e = refl
order_within (field name nullable shape parts rest) end rf k e = never e
order_within (field name nullable shape parts rest) (field name' nullable' shape' parts' rest') rf k e =
    let q : name ≡ name' = same_equal name name' (and_fst (same_bytes name name') (same_order rest rest') e) in
    rw (ap (λ (u : List ℕ). has_name u rf) q ∙ end_has name' nullable' shape' parts' rest' rf k)
    (order_within rest rest' rf (end_next name' nullable' shape' parts' rest' rf k) (and_snd (same_bytes name name') (same_order rest rest') e))

pub order_names : (lf rf : Fields) → same_order lf rf ≡ true → fields_have_same_names lf rf ≡ true
order_names lf rf e = order_within lf rf rf (end_self rf) e

by_name_within : (lf pf rf : Fields) → EndOf pf rf → same_order lf pf ≡ true → arity lf ≡ arity pf → repeats rf ≡ false → by_name lf rf ≡ Some pf
unfolding same_order by_name arity
by_name_within end end rf k e a d = refl
by_name_within end (field name nullable shape parts rest) rf k e a d = absurd (omega arith)
by_name_within (field name nullable shape parts rest) end rf k e a d = never e
by_name_within (field name nullable shape parts rest) (field name' nullable' shape' parts' rest') rf k e a d =
    let q : name ≡ name' = same_equal name name' (and_fst (same_bytes name name') (same_order rest rest') e) in
    rw (by_name_within rest rest' rf (end_next name' nullable' shape' parts' rest' rf k) (and_snd (same_bytes name name') (same_order rest rest') e) (omega arith) d)
    (ap (λ (u : List ℕ). with_name u rf rest') q ∙ end_takes name' nullable' shape' parts' rest' rf k d rest')

pub order_by_name : (lf rf : Fields) → same_order lf rf ≡ true → arity lf ≡ arity rf → repeats rf ≡ false → by_name lf rf ≡ Some rf
order_by_name lf rf e a d = by_name_within lf rf rf (end_self rf) e a d
