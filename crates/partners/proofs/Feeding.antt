-- The rows of a chain that is fed, by each way of feeding. Assumes nothing.
use mathlib.Core.Path.{◌≡◌, refl, ap₂, sym, subst, ◌∙◌}
use Rattle.std.proofs.lemmas.Option.{same_Some}
use mathlib.Core.Bool.{Bool, true, false, not, ◌||◌}
use mathlib.Core.List.{List}
use mathlib.Core.Logic.{inl, inr}
use Rattle.std.specs.Prelude.{Option, Some}
use Prim.Native.Nat.{ℕ, ◌<◌}
use native.Mathlib.Omega.{arith}
use Rattle.sheet.specs.Types.{Shape, Fields, end, field, arity}
use Rattle.sheet.specs.Names.{repeats}
use Rattle.sheet.specs.Head.{head_at}
use Rattle.sheet.specs.declared.Head.{Head}
use Rattle.coercion.specs.Nested.{by_name}
use Rattle.buffers.specs.Writes.{side}
use Rattle.buffers.specs.Target.{type_of}
use Rattle.buffers.specs.Differ.{RowsKnown}
use Rattle.partners.specs.Feeds.{EndOf, Feeds, Fed, RowIs}
use Rattle.buffers.specs.Typed.{Chain}
use Rattle.partners.specs.Naming.{Picks, RowPairs, row_of}
use Rattle.buffers.specs.declared.Space.{Space}
use Rattle.partners.specs.declared.Row.{Row}
use Rattle.partners.specs.declared.Feed.{Feed}
use Rattle.buffers.proofs.Rows.{chain_end, chain_typed, chain_next, chain_nullable}
use Rattle.partners.proofs.Naming.{some_not_none, name_missing, Stepped, by_name_step, end_next, end_takes}

module _ (known : Option ℕ) (space : Space) (swap : Bool) (s w : List ℕ) (l r : ℕ) (x : Head) (ex : x ≡ head_at (side swap s w) l) where
  abbrev S : List ℕ
  S = side swap s w

  abbrev T : List ℕ
  T = side (not swap) s w

  module _ (p : ℕ) (y : Head) (ey : y ≡ head_at T p) where
    pub row_place : {row : Row} → row ≡ row_of p x y y.next → RowIs known space swap s w Feed.Place l r p row
    row_place e = subst (RowIs known space swap s w Feed.Place l r p) (sym e) (record { fed = go; unfed = λ name nullable shape parts rest rf pf tf nf a b c f d z. inl (f.0 ∙ chain_end z c) })
      where
        go : (name : List ℕ) (nullable : Bool) (shape : Shape) (parts rest rf pf tf nf : Fields) → Chain space S l (field name nullable shape parts rest)
            → Chain space T r rf → Chain space T p pf → Feeds Feed.Place (field name nullable shape parts rest) rf pf tf nf
            → RowsKnown known true l (field name nullable shape parts rest) pf → 0 < p → Fed space T Feed.Place nullable rest rf (row_of p x y y.next) tf nf
        go name nullable shape parts rest rf end tf nf a b c f d q = absurd (omega (arith, c.held.source.leads.is))
        go name nullable shape parts rest rf (field name' nullable' shape' parts' rest') tf nf a b c f d q =
            record {
              name = name';
              own = nullable';
              type = type_of shape' parts';
              more = rest';
              types = f.0;
              partner = chain_typed c;
              name' = name';
              joined = nullable';
              shape' = shape';
              parts' = parts';
              nulls = rest';
              nullables = f.1;
              joins = ap₂ (λ (i j : Bool). i || j) (chain_nullable a x ex) (chain_nullable c y ey);
              behind = rest';
              next = chain_next c y ey;
              feeds = (refl, refl);
            }

    pub row_own : {row : Row} → row ≡ row_of p x x y.next → RowIs known space swap s w Feed.Own l r p row
    row_own e = subst (RowIs known space swap s w Feed.Own l r p) (sym e) (record { fed = go; unfed = λ name nullable shape parts rest rf pf tf nf a b c f d z. inl (f.0 ∙ chain_end z c) })
      where
        go : (name : List ℕ) (nullable : Bool) (shape : Shape) (parts rest rf pf tf nf : Fields) → Chain space S l (field name nullable shape parts rest)
            → Chain space T r rf → Chain space T p pf → Feeds Feed.Own (field name nullable shape parts rest) rf pf tf nf
            → RowsKnown known true l (field name nullable shape parts rest) pf → 0 < p → Fed space T Feed.Own nullable rest rf (row_of p x x y.next) tf nf
        go name nullable shape parts rest rf end tf nf a b c f d q = absurd (omega (arith, c.held.source.leads.is))
        go name nullable shape parts rest rf (field name' nullable' shape' parts' rest') tf nf a b c f d q =
            record {
              name = name';
              own = nullable';
              type = type_of shape' parts';
              more = rest';
              types = f.0;
              partner = chain_typed c;
              name' = name;
              joined = nullable;
              shape' = shape;
              parts' = parts;
              nulls = rest;
              nullables = f.1;
              joins = ap₂ (λ (i j : Bool). i || j) (chain_nullable a x ex) (chain_nullable a x ex);
              behind = rest';
              next = chain_next c y ey;
              feeds = (refl, refl);
            }

  -- a row that is fed by name
  module _ (p : ℕ) (y : Head) (ey : y ≡ head_at T p) where
    module _ (found : ℕ) (k : RowPairs known space S T l r p found) where
      module _ {name : List ℕ} {nullable : Bool} {shape : Shape} {parts rest rf pf tf : Fields} (a : Chain space S l (field name nullable shape parts rest))
          (b : Chain space T r rf) (c : Chain space T p pf) (i : EndOf pf rf) (j : RowsKnown known true l (field name nullable shape parts rest) pf) (f : by_name (field name nullable shape parts rest) rf ≡ Some tf) (d : repeats rf ≡ false) where
        picks : Picks space T name rf found
        picks = k name nullable shape parts rest rf pf a b c i j

        step : Stepped name rest rf tf
        step = by_name_step name nullable shape parts rest rf tf f

        lacking {ℓ} : {A : Type ℓ} → found ≡ 0 → A
        lacking z = some_not_none (name_missing name rf step.more (picks.missing z)) step.takes

        types_are : (q : 0 < found) → tf ≡ field name (picks.present q).nullable (picks.present q).shape (picks.present q).parts step.more
        types_are q =
            let m = picks.present q in
            same_Some _ _ (sym step.takes ∙ end_takes name m.nullable m.shape m.parts m.rest rf m.ends d step.more)

      pub row_named : (h : Head) → h ≡ head_at T found → {row : Row} → row ≡ row_of found x h y.next → RowIs known space swap s w Feed.Name l r p row
      unfolding arity
      row_named h eh e =
          subst (RowIs known space swap s w Feed.Name l r p) (sym e)
          (record { fed = go; unfed = λ name nullable shape parts rest rf pf tf nf a b c f d z. lacking a b c f.1.1.0.0 d f.0 f.1.1.0.1 z })
        where
          go : (name : List ℕ) (nullable : Bool) (shape : Shape) (parts rest rf pf tf nf : Fields) → Chain space S l (field name nullable shape parts rest)
              → Chain space T r rf → Chain space T p pf → Feeds Feed.Name (field name nullable shape parts rest) rf pf tf nf
              → RowsKnown known true l (field name nullable shape parts rest) pf → 0 < found → Fed space T Feed.Name nullable rest rf (row_of found x h y.next) tf nf
          go name nullable shape parts rest rf end tf nf a b c f d q = absurd (omega (arith, f.1.1.1))
          go name nullable shape parts rest rf (field name' nullable' shape' parts' rest') tf nf a b c f d q =
              let m = (picks a b c f.1.1.0.0 d f.0 f.1.1.0.1).present q in
              let st = step a b c f.1.1.0.0 d f.0 f.1.1.0.1 in
              let ty = types_are a b c f.1.1.0.0 d f.0 f.1.1.0.1 q in
              record {
                name = name;
                own = m.nullable;
                type = type_of m.shape m.parts;
                more = st.more;
                types = ty;
                partner = chain_typed m.chain;
                name' = name;
                joined = m.nullable;
                shape' = m.shape;
                parts' = m.parts;
                nulls = st.more;
                nullables = f.1.0 ∙ ty;
                joins = ap₂ (λ (i j : Bool). i || j) (chain_nullable a x ex) (chain_nullable m.chain h eh);
                behind = rest';
                next = chain_next c y ey;
                feeds = (st.behind, (refl, ((end_next name' nullable' shape' parts' rest' rf f.1.1.0.0, f.1.1.0.1), omega (arith, f.1.1.1))));
              }

      pub row_named_place : ¬ (p ≡ 0) → {row : Row} → row ≡ row_of found x y y.next → RowIs known space swap s w Feed.NameThenPlace l r p row
      row_named_place z {row} e =
          subst (RowIs known space swap s w Feed.NameThenPlace l r p) (sym e)
          (record { fed = go; unfed = λ name nullable shape parts rest rf pf tf nf a b c f d z. lacking a b c f.1.1.0 d f.0 f.1.1.1 z })
        where
          go : (name : List ℕ) (nullable : Bool) (shape : Shape) (parts rest rf pf tf nf : Fields) → Chain space S l (field name nullable shape parts rest)
              → Chain space T r rf → Chain space T p pf → Feeds Feed.NameThenPlace (field name nullable shape parts rest) rf pf tf nf
              → RowsKnown known true l (field name nullable shape parts rest) pf → 0 < found → Fed space T Feed.NameThenPlace nullable rest rf (row_of found x y y.next) tf nf
          go name nullable shape parts rest rf end tf nf a b c f d q = absurd (z c.held.source.leads.is)
          go name nullable shape parts rest rf (field name' nullable' shape' parts' rest') tf nf a b c f d q =
              let m = (picks a b c f.1.1.0 d f.0 f.1.1.1).present q in
              let st = step a b c f.1.1.0 d f.0 f.1.1.1 in
              record {
                name = name;
                own = m.nullable;
                type = type_of m.shape m.parts;
                more = st.more;
                types = types_are a b c f.1.1.0 d f.0 f.1.1.1 q;
                partner = chain_typed m.chain;
                name' = name';
                joined = nullable';
                shape' = shape';
                parts' = parts';
                nulls = rest';
                nullables = f.1.0;
                joins = ap₂ (λ (i j : Bool). i || j) (chain_nullable a x ex) (chain_nullable c y ey);
                behind = rest';
                next = chain_next c y ey;
                feeds = (st.behind, (refl, (end_next name' nullable' shape' parts' rest' rf f.1.1.0, f.1.1.1)));
              }

    pub row_no_place : p ≡ 0 → {row : Row} → row ≡ row_of 0 x y y.next → RowIs known space swap s w Feed.NameThenPlace l r p row
    row_no_place z {row} e =
        subst (RowIs known space swap s w Feed.NameThenPlace l r p) (sym e)
        (record {
          fed = λ name nullable shape parts rest rf pf tf nf a b c f d q. absurd (omega arith);
          unfed = λ name nullable shape parts rest rf pf tf nf a b c f d q. inr (f.1.0 ∙ chain_end z c);
        })
