-- What is known of where two types differ, for their parts and for each row of these. Assumes nothing.
use mathlib.Core.Path.{◌≡◌, refl, ap, ap₂, sym, subst, ◌∙◌}
use mathlib.Core.Bool.{Bool, true, false, cond, ◌&&◌, ◌||◌}
use mathlib.Core.List.{List}
use mathlib.Core.Logic.{◌⊎◌, inl, inr}
use Rattle.std.specs.Prelude.{Option, None, Some}
use Rattle.std.proofs.lemmas.Option.{none-some, same_Some}
use Prim.Native.Nat.{ℕ, ◌+◌, ◌<◌, ◌≤◌}
use native.Mathlib.Omega.{arith}
use lib.Dec.{eqb, ltb}
use borrow.Author.Tests.{ltb-true, ltb-false, eqb-true, eqb-false}
use Rattle.sheet.specs.Types.{Shape, Fields, end, field, arity, count}
use Rattle.sheet.specs.Head.{head_at}
use Rattle.sheet.specs.Encode.{link_to}
use Rattle.sheet.specs.Read.{walk_from}
use Rattle.sheet.specs.declared.Head.{Head}
use Rattle.sheet.proofs.Reading.{holds_walk}
use Rattle.coercion.specs.Data.{DataType}
use Rattle.buffers.specs.Source.{type_of}
use Rattle.buffers.specs.Differ.{fields_differ, type_differs, RowsKnown}
use Rattle.partners.specs.Feeds.{EndOf, Feeds, Fed}
use Rattle.buffers.specs.Typed.{Chain, Typed}
use Rattle.buffers.specs.declared.Space.{Space}
use Rattle.partners.specs.declared.Row.{Row}
use Rattle.partners.specs.declared.Feed.{Feed}
use Rattle.buffers.proofs.Sources.{source_first, link_is}
use Rattle.buffers.proofs.Differing.{from_link, fields_within, parts_differ, row_same, row_differs}
use Rattle.partners.proofs.Known.{row_begins, row_follows, next_at_lem, behind_known}
use Rattle.partners.proofs.Naming.{end_next}
use Rattle.buffers.proofs.Rows.{chain_next}
use Rattle.wrappers.proofs.Values.{chain_first, Two}
use Rattle.merge.specs.Known.{Differs, row_known, known_names}

-- one chain stands at a link
chain_one : {space : Space} {s : List ℕ} {link : ℕ} (a b : Fields) → Chain space s link a → Chain space s link b → a ≡ b
chain_one end end x y = refl
chain_one end (field n c s p q) x y = absurd (omega (arith, x.held.source.leads.is, y.held.source.leads.is, y.held.source.leads.above))
chain_one (field n c s p q) end x y = absurd (omega (arith, y.held.source.leads.is, x.held.source.leads.is, x.held.source.leads.above))
chain_one {space} {s} {link} (field n c sh p q) (field n' c' sh' p' q') x y =
    sym (walked (field n c sh p q) x (omega arith) x.held.source.leads.is)
    ∙ walked (field n' c' sh' p' q') y (omega arith) y.held.source.leads.is
  where
    fuel : ℕ
    fuel = count (field n c sh p q) + count (field n' c' sh' p' q')

    walked : (t : Fields) (z : Chain space s link t) → count t ≤ fuel → link ≡ z.at → walk_from fuel s space.n link link ≡ t
    walked t z h e =
        let i = z.held.source in
        ap (λ (r : ℕ). walk_from fuel s space.n link r) e
        ∙ ap (λ (k : ℕ). walk_from fuel s space.n k z.at) i.leads.is
        ∙ holds_walk fuel s space.n z.at z.label z.up t i.right i.leads.holds (omega (arith, i.leads.above)) i.leads.inside h i.short

-- the type at a link is that of the field there
typed_one : {space : Space} {s : List ℕ} {i : ℕ} {y : DataType} (n : List ℕ) (c : Bool) (sh : Shape) (p q : Fields) → Typed space s i y → Chain space s i (field n c sh p q) → y ≡ type_of sh p
typed_one {y = y} n c sh p q a b =
    let one : field a.name a.nullable y.shape y.parts a.rest ≡ field n c sh p q = chain_one _ _ a.chain b in
    let es : y.shape ≡ sh = cc in
    let ep : y.parts ≡ p = cc in
    ap₂ type_of es ep

-- where the parts of a record begin
module _ {space : Space} {s : List ℕ} {link : ℕ} {name : List ℕ} {nullable : Bool} {shape : Shape} {parts rest : Fields}
    (c : Chain space s link (field name nullable shape parts rest)) (h : Head) (e : h ≡ head_at s link) where
  first_at_lem : h.first ≡ link_to (link + 1) parts
  first_at_lem = (source_first c.held.source h e).leads.is ∙ ap (λ (r : ℕ). link_to (r + 1) parts) (sym (link_is c.held.source))

-- what is known of two chains, of their names
pub names_known : (known : Option ℕ) (named : Bool) (l : ℕ) (lf pf : Fields) → RowsKnown known named l lf pf → RowsKnown (known_names named known) true l lf pf
names_known known true l lf pf k = k
names_known known false l lf pf k = λ d e. absurd (none-some d e)

-- what is known of two types, of their parts
pub parts_known : (known : Option ℕ) (named : Bool) {space : Space} {s : List ℕ} {l : ℕ} (x y : DataType) → Typed space s l x → (h : Head) → h ≡ head_at s l → Differs known named l x y
    → RowsKnown known named h.first x.parts y.parts
parts_known known named {l = l} x y a h e k d f pos le =
    let p = first_at_lem a.chain h e in
    let i = at_parts x.parts p pos in
    from_link named 0 (l + 1) x.parts y.parts p ∙ parts_differ named l d x y (k d f) (omega arith)
  where
    at_parts : (t : Fields) → h.first ≡ link_to (l + 1) t → 0 < h.first → h.first ≡ l + 1
    at_parts end e lt = absurd (omega arith)
    at_parts (field n c sh p q) e lt = e

-- the ends of a chain that have as many fields are one
end_short : (a t : Fields) → EndOf a t → arity a ≤ arity t
unfolding arity
end_short a end e = omega (arith, ap arity e)
end_short a (field n c s p q) (inl e) = omega (arith, ap arity e)
end_short a (field n c s p q) (inr e) = omega (arith, end_short a q e)

end_one : (a b t : Fields) → EndOf a t → EndOf b t → arity a ≡ arity b → a ≡ b
unfolding arity
end_one a b end x y e = x ∙ sym y
end_one a b (field n c s p q) (inl x) (inl y) e = x ∙ sym y
end_one a b (field n c s p q) (inl x) (inr y) e = absurd (omega (arith, ap arity x, end_short b q y))
end_one a b (field n c s p q) (inr x) (inl y) e = absurd (omega (arith, ap arity y, end_short a q x))
end_one a b (field n c s p q) (inr x) (inr y) e = end_one a b q x y e

-- the chain at the place of the rows behind the first is what follows the field at its place
behind_is : {space : Space} {s : List ℕ} (feed : Feed) (name : List ℕ) {nullable : Bool} (shape : Shape) (parts : Fields) {rest rf tf nf : Fields} {row : Row}
    (n : List ℕ) (c : Bool) (sh : Shape) (p q : Fields) → Feeds feed (field name nullable shape parts rest) rf (field n c sh p q) tf nf
    → (f : Fed space s feed nullable rest rf row tf nf) → f.behind ≡ q
unfolding arity
behind_is Feed.Place name shape parts n c sh p q i f = let a = f.types in let b = f.feeds.0 in let d = i.0 in cc
behind_is Feed.Own name shape parts n c sh p q i f = let a = f.types in let b = f.feeds.0 in let d = i.0 in cc
behind_is Feed.Name name shape parts {rf = rf} n c sh p q i f =
    end_one f.behind q rf f.feeds.1.1.0.0 (end_next n c sh p q rf i.1.1.0.0) (omega (arith, i.1.1.1, f.feeds.1.1.1))
behind_is Feed.NameThenPlace name shape parts n c sh p q i f = let a = f.nullables in let b = f.feeds.1.0 in let d = i.1.0 in cc

-- a row at l, of which something may be known, and the record next that follows it
module _ (known : Option ℕ) (named : Bool) {space : Space} {s : List ℕ} {l : ℕ} (name : List ℕ) (nullable : Bool) (shape : Shape) (parts rest : Fields)
    (a : Chain space s l (field name nullable shape parts rest)) (next : ℕ) (en : next ≡ link_to (l + 1 + count parts) rest) where
  begins : 0 < l
  begins = row_begins name nullable shape parts rest a

  pub rest_known : {t : List ℕ} (feed : Feed) {rf tf nf : Fields} (pf : Fields) {row : Row} → Feeds feed (field name nullable shape parts rest) rf pf tf nf
      → (f : Fed space t feed nullable rest rf row tf nf) → RowsKnown known named l (field name nullable shape parts rest) pf → RowsKnown known named next rest f.behind
  unfolding fields_differ
  rest_known feed end i f k = λ d e pos le. let z = row_follows rest en (λ z. omega arith) in absurd (omega (arith, k d e begins (omega arith)))
  rest_known feed (field n c sh p q) i f k = subst (RowsKnown known named next rest) (sym (behind_is feed name shape parts n c sh p q i f)) (behind_known known named name nullable shape parts rest a next en n c sh p q k)

  -- of its own types, where it is fed from its place
  ended : (r : Fields) → next ≡ link_to (l + 1 + count parts) r → next ≡ 0 → count r ≡ 0
  unfolding count
  ended end e z = refl
  ended (field n c sh p q) e z = absurd (omega arith)

  of_types : (d : ℕ) (n : List ℕ) (c : Bool) (sh : Shape) (p q : Fields) → fields_differ named 0 l (field name nullable shape parts rest) (field n c sh p q) ≡ d → l < d
      → type_differs named l (type_of shape parts) (type_of sh p) ≡ cond (eqb next 0 || ltb d next) d 0
  unfolding count
  of_types d n c sh p q e lt = go (eqb next 0) refl (ltb d next) refl
    where
      last : count rest ≡ 0 → d < l + 1 + count parts
      last z = within _ (fields_within named 0 l (field name nullable shape parts rest) (field n c sh p q)) e
        where
          within : (i : ℕ) → (i ≡ 0) ⊎ ((i ≡ 0) ⊎ ((l ≤ i) × (i < l + count (field name nullable shape parts rest)))) → i ≡ d → d < l + 1 + count parts
          within m (inl i) e = absurd (omega arith)
          within m (inr (inl i)) e = absurd (omega arith)
          within m (inr (inr i)) e = omega arith

      go : (u : Bool) → eqb next 0 ≡ u → (v : Bool) → ltb d next ≡ v → type_differs named l (type_of shape parts) (type_of sh p) ≡ cond (u || v) d 0
      go true eu v ev = row_differs named l d name nullable shape parts rest n c sh p q e lt (last (ended rest en (eqb-true next 0 eu)))
      go false eu true ev =
          let i = row_follows rest en (eqb-false next 0 eu) in
          row_differs named l d name nullable shape parts rest n c sh p q e lt (omega (arith, ltb-true d next ev))
      go false eu false ev =
          let i = row_follows rest en (eqb-false next 0 eu) in
          (row_same named l d name nullable shape parts rest n c sh p q e lt (omega (arith, ltb-false d next ev))).0

  pub row_known_lem : {t : List ℕ} {partner p : ℕ} (pf : Fields) {y : DataType} → Chain space t p pf → Typed space t partner y
      → RowsKnown known named l (field name nullable shape parts rest) pf → Differs (row_known known l next partner p) named l (type_of shape parts) y
  row_known_lem {t} {partner} {p} pf {y} b c k = go known k
    where
      fed : (d : ℕ) (pf : Fields) → partner ≡ p → Chain space t p pf → RowsKnown (Some d) named l (field name nullable shape parts rest) pf → l < d
          → type_differs named l (type_of shape parts) y ≡ cond (eqb next 0 || ltb d next) d 0
      fed d end e b k lt = absurd (omega (arith, b.held.source.leads.is, c.chain.held.source.leads.is, c.chain.held.source.leads.above))
      fed d (field n nb sh ps q) e b k lt =
          ap (λ (z : DataType). type_differs named l (type_of shape parts) z) (typed_one n nb sh ps q (subst (λ (i : ℕ). Typed space t i y) e c) b)
          ∙ of_types d n nb sh ps q (k d refl begins (omega arith)) lt

      found : (d : ℕ) → RowsKnown (Some d) named l (field name nullable shape parts rest) pf → (u : Bool) → eqb partner p ≡ u → (v : Bool) → ltb l d ≡ v
          → Differs (cond (u && v) (Some (cond (eqb next 0 || ltb d next) d 0)) None) named l (type_of shape parts) y
      found d k true eu true ev i f = fed d pf (eqb-true partner p eu) b k (ltb-true l d ev) ∙ same_Some _ i f
      found d k true eu false ev i f = absurd (none-some i f)
      found d k false eu v ev i f = absurd (none-some i f)

      go : (o : Option ℕ) → RowsKnown o named l (field name nullable shape parts rest) pf → Differs (row_known o l next partner p) named l (type_of shape parts) y
      go None k i f = absurd (none-some i f)
      go (Some d) k i f = found d k (eqb partner p) refl (ltb l d) refl i f

-- what is known of two wrappers, of their values
pub value_known : (known : Option ℕ) (named : Bool) {space : Space} {s t : List ℕ} {l r i j : ℕ} (x y : DataType) {u v : DataType} → Two x.parts → Two y.parts → Typed space s l x → Typed space t r y
    → i ≡ (head_at s (head_at s l).first).next → j ≡ (head_at t (head_at t r).first).next → Typed space s i u → Typed space t j v → Differs known named l x y
    → Differs (row_known known i 0 j j) named i u v
value_known known named {space} {s} {t} {l} {r} {i} {j} x y {u} {v} p q a b ei ej c d k =
    let f = subst (Chain space s (head_at s l).first) p.is (chain_first (head_at s l) refl a.chain) in
    let g = subst (Chain space t (head_at t r).first) q.is (chain_first (head_at t r) refl b.chain) in
    let m = subst (λ (e : ℕ). Chain space s e (field p.n₂ p.b₂ p.s₂ p.p₂ end)) (sym ei) (chain_next f (head_at s (head_at s l).first) refl) in
    let n = subst (λ (e : ℕ). Chain space t e (field q.n₂ q.b₂ q.s₂ q.p₂ end)) (sym ej) (chain_next g (head_at t (head_at t r).first) refl) in
    let rows = subst (λ (e : Fields). RowsKnown known named (head_at s l).first x.parts e) q.is (parts_known known named x y a (head_at s l) refl k) in
    let both = subst (λ (e : Fields). RowsKnown known named (head_at s l).first e (field q.n q.b q.s q.p (field q.n₂ q.b₂ q.s₂ q.p₂ end))) p.is rows in
    let behind = behind_known known named p.n p.b p.s p.p (field p.n₂ p.b₂ p.s₂ p.p₂ end) f i (ei ∙ next_at_lem f (head_at s (head_at s l).first) refl) q.n q.b q.s q.p _ both in
    subst (λ (z : DataType). Differs (row_known known i 0 j j) named i z v) (sym (typed_one p.n₂ p.b₂ p.s₂ p.p₂ end c m))
    (row_known_lem known named p.n₂ p.b₂ p.s₂ p.p₂ end m 0 refl _ n d behind)
