-- A walk down the wrappers that are passed. Assumes nothing.
use mathlib.Core.Path.{◌≡◌, refl, ap, sym, subst, ◌∙◌}
use mathlib.Core.Bool.{Bool, true, false, cond, not, ◌&&◌, ◌||◌}
use mathlib.Core.List.{List, [], ◌∷◌, ◌++◌}
use mathlib.Core.Logic.{◌⊎◌, inl, inr, ⊎_elim}
use Prim.Native.Nat.{ℕ, ◌+◌, ◌<◌, ◌≤◌}
use native.Mathlib.Omega.{arith}
use Rattle.std.proofs.lemmas.List.{append_assoc}
use lib.Dec.{eqb, ltb}
use lib.ListN.{length}
use Rattle.sheet.specs.Types.{Fields, end, field, count, own_labels, labels}
use Rattle.sheet.specs.Head.{head_at}
use Rattle.sheet.specs.declared.Head.{Head}
use Rattle.sheet.proofs.Booleans.{never}
use Rattle.coercion.specs.Data.{DataType, size}
use Rattle.buffers.specs.Target.{type_of}
use Rattle.buffers.specs.Region.{Held}
use Rattle.buffers.specs.Typed.{Chain, Typed}
use Rattle.buffers.specs.declared.Space.{Space}
use Rattle.buffers.proofs.Sources.{link_inside}
use Rattle.buffers.proofs.Chained.{held_first, held_next}
use Rattle.buffers.proofs.Rows.{chain_typed}
use Rattle.sheet.specs.Kind.{is_wrapper}
use Rattle.wrappers.proofs.Cores.{wrapper_is}
use Rattle.wrappers.proofs.Values.{Two, typed_two}
use Rattle.merge.specs.Descent.{passes, Wrapper, alone, nest, AllPass, AllDictionaries, innermost, Begins, Descends, Descended, Stops}
use Rattle.merge.proofs.Merging.{typed_kind}

-- wrappers inside others
pub nest_append : (zs ys : List Wrapper) (f : Fields) → nest (zs ++ ys) f ≡ nest zs (nest ys f)
unfolding nest
nest_append [] ys f = refl
nest_append (z ∷ zs) ys f = ap (λ (t : Fields). field z.name z.nullable z.shape (field z.part_name z.part_nullable z.part z.part_parts t) end) (nest_append zs ys f)

pub pass_append : (j : ℕ) (zs ys : List Wrapper) → AllPass j zs → AllPass j ys → AllPass j (zs ++ ys)
pass_append j [] ys a b = b
pass_append j (z ∷ zs) ys a b = (a.0, pass_append j zs ys a.1 b)

dictionaries_append : (zs ys : List Wrapper) → AllDictionaries zs → AllDictionaries ys → AllDictionaries (zs ++ ys)
dictionaries_append [] ys a b = b
dictionaries_append (z ∷ zs) ys a b = (a.0, dictionaries_append zs ys a.1 b)

-- the innermost of wrappers is the last
innermost_last : (k : ℕ) (zs : List Wrapper) (z : Wrapper) → innermost k (zs ++ (z ∷ [])) ≡ z.shape.kind
innermost_last k [] z = refl
innermost_last k (y ∷ zs) z = innermost_last y.shape.kind zs z

-- a kind that is passed is a wrapper's
pub passes_wrapper : (k j : ℕ) → passes k j ≡ true → is_wrapper k ≡ true
passes_wrapper k j h = go (eqb k 37) (eqb k 38) h
  where
    go : (a b : Bool) → (a && not (eqb j 37)) || (b && ltb j 37) ≡ true → a || b ≡ true
    go true b h = refl
    go false true h = refl
    go false false h = never h

-- the value of a wrapper, and its record, which ends the wrapper
record Beneath (space : Space) (s : List ℕ) (link next : ℕ) (t : DataType) : Type 0 where
  two : Two t.parts
  chain : Chain space s next (alone two.n₂ two.b₂ (type_of two.s₂ two.p₂))
  ends : next + size (type_of two.s₂ two.p₂) ≡ link + size t

above : {space : Space} {s : List ℕ} {link next : ℕ} {t : DataType} → Beneath space s link next t → link < next
unfolding count
above {t = t} u = omega (arith, u.ends, ap (λ (f : Fields). count f) {x = t.parts} {y = field u.two.n u.two.b u.two.s u.two.p (field u.two.n₂ u.two.b₂ u.two.s₂ u.two.p₂ end)} u.two.is)

module _ {space : Space} {s : List ℕ} {link : ℕ} {t : DataType} (a : Typed space s link t) (h : Head) (e : h ≡ head_at s link) (g : Head) (eg : g ≡ head_at s h.first) where
  held_parts : (x : Two t.parts) → Held space s link h.first (a.chain.at + 1) (a.chain.label + length (own_labels a.name t.shape)) t.shape.kind (field x.n x.b x.s x.p (field x.n₂ x.b₂ x.s₂ x.p₂ end))
  held_parts x = subst (λ (f : Fields). Held space s link h.first (a.chain.at + 1) (a.chain.label + length (own_labels a.name t.shape)) t.shape.kind f) x.is (held_first a.chain.held h e)

  held_beneath : (x : Two t.parts) → Held space s h.first g.next (a.chain.at + 1 + 1 + count x.p) (a.chain.label + length (own_labels a.name t.shape) + length (own_labels x.n x.s) + length (labels x.p))
      t.shape.kind (field x.n₂ x.b₂ x.s₂ x.p₂ end)
  held_beneath x = held_next (held_parts x) g eg

  wrapper_first : Two t.parts → h.first ≡ link + 1
  wrapper_first x = omega (arith, a.chain.held.source.leads.is, (held_parts x).source.leads.is)

  beneath : is_wrapper t.shape.kind ≡ true → Beneath space s link g.next t
  unfolding count
  beneath w =
      let x = typed_two w refl a in
      let v = held_beneath x in
      record {
        two = x;
        chain = record { floor = h.first; at = _; label = _; up = t.shape.kind; held = v };
        ends = omega (arith, a.chain.held.source.leads.is, v.source.leads.is, ap (λ (f : Fields). count f) x.is);
      }

-- the wrapper that the walk begins with
module _ {space : Space} {s : List ℕ} {k l next run : ℕ} (er : run ≡ cond (eqb k 38) next l) (x : DataType) (ek : x.shape.kind ≡ k) (u : Beneath space s l next x) where
  abbrev t : Two x.parts
  t = u.two

  begun : (k ≡ 37) ⊎ (k ≡ 38) → Begins space s l x [] run (alone t.n₂ t.b₂ (type_of t.s₂ t.p₂))
  unfolding count
  begun (inl q) = inl (ek ∙ q, (refl, er ∙ rw q refl))
  begun (inr q) =
      let i : run ≡ next = er ∙ rw q refl in
      inr (ek ∙ q, (subst (λ (r : ℕ). Chain space s r (alone t.n₂ t.b₂ (type_of t.s₂ t.p₂))) (sym i) u.chain, omega (arith, i, u.ends)))

  outermost : (j : ℕ) → is_wrapper k ≡ true → {first : ℕ} → first ≡ l + 1 → Descends space s j l (record { first = first; core = next; run = run }) x
  unfolding nest
  outermost j w ef =
      record {
        first = ef;
        part_name = t.n;
        part_nullable = t.b;
        part = t.s;
        part_parts = t.p;
        kept = [];
        run = [];
        name = t.n₂;
        nullable = t.b₂;
        core = type_of t.s₂ t.p₂;
        is = t.is;
        kept_pass = tt;
        run_pass = tt;
        dictionaries = tt;
        stands = u.chain;
        ends = u.ends;
        begins = begun (wrapper_is k w);
      }

pub walk_begun : {space : Space} {s : List ℕ} {k j l : ℕ} (h : Head) → h ≡ head_at s l → (g : Head) → g ≡ head_at s h.first → is_wrapper k ≡ true → {run : ℕ}
    → run ≡ cond (eqb k 38) g.next l → Descended space s k j l (record { first = h.first; core = g.next; run = run })
walk_begun {j = j} h e g eg w er x a ek =
    let u = beneath a h e g eg (subst (λ (i : ℕ). is_wrapper i ≡ true) (sym ek) w) in
    outermost er x ek u j w (wrapper_first a h e g eg u.two)

-- one more wrapper, which is passed
module _ {space : Space} {s : List ℕ} {j l first at run k next' next : ℕ} (passed : passes k j ≡ true) (en : next ≡ cond (eqb k 38) next' run)
    (x : DataType) (d : Descends space s j l (record { first = first; core = at; run = run }) x) (ek : k ≡ d.core.shape.kind) (u : Beneath space s at next' d.core) where
  abbrev v : Two d.core.parts
  v = u.two

  -- the wrapper, and the field of its value
  abbrev z : Wrapper
  z = record { name = d.name; nullable = d.nullable; shape = d.core.shape; part_name = v.n; part_nullable = v.b; part = v.s; part_parts = v.p }

  abbrev own : Fields
  own = alone v.n₂ v.b₂ (type_of v.s₂ v.p₂)

  taken : alone d.name d.nullable d.core ≡ nest (z ∷ []) own
  unfolding nest
  taken = ap (λ (f : Fields). field d.name d.nullable d.core.shape f end) v.is

  stepped : (kept' run' : List Wrapper) → nest d.kept (nest d.run (alone d.name d.nullable d.core)) ≡ nest kept' (nest run' own) → AllPass j kept' → AllPass j run' → AllDictionaries run'
      → Begins space s l x kept' next (nest run' own) → Descends space s j l (record { first = first; core = next'; run = next }) x
  stepped kept' run' q a b c i =
      record {
        first = d.first;
        part_name = d.part_name;
        part_nullable = d.part_nullable;
        part = d.part;
        part_parts = d.part_parts;
        kept = kept';
        run = run';
        name = v.n₂;
        nullable = v.b₂;
        core = type_of v.s₂ v.p₂;
        is = d.is ∙ ap (λ (f : Fields). field d.part_name d.part_nullable d.part d.part_parts f) q;
        kept_pass = a;
        run_pass = b;
        dictionaries = c;
        stands = u.chain;
        ends = u.ends ∙ d.ends;
        begins = i;
      }

  pass : passes z.shape.kind j ≡ true
  pass = subst (λ (i : ℕ). passes i j ≡ true) ek passed

  run_on : nest d.run (alone d.name d.nullable d.core) ≡ nest (d.run ++ (z ∷ [])) own
  run_on = ap (nest d.run) taken ∙ sym (nest_append d.run (z ∷ []) own)

  -- a Dictionary
  longer : k ≡ 37 → Descends space s j l (record { first = first; core = next'; run = next }) x
  unfolding nest
  longer q =
      stepped d.kept (d.run ++ (z ∷ [])) (ap (nest d.kept) run_on) d.kept_pass (pass_append j d.run (z ∷ []) d.run_pass (pass, tt)) (dictionaries_append d.run (z ∷ []) d.dictionaries (sym ek ∙ q, tt))
      (subst (λ (f : Fields). Begins space s l x d.kept next f) run_on
      (subst (λ (i : ℕ). Begins space s l x d.kept i (nest d.run (alone d.name d.nullable d.core))) (sym (en ∙ rw q refl)) d.begins))

  -- run ends
  anew : k ≡ 38 → Descends space s j l (record { first = first; core = next'; run = next }) x
  unfolding nest count
  anew q =
      let i : next ≡ next' = en ∙ rw q refl in
      stepped (d.kept ++ (d.run ++ (z ∷ []))) [] (ap (nest d.kept) run_on ∙ sym (nest_append d.kept (d.run ++ (z ∷ [])) own))
      (pass_append j d.kept (d.run ++ (z ∷ [])) d.kept_pass (pass_append j d.run (z ∷ []) d.run_pass (pass, tt))) tt tt
      (inr (
        ap (λ (zs : List Wrapper). innermost x.shape.kind zs) (sym (append_assoc d.kept d.run (z ∷ []))) ∙ innermost_last x.shape.kind (d.kept ++ d.run) z ∙ sym ek ∙ q,
        (
          subst (λ (r : ℕ). Chain space s r own) (sym i) u.chain,
          omega (arith, i, u.ends, d.ends),
        ),
      ))

  further : Descends space s j l (record { first = first; core = next'; run = next }) x
  further = ⊎_elim longer anew (wrapper_is k (passes_wrapper k j passed))

pub walk_on : {space : Space} {s : List ℕ} {k j l first at run : ℕ} (h : Head) → h ≡ head_at s at → passes h.kind j ≡ true → (g : Head) → g ≡ head_at s h.first
    → {next : ℕ} → next ≡ cond (eqb h.kind 38) g.next run → Descended space s k j l (record { first = first; core = at; run = run }) → Descended space s k j l (record { first = first; core = g.next; run = next })
walk_on {j = j} h e passed g eg en f x a ek =
    let d = f x a ek in
    let typed = chain_typed d.stands in
    let k = typed_kind h e typed in
    further passed en x d k (beneath typed h e g eg (subst (λ (i : ℕ). is_wrapper i ≡ true) k (passes_wrapper h.kind j passed)))

-- where the walk stops
module _ {space : Space} {s : List ℕ} {k j l first at run : ℕ} (f : Descended space s k j l (record { first = first; core = at; run = run })) where
  pub walk_past : space.n ≤ at → Stops space s k j l (record { first = first; core = at; run = run })
  walk_past h x a ek = absurd (omega (arith, h, link_inside (f x a ek).stands.held.source))

  module _ (h : Head) (e : h ≡ head_at s at) where
    pub walk_stopped : passes h.kind j ≡ false → Stops space s k j l (record { first = first; core = at; run = run })
    walk_stopped n x a ek = ap (λ (g : Head). passes g.kind j) (sym e) ∙ n

    pub walk_lost : passes h.kind j ≡ true → (g : Head) → g ≡ head_at s h.first → g.next ≤ at → Stops space s k j l (record { first = first; core = at; run = run })
    walk_lost passed g eg le x a ek =
        let typed = chain_typed (f x a ek).stands in
        absurd (omega (arith, le, above (beneath typed h e g eg (subst (λ (i : ℕ). is_wrapper i ≡ true) (typed_kind h e typed) (passes_wrapper h.kind j passed)))))
