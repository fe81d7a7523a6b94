-- Two equal names of a chain, by the places of its records. Assumes nothing.
use mathlib.Core.Path.{◌≡◌, refl, ap, sym, ◌∙◌}
use mathlib.Core.Bool.{Bool, true, false, ◌||◌, or-true}
use mathlib.Core.List.{List}
use Prim.Native.Nat.{ℕ, ◌+◌, ◌<◌, ◌≤◌}
use native.Mathlib.Omega.{arith}
use native.Mathlib.Numerals.{add-one}
use lib.Dec.{eqb}
use lib.ListN.{length, length-set, get_or, set, take}
use Rattle.std.proofs.lemmas.Grind.{common_steps}
use borrow.Author.Tests.{eqb-true, eqb-false}
use Rattle.sheet.specs.Types.{Fields, end, field, arity, count}
use Rattle.sheet.specs.Head.{head_at}
use Rattle.sheet.specs.Names.{same_bytes, has_name, repeats}
use Rattle.sheet.specs.Read.{label_at}
use Rattle.sheet.specs.Holds.{Leads}
use Rattle.sheet.specs.declared.Head.{Head}
use Rattle.std.specs.Prelude.{None, Some, Ok, Err}
use Rattle.refusals.specs.RepeatedNames.{Pair, record_name, name_at, placed, FindsEqual, HasEqual, Spells, Known, name_number, Numbered}
use Rattle.sheet.proofs.Booleans.{never}
use Rattle.sheet.proofs.Bytewise.{same_self, same_equal}
use Rattle.refusals.proofs.Marking.{filled_more}
use Rattle.sheet.proofs.Repeating.{name_is, next_leads}

same_of : (xs ys : List ℕ) → xs ≡ ys → same_bytes xs ys ≡ true
same_of xs ys e = ap (same_bytes xs) (sym e) ∙ same_self xs

pub not_same : (xs ys : List ℕ) → same_bytes xs ys ≡ false → xs ≡ ys → ⊥
not_same xs ys h e = never (sym h ∙ same_of xs ys e)

-- a chain that has the names of f
module _ (f : ℕ → List ℕ) (k : ℕ) where
  spells_le : (i : ℕ) (t : Fields) → Spells f k i t → i ≤ k
  spells_le i end p = omega arith
  spells_le i (field name nullable shape parts rest) p = omega (arith, spells_le (i + 1) rest p.1)

  has_at : (i : ℕ) (t : Fields) (x : List ℕ) (j : ℕ) → Spells f k i t → i ≤ j → j < k → x ≡ f j → has_name x t ≡ true
  unfolding has_name
  has_at i end x j p h l e = absurd (omega arith)
  has_at i (field name nullable shape parts rest) x j p h l e = go (eqb i j) refl (λ m. has_at (i + 1) rest x j p.1 m l e)
    where
      go : (c : Bool) → eqb i j ≡ c → (i + 1 ≤ j → has_name x rest ≡ true) → (same_bytes x name || has_name x rest) ≡ true
      go true g v = rw (same_of x name (e ∙ sym (ap f (eqb-true i j g)) ∙ sym p.0))
      go false g v = let n : i ≡ j → ⊥ = eqb-false i j g in rw (v (omega arith)) (or-true (same_bytes x name))

  has_not : (i : ℕ) (t : Fields) (x : List ℕ) → Spells f k i t → ((j : ℕ) → i ≤ j → j < k → x ≡ f j → ⊥) → has_name x t ≡ false
  unfolding has_name
  has_not i end x p n = refl
  has_not i (field name nullable shape parts rest) x p n =
      rw (go (same_bytes x name) refl) (has_not (i + 1) rest x p.1 (λ j h l e. n j (omega arith) l e))
    where
      go : (c : Bool) → same_bytes x name ≡ c → c ≡ false
      go true g = absurd (n i (omega arith) (omega (arith, spells_le (i + 1) rest p.1)) (same_equal x name g ∙ p.0))
      go false g = refl

  repeats_at : (i : ℕ) (t : Fields) (a b : ℕ) → Spells f k i t → i ≤ a → a < b → b < k → f a ≡ f b → repeats t ≡ true
  unfolding repeats
  repeats_at i end a b p h l m e = absurd (omega arith)
  repeats_at i (field name nullable shape parts rest) a b p h l m e = go (eqb i a) refl (λ w. repeats_at (i + 1) rest a b p.1 w l m e)
    where
      go : (c : Bool) → eqb i a ≡ c → (i + 1 ≤ a → repeats rest ≡ true) → (has_name name rest || repeats rest) ≡ true
      go true g v = let q : i ≡ a = eqb-true i a g in rw (has_at (i + 1) rest name b p.1 (omega arith) m (p.0 ∙ ap f q ∙ e))
      go false g v = let n : i ≡ a → ⊥ = eqb-false i a g in rw (v (omega arith)) (or-true (has_name name rest))

  repeats_not : (i : ℕ) (t : Fields) → Spells f k i t → FindsEqual f k (Ok None) → repeats t ≡ false
  unfolding repeats
  repeats_not i end p d = refl
  repeats_not i (field name nullable shape parts rest) p d =
      rw (has_not (i + 1) rest name p.1 (λ j h l e. d i j (omega arith) l (sym p.0 ∙ e))) (repeats_not (i + 1) rest p.1 d)

  pub told : (t : Fields) (p : Pair) → Spells f k 0 t → FindsEqual f k p → Known p (repeats t)
  told t (Ok (Some p)) w v = sym (repeats_at 0 t p.0 p.1 w (omega arith) v.0 v.1.0 v.1.1)
  told t (Ok None) w v = sym (repeats_not 0 t w v)
  told t (Err _) w v = tt

  -- that two are equal, or that all differ, is what is said of the chain
  pub told_whether : (t : Fields) (b : Bool) → Spells f k 0 t → HasEqual f k b → b ≡ repeats t
  told_whether t false w e = sym (repeats_not 0 t w (e.0 refl))
  told_whether t true w e = go (repeats t) refl
    where
      go : (c : Bool) → repeats t ≡ c → true ≡ c
      go true q = refl
      go false q = absurd (e.1 refl (λ a b l m g. never (sym q ∙ repeats_at 0 t a b w (omega arith) l m g)))

  spells_as : (g : ℕ → List ℕ) → ((i : ℕ) → i < k → f i ≡ g i) → (i : ℕ) (t : Fields) → Spells f k i t → Spells g k i t
  spells_as g e i end p = p
  spells_as g e i (field name nullable shape parts rest) p =
      (p.0 ∙ e i (omega (arith, spells_le (i + 1) rest p.1)), spells_as g e (i + 1) rest p.1)

-- the same of the first records of a list
pub told_first : (s : List ℕ) (n : ℕ) (recs : List ℕ) (k : ℕ) (t : Fields) (b : Bool) → k ≤ length recs → Spells (name_at s n recs) k 0 t
    → HasEqual (name_at s n (take k recs)) (length (take k recs)) b → b ≡ repeats t
told_first s n recs k t b h w e =
    let long : length (take k recs) ≡ k = grind (arith, common_steps) in
    told_whether (name_at s n (take k recs)) k t b
    (spells_as (name_at s n recs) k (name_at s n (take k recs)) (λ i l. ap (record_name s n) (grind (arith, common_steps))) 0 t w) (rw long at e)

-- the names of a chain by place
abbrev pub names : List ℕ → ℕ → ℕ → ℕ → List ℕ
names s n link i = record_name s n (placed s link i)

placed_next : (s : List ℕ) (link i : ℕ) → placed s link (i + 1) ≡ (head_at s (placed s link i)).next
unfolding placed
placed_next s link i = ap (placed s link) (add-one i)

-- the record at a place of a chain: its name, and the next
module _ (s : List ℕ) (n link at k : ℕ) (e : at ≡ placed s link k) (h : Head) (q : h ≡ head_at s at) where
  pub name_here : label_at s n h.name h.name_len ≡ names s n link k
  name_here = ap (λ (g : Head). label_at s n g.name g.name_len) q ∙ ap (record_name s n) e

  pub next_here : h.next ≡ placed s link (k + 1)
  next_here = ap (λ (g : Head). g.next) q ∙ ap (λ (i : ℕ). (head_at s i).next) e ∙ sym (placed_next s link k)

spells_on : (s : List ℕ) (n link k fl i r o : ℕ) (t : Fields) → Leads s n fl (placed s link i) r o t → i + arity t ≡ k → Spells (names s n link) k i t
unfolding arity
spells_on s n link k fl i r o end l e = omega arith
spells_on s n link k fl i r o (field name nullable shape parts rest) l e =
    let at = placed s link i in (
      sym (name_is s n fl at r o name nullable shape parts rest l (head_at s at) refl),
      spells_on s n link k at (i + 1) _ _ rest (rw (sym (placed_next s link i)) at (next_leads s n fl at r o name nullable shape parts rest l (head_at s at) refl)) (omega arith),
    )

pub spells : (s : List ℕ) (n floor link k r o : ℕ) (t : Fields) → Leads s n floor link r o t → arity t ≡ k → Spells (names s n link) k 0 t
unfolding placed
spells s n floor link k r o t l e = spells_on s n link k floor 0 r o t l (omega arith)

-- what is left of a chain after its first k records
pub record Rest (s : List ℕ) (n low at k : ℕ) (t : Fields) : Type 0 where
  pub rest : Fields
  pub r : ℕ
  pub o : ℕ
  pub leads : Leads s n low at r o rest
  pub long : arity t ≡ k + arity rest

-- the first k records of the chain from link were passed, low the last of them, and at is the next
pub record Followed (s : List ℕ) (n floor link low at k : ℕ) : Type 0 where
  pub reached : at ≡ placed s link k
  pub counted : k ≤ low
  pub onward : (r o : ℕ) (t : Fields) → Leads s n floor link r o t → Rest s n low at k t

module _ (s : List ℕ) (n floor link : ℕ) where
  pub followed_none : Followed s n floor link floor link 0
  unfolding placed
  followed_none = record { reached = refl; counted = omega arith; onward = λ r o t l. record { rest = t; r = r; o = o; leads = l; long = omega arith } }

  module _ (low at k : ℕ) (p : Followed s n floor link low at k) where
    pub followed_low : at ≤ low → (r o : ℕ) (t : Fields) → Leads s n floor link r o t → arity t ≡ k
    unfolding arity
    followed_low h r o t l = go (p.onward r o t l).rest (p.onward r o t l).leads (p.onward r o t l).long
      where
        go : (u : Fields) {q v : ℕ} → Leads s n low at q v u → arity t ≡ k + arity u → arity t ≡ k
        go end m e = omega arith
        go (field name nullable shape parts rest) m e = absurd (omega (arith, m.is, m.above))

    module _ (lo : low < at) where
      pub followed_high : n ≤ at → (r o : ℕ) (t : Fields) → Leads s n floor link r o t → ⊥
      unfolding count
      followed_high hi r o t l = go (p.onward r o t l).rest (p.onward r o t l).leads
        where
          go : (u : Fields) {q v : ℕ} → Leads s n low at q v u → ⊥
          go end m = omega (arith, m.is)
          go (field name nullable shape parts rest) m = omega (arith, m.is, m.inside)

      pub followed_more : (r o : ℕ) (t : Fields) → Leads s n floor link r o t → k < arity t
      unfolding arity
      followed_more r o t l = go (p.onward r o t l).rest (p.onward r o t l).leads (p.onward r o t l).long
        where
          go : (u : Fields) {q v : ℕ} → Leads s n low at q v u → arity t ≡ k + arity u → k < arity t
          go end m e = absurd (omega (arith, m.is))
          go (field name nullable shape parts rest) m e = omega arith

      module _ (h : Head) (e : h ≡ head_at s at) where
        pub followed_next : Followed s n floor link at h.next (k + 1)
        unfolding arity
        followed_next =
            record {
              reached = next_here s n link at k p.reached h e;
              counted = omega (arith, p.counted);
              onward = λ r o t l. go t (p.onward r o t l).rest (p.onward r o t l).leads (p.onward r o t l).long;
            }
          where
            go : (t u : Fields) {q v : ℕ} → Leads s n low at q v u → arity t ≡ k + arity u → Rest s n at h.next (k + 1) t
            go t end m w = absurd (omega (arith, m.is))
            go t (field name nullable shape parts rest) m w =
                record { rest = rest; r = _; o = _; leads = next_leads s n low at _ _ name nullable shape parts rest m h e; long = omega arith }

-- the first k records of a chain and the numbers of their names, listed by place in arrays that were w and v
pub record Kept (s : List ℕ) (n link k : ℕ) (w v recs numbers : List ℕ) : Type 0 where
  pub long : length recs ≡ length w
  pub wide : length numbers ≡ length v
  pub room : k ≤ length recs
  pub record_at : (i : ℕ) → i < k → get_or recs i 0 ≡ placed s link i
  pub number_at : (i : ℕ) → i < k → get_or numbers i 0 ≡ name_number (names s n link i)

module _ (s : List ℕ) (n floor link k : ℕ) (w v recs numbers : List ℕ) (x : Kept s n link k w v recs numbers) where
  pub listed : (r o : ℕ) (t : Fields) → Leads s n floor link r o t → arity t ≡ k → Spells (name_at s n recs) k 0 t
  listed r o t l e =
      spells_as (names s n link) k (name_at s n recs) (λ i h. ap (record_name s n) (sym (x.record_at i h))) 0 t (spells s n floor link k r o t l e)

  pub numbered : Numbered s n recs k numbers
  numbered = record { each = λ i h. x.number_at i h ∙ ap (λ (r : ℕ). name_number (record_name s n r)) (sym (x.record_at i h)) }

  pub kept_more : length w ≤ length v → (k ≡ length recs → ⊥) → (at q : ℕ) → at ≡ placed s link k → q ≡ name_number (names s n link k)
      → Kept s n link (k + 1) w v (set recs k at) (set numbers k q)
  kept_more f h at q e d =
      let l : k < length recs = omega (arith, x.room) in
      let m : k < length numbers = omega (arith, x.long, x.wide) in
      record {
        long = length-set recs k at ∙ x.long;
        wide = length-set numbers k q ∙ x.wide;
        room = omega (arith, length-set recs k at);
        record_at = filled_more (placed s link) recs k at l e x.record_at;
        number_at = filled_more (λ i. name_number (names s n link i)) numbers k q m d x.number_at;
      }

-- the names of a chain were compared: one is the name of a record before it; or it has k names, and all differ
module _ (s : List ℕ) (n floor link low at k : ℕ) (p : Followed s n floor link low at k) where
  pub known_at : low < at → (h : Head) → h ≡ head_at s at → (j : ℕ) → j < k → names s n link j ≡ label_at s n h.name h.name_len
      → (r o : ℕ) (t : Fields) → Leads s n floor link r o t → true ≡ repeats t
  known_at lo h e j i q r o t l =
      told (names s n link) (arity t) t (Ok (Some (j, k))) (spells s n floor link (arity t) r o t l refl)
      (i, (followed_more s n floor link low at k p lo r o t l, q ∙ name_here s n link at k p.reached h e))

  pub known_none : at ≤ low → FindsEqual (names s n link) k (Ok None) → (r o : ℕ) (t : Fields) → Leads s n floor link r o t → false ≡ repeats t
  known_none h d r o t l = told (names s n link) k t (Ok None) (spells s n floor link k r o t l (followed_low s n floor link low at k p h r o t l)) d
