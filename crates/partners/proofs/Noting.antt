-- What is noted in a table of partners. Assumes nothing.
use mathlib.Core.Path.{◌≡◌, refl, ap, sym, subst, ◌∙◌}
use mathlib.Core.Bool.{Bool, true, false, not, cond, ◌&&◌}
use mathlib.Core.List.{List, [], ◌∷◌}
use Rattle.std.specs.Prelude.{Option}
use mathlib.Core.Logic.{◌⊎◌, inl, inr, ⊎_elim}
use Prim.Native.Nat.{ℕ, zero, suc, ◌+◌, ◌*◌, ◌/◌, ◌%◌, ◌<◌}
use native.Mathlib.Omega.{arith}
use lib.ListN.{length, length-set, get_or, set}
use lib.Dec.{eqb, ltb}
use borrow.Author.Tests.{ltb-true, eqb-true}
use Rattle.sheet.specs.Head.{head_at}
use Rattle.sheet.specs.Read.{label_at}
use Rattle.sheet.specs.declared.Head.{Head}
use Rattle.sheet.specs.Types.{Shape, Fields, end, field}
use Rattle.sheet.proofs.Bytewise.{same_equal}
use Rattle.sheet.proofs.Booleans.{and_fst, and_snd}
use Rattle.buffers.specs.Writes.{side}
use Rattle.buffers.specs.Typed.{Chain}
use Rattle.buffers.specs.Differ.{known_past}
use Rattle.partners.specs.Feeds.{EndOf}
use Rattle.partners.specs.Partners.{key_of, Present, Partner, Partners}
use Rattle.partners.specs.Naming.{Picks, Finds, RowPairs, place_in, own_partner, partner_in, noted, News, Notes}
use Rattle.buffers.specs.declared.Space.{Space}
use Rattle.buffers.proofs.Rows.{chain_name}
use Rattle.partners.proofs.Known.{row_begins, known_some, known_name}

-- what a search says of the name of record l of s in the chain at r of t
abbrev pub Pairs : Space → List ℕ → List ℕ → ℕ → ℕ → ℕ → Type 0
Pairs space s t l r found =
    (name : List ℕ) (nullable : Bool) (shape : Shape) (parts rest rf : Fields) → Chain space s l (field name nullable shape parts rest) → Chain space t r rf → Picks space t name rf found

-- a record at an end of a chain is the one that has its name
pub picks_end : (space : Space) (s : List ℕ) {link : ℕ} {label want : List ℕ} {nullable : Bool} {shape : Shape} {parts rest : Fields} (t : Fields)
    → Chain space s link (field label nullable shape parts rest) → EndOf (field label nullable shape parts rest) t → label ≡ want → Picks space s want t link
picks_end space s {link} {nullable = nullable} {shape = shape} {parts = parts} {rest = rest} t c k q =
    record {
      missing = λ z. absurd (omega (arith, c.held.source.leads.is, c.held.source.leads.above));
      present =
          λ p.
          record {
            nullable = nullable;
            shape = shape;
            parts = parts;
            rest = rest;
            chain = subst (λ (x : List ℕ). Chain space s link (field x nullable shape parts rest)) q c;
            ends = subst (λ (x : List ℕ). EndOf (field x nullable shape parts rest) t) q k;
          };
    }

pub noted_long : (table : List ℕ) (k r j : ℕ) → length (noted table k r j) ≡ length table
noted_long table k r j = go (ltb k 2048 && (ltb r 1024 && ltb (place_in (length table) k) (length table)))
  where
    go : (b : Bool) → length (cond b (set table (place_in (length table) k) (1048576 * k + 1024 * r + j)) table) ≡ length table
    go true = length-set table (place_in (length table) k) (1048576 * k + 1024 * r + j)
    go false = refl

pub notes_trans : (n : ℕ) (s t : List ℕ) (key : ℕ) (old table new : List ℕ) → Notes n s t key old table → Notes n s t key table new → Notes n s t key old new
notes_trans n s t key old table new f g space en k = go (g space en k) (f space en k)
  where
    go : (get_or new k 0 ≡ get_or table k 0) ⊎ News space s t key (get_or new k 0) → (get_or table k 0 ≡ get_or old k 0) ⊎ News space s t key (get_or table k 0)
        → (get_or new k 0 ≡ get_or old k 0) ⊎ News space s t key (get_or new k 0)
    go (inr m) z = inr m
    go (inl e) (inl d) = inl (e ∙ d)
    go (inl e) (inr m) = inr (subst (News space s t key) (sym e) m)

-- an element of a list after one was set
set_at : (ks : List ℕ) (i x k : ℕ) → (get_or (set ks i x) k 0 ≡ get_or ks k 0) ⊎ ((k ≡ i) × (get_or (set ks i x) k 0 ≡ x))
set_at [] i x k = inl refl
set_at (y ∷ ks) zero x zero = inr (refl, refl)
set_at (y ∷ ks) zero x (suc k) = inl refl
set_at (y ∷ ks) (suc i) x zero = inl refl
set_at (y ∷ ks) (suc i) x (suc k) = ⊎_elim inl (λ e. inr (ap suc e.0, e.1)) (set_at ks i x k)

pub noted_says : (n : ℕ) (s t : List ℕ) (key : ℕ) (table : List ℕ) (i r j : ℕ) → i < 1024 → j < 1024 → 0 < j → ((space : Space) → n ≡ space.n → Pairs space s t i r j)
    → Notes n s t key table (noted table (key + i) r j)
noted_says n s t key table i r j hi small past f space en k = go (ltb (key + i) 2048 && (ltb r 1024 && ltb at (length table))) refl
  where
    at : ℕ
    at = place_in (length table) (key + i)

    e : ℕ
    e = 1048576 * (key + i) + 1024 * r + j

    says : r < 1024 → (x : ℕ) → x ≡ 1048576 * (key + i) + 1024 * r + j → News space s t key x
    says wide x ex =
        let er : x / 1024 % 1024 ≡ r = omega arith in
        let ej : x % 1024 ≡ j = omega arith in
        record {
          at = i;
          low = hi;
          own = omega arith;
          says =
              λ p name nullable shape parts rest rf a b.
              subst (λ (m : ℕ). Present space t m name rf) (sym ej)
              ((f space en name nullable shape parts rest rf a (subst (λ (m : ℕ). Chain space t m rf) er b)).present past);
        }

    go : (b : Bool) → (ltb (key + i) 2048 && (ltb r 1024 && ltb at (length table))) ≡ b
        → (get_or (cond b (set table at e) table) k 0 ≡ get_or table k 0) ⊎ News space s t key (get_or (cond b (set table at e) table) k 0)
    go false q = inl refl
    go true q =
        let wide = ltb-true r 1024 (and_fst (ltb r 1024) _ (and_snd (ltb (key + i) 2048) _ q)) in
        ⊎_elim inl (λ m. inr (says wide _ m.1)) (set_at table at e k)

-- a table of partners stays true
pub notes_true : (space : Space) (swap : Bool) (s w old new : List ℕ) → Notes space.n (side swap s w) (side (not swap) s w) (key_of swap 0) old new → Partners space s w old
    → Partners space s w new
notes_true space swap s w old new f g swap' i k hi = go (get_or new k 0) (f space refl k)
  where
    other : (b c : Bool) (e : ℕ) → News space (side b s w) (side (not b) s w) (key_of b 0) e → e / 1048576 ≡ key_of c i → Partner space (side c s w) (side (not c) s w) i e
    other true true e m q = let z : m.at ≡ i = omega (arith, m.own) in subst (λ (x : ℕ). Partner space w s x e) z m.says
    other true false e m q = absurd (omega (arith, m.own))
    other false true e m q = absurd (omega (arith, m.own, m.low))
    other false false e m q = let z : m.at ≡ i = omega (arith, m.own) in subst (λ (x : ℕ). Partner space s w x e) z m.says

    go : (e : ℕ) → (e ≡ get_or old k 0) ⊎ News space (side swap s w) (side (not swap) s w) (key_of swap 0) e → e / 1048576 ≡ key_of swap' i
        → Partner space (side swap' s w) (side (not swap') s w) i e
    go e (inl p) q =
        subst (Partner space (side swap' s w) (side (not swap') s w) i) (sym p) (g swap' i k hi (ap (λ (x : ℕ). x / 1048576) (sym p) ∙ q))
    go e (inr m) q = other swap swap' e m q

-- a partner that a table says, and one that was searched
module _ (space : Space) (swap : Bool) (s w table : List ℕ) (x : Head) (l r : ℕ) where
  pub pairs_noted : (j : ℕ) → j ≡ partner_in table swap l r → 0 < j → Partners space s w table → Pairs space (side swap s w) (side (not swap) s w) l r j
  pairs_noted j ej past f name nullable shape parts rest rf a b = go (ltb l 1024 && ltb r 1024) refl ej
    where
      k : ℕ
      k = key_of swap l

      at : ℕ
      at = place_in (length table) k

      e : ℕ
      e = get_or table at 0

      found : l < 1024 → r < 1024 → (c : Bool) → eqb (e / 1024) (1024 * k + r) ≡ c → j ≡ cond c (e % 1024) 0 → Picks space (side (not swap) s w) name rf j
      found hl hr false q z = absurd (omega arith)
      found hl hr true q z =
          let is = eqb-true (e / 1024) (1024 * k + r) q in
          let er : e / 1024 % 1024 ≡ r = omega arith in
          let ek : e / 1048576 ≡ k = omega arith in
          let m = f swap l at hl ek (omega arith) name nullable shape parts rest rf a (subst (λ (x : ℕ). Chain space (side (not swap) s w) x rf) (sym er) b) in
          record { missing = λ u. absurd (omega arith); present = λ u. subst (λ (x : ℕ). Present space (side (not swap) s w) x name rf) (sym z) m }

      go : (c : Bool) → (ltb l 1024 && ltb r 1024) ≡ c → j ≡ cond c (own_partner k r e) 0 → Picks space (side (not swap) s w) name rf j
      go false q z = absurd (omega arith)
      go true q z = found (ltb-true l 1024 (and_fst _ (ltb r 1024) q)) (ltb-true r 1024 (and_snd (ltb l 1024) _ q)) (eqb (e / 1024) (1024 * k + r)) refl z

  pub pairs_searched : {j : ℕ} → x ≡ head_at (side swap s w) l → Finds space.n (side (not swap) s w) (label_at (side swap s w) space.n x.name x.name_len) r j
      → Pairs space (side swap s w) (side (not swap) s w) l r j
  pairs_searched {j} ex f name nullable shape parts rest rf a b =
      subst (λ (u : List ℕ). Picks space (side (not swap) s w) u rf j) (chain_name a x ex) (f space rf refl b)

-- the partner of a row, by its record alone or by what is known of its place
module _ (known : Option ℕ) (space : Space) (s t : List ℕ) (l r p : ℕ) where
  pub row_pairs : {found : ℕ} → Pairs space s t l r found → RowPairs known space s t l r p found
  row_pairs f name nullable shape parts rest rf pf a b c i k = f name nullable shape parts rest rf a b

  pub row_pairs_known : {b : Bool} → b ≡ (ltb 0 p && known_past known l) → b ≡ true → RowPairs known space s t l r p p
  row_pairs_known e b name nullable shape parts rest rf end u v c i k =
      absurd (known_some known name nullable shape parts rest (row_begins name nullable shape parts rest u) (and_snd (ltb 0 p) _ (sym e ∙ b)) k)
  row_pairs_known e b name nullable shape parts rest rf (field name' nullable' shape' parts' rest') u v c i k =
      let past = and_snd (ltb 0 p) (known_past known l) (sym e ∙ b) in
      let same = known_name known name nullable shape parts rest (row_begins name nullable shape parts rest u) past name' nullable' shape' parts' rest' k in
      picks_end space t rf c i (sym (same_equal name name' same))
