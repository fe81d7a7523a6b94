-- What is accepted is spelled once, and may be carried. Assumes nothing.
use mathlib.Core.Path.{◌≡◌, refl, ap, ap₂, sym, ◌∙◌}
use mathlib.Core.Bool.{Bool, true, false, cond, not, ◌&&◌}
use mathlib.Core.List.{List, [], ◌∷◌, ◌++◌, append-nil, append_assoc}
use Prim.Native.Nat.{ℕ, zero, suc, ◌+◌, ◌*◌, ◌-◌, ◌/◌, ◌<◌, ◌≤◌}
use native.Mathlib.Omega.{arith}
use lib.ListN.{length, get_or, take, drop, length-append, get_or-replicate}
use lib.Seq.{get_or-take, get_or-drop}
use lib.Dec.{eqb, ltb}
use borrow.Author.Tests.{ltb-true, ltb-false, eqb-true, not-false}
use Rattle.sheet.specs.Kind.{is_kind}
use Rattle.sheet.specs.Types.{Fields, end, field, count, own_labels, labels}
use Rattle.sheet.specs.Head.{head_from, blank, head_at, labelled, nullable_in}
use Rattle.sheet.specs.Encode.{link_to, head_of, header, encode}
use Rattle.sheet.specs.Read.{records_of, labels_of, label_at, shape_of, field_of, walk_from, start, read}
use Rattle.sheet.specs.Names.{names_differ}
use Rattle.sheet.specs.Refusals.{all_zero, torn, any_from, bad_kind, linked, bad_chain, Met, met, record_right, any_wrong, bad_figure, label_right, misplaced, walk, bad_label, Condition, conditions, first_met, refusal}
use Rattle.sheet.specs.Laws.{AcceptedEncode, AcceptedCarried, AcceptedSame}
use Rattle.sheet.specs.Carried.{FieldsRight, Carried}
use Rattle.sheet.specs.Holds.{Plain, Span, Holds}
use Rattle.sheet.proofs.Booleans.{all_at, one_at, or_fst, or_snd, and_fst, and_snd}
use Rattle.sheet.proofs.Spans.{at_eq, at_span}
use Rattle.sheet.proofs.Chains.{holds_encode}
use Rattle.sheet.proofs.Accepting as Accepting

-- a head is made of bytes
head_bytes : (s : List ℕ) (r : ℕ) → Plain s → ((head_at s r).scale < 256) × ((head_at s r).name_len < 256)
unfolding head_at
head_bytes s r plain = go (ltb r (length s / 16))
  where
    go : (b : Bool) → ((cond b (head_from s (16 * r)) blank).scale < 256) × ((cond b (head_from s (16 * r)) blank).name_len < 256)
    go true = (plain (16 * r + 3), plain (16 * r + 14))
    go false = (omega arith, omega arith)

-- a link leads where the chain begins
linked_link : (s : List ℕ) (link r : ℕ) (t : Fields) → linked s link r t ≡ true → link ≡ link_to r t
unfolding linked
linked_link s link r end h = eqb-true link 0 h
linked_link s link r (field name nullable shape parts rest) h = eqb-true link r (all_at _ 0 h)

-- labels in place do not pass the end
misplaced_le : (s : List ℕ) (o : ℕ) (ms : List Met) → misplaced s o ms ≡ false → o ≤ labels_of s
unfolding misplaced
misplaced_le s o [] h = omega (arith, eqb-true o (labels_of s) (not-false (eqb o (labels_of s)) h))
misplaced_le s o (m ∷ ms) h =
    omega (arith, misplaced_le s (o + labelled (head_at s m.number)) ms (or_snd (not (label_right (head_at s m.number) m.up o)) _ h))

-- what is known of a chain whose records have nothing of 3 to 5, with ms the records after it
record Kept (s : List ℕ) (n r o up : ℕ) (t : Fields) (ms : List Met) : Type 0 where
  holds : Holds s n r o t
  right : FieldsRight up t
  figures : any_wrong s ms ≡ false
  places : misplaced s (o + length (labels t)) ms ≡ false

abbrev Claim : List ℕ → ℕ → (ℕ → ℕ → Fields) → Type 0
Claim s n walker =
    (up link r o : ℕ) (ms : List Met) → 0 < r → linked s link r (walker link r) ≡ true → any_wrong s (met up r (walker link r) ++ ms) ≡ false
    → misplaced s o (met up r (walker link r) ++ ms) ≡ false → Kept s n r o up (walker link r) ms

module _ (s : List ℕ) (n : ℕ) (plain : Plain s) (long : length s ≡ 16 * n + labels_of s)
    (kinds : (j : ℕ) → 0 < j → j < n → is_kind (head_at s j).kind ≡ true) where
  none : (up r o : ℕ) (ms : List Met) → any_wrong s ms ≡ false → misplaced s o ms ≡ false → Kept s n r o up end ms
  unfolding labels
  none up r o ms a b = record { holds = tt; right = tt; figures = a; places = ap (λ (k : ℕ). misplaced s k ms) (omega arith) ∙ b }

  -- a record, its parts and the rest
  some : (up link r o : ℕ) (ms : List Met) (p q : Fields) → 0 < r → r < n
      → ((o : ℕ) (ms : List Met) → linked s (head_at s r).first (r + 1) p ≡ true → any_wrong s (met (head_at s r).kind (r + 1) p ++ ms) ≡ false
      → misplaced s o (met (head_at s r).kind (r + 1) p ++ ms) ≡ false → Kept s n (r + 1) o (head_at s r).kind p ms)
      → ((o : ℕ) (ms : List Met) → linked s (head_at s r).next (r + 1 + count p) q ≡ true → any_wrong s (met up (r + 1 + count p) q ++ ms) ≡ false
      → misplaced s o (met up (r + 1 + count p) q ++ ms) ≡ false → Kept s n (r + 1 + count p) o up q ms)
      → linked s link r (field_of s n (head_at s r) p q) ≡ true → any_wrong s (met up r (field_of s n (head_at s r) p q) ++ ms) ≡ false
      → misplaced s o (met up r (field_of s n (head_at s r) p q) ++ ms) ≡ false → Kept s n r o up (field_of s n (head_at s r) p q) ms
  unfolding linked any_wrong misplaced met labels count
  some up link r o ms p q pos lt inner outer l w m =
      let h = head_at s r in
      let ps = met h.kind (r + 1) p in
      let qs = met up (r + 1 + count p) q in
      let right = not-false (record_right h up) (or_fst (not (record_right h up)) _ w) in
      let placed = not-false (label_right h up o) (or_fst (not (label_right h up o)) _ m) in
      let w' : any_wrong s (ps ++ (qs ++ ms)) ≡ false = rw (append_assoc ps qs ms) at (or_snd (not (record_right h up)) _ w) in
      let m' : misplaced s (o + labelled h) (ps ++ (qs ++ ms)) ≡ false = rw (append_assoc ps qs ms) at (or_snd (not (label_right h up o)) _ m) in
      let in' : o + labelled h ≤ labels_of s = misplaced_le s (o + labelled h) (ps ++ (qs ++ ms)) m' in
      let name = label_at s n h.name h.name_len in
      let i = o + length (own_labels name (shape_of s n h)) in
      let e : labelled h ≡ length (own_labels name (shape_of s n h)) = sym (Accepting.own_labelled s n plain long h up o right placed in') in
      let a = inner i (qs ++ ms) (all_at _ 2 l) w' (rw e at m') in
      let b = outer (i + length (labels p)) ms (all_at _ 3 l) a.figures a.places in
      let first = linked_link s h.first (r + 1) p (all_at _ 2 l) in
      let next = linked_link s h.next (r + 1 + count p) q (all_at _ 3 l) in
      record {
        holds = (
          record {
            head =
                Accepting.head_made s n plain long h up o right placed in'
                ∙ ap₂ (head_of o name (nullable_in h) (shape_of s n h)) first next;
            label = Accepting.own_span s n plain long h up o right placed in';
          },
          (a.holds, b.holds),
        );
        right = (
          Accepting.field_made s n plain long h up o right placed in' p (kinds r pos lt) (all_at _ 1 l) (head_bytes s r plain).0 (head_bytes s r plain).1,
          (a.right, b.right),
        );
        figures = b.figures;
        places =
            ap (λ (k : ℕ). misplaced s k ms)
            (omega (arith, length-append (own_labels name (shape_of s n h)) (labels p ++ labels q), length-append (labels p) (labels q)))
            ∙ b.places;
      }

  step : (f : ℕ) → Claim s n (walk_from f s n) → Claim s n (walk_from (suc f) s n)
  unfolding walk_from met
  step f below up link r o ms pos l w m = go (eqb link r && ltb r n) refl l w m
    where
      p : Fields
      p = walk_from f s n (head_at s r).first (r + 1)

      q : Fields
      q = walk_from f s n (head_at s r).next (r + 1 + count p)

      t : Fields
      t = field_of s n (head_at s r) p q

      go : (b : Bool) → (eqb link r && ltb r n) ≡ b → linked s link r (cond b t end) ≡ true → any_wrong s (met up r (cond b t end) ++ ms) ≡ false
          → misplaced s o (met up r (cond b t end) ++ ms) ≡ false → Kept s n r o up (cond b t end) ms
      go true e l w m =
          some up link r o ms p q pos (ltb-true r n (and_snd (eqb link r) (ltb r n) e))
          (λ o ms. below (head_at s r).kind (head_at s r).first (r + 1) o ms (omega arith))
          (λ o ms. below up (head_at s r).next (r + 1 + count p) o ms (omega arith)) l w m
      go false e l w m = none up r o ms w m

  kept : (f : ℕ) → Claim s n (walk_from f s n)
  unfolding walk_from met
  kept zero up link r o ms pos l w m = none up r o ms w m
  kept (suc f) up link r o ms pos l w m = step f (kept f) up link r o ms pos l w m

abbrev Numbered : List Condition → Type 0
Numbered [] = Unit
Numbered (c ∷ cs) = (0 < c.number) × Numbered cs

abbrev met_at : List Condition → ℕ → Bool
met_at [] i = false
met_at (c ∷ cs) zero = c.met
met_at (c ∷ cs) (suc i) = met_at cs i

-- where there is no number, no condition is met
none_met : (cs : List Condition) → Numbered cs → first_met cs ≡ 0 → (i : ℕ) → met_at cs i ≡ false
none_met [] p h i = refl
none_met (c ∷ cs) p h i = go c.met refl h i (none_met cs p.1)
  where
    go : (b : Bool) → c.met ≡ b → cond b c.number (first_met cs) ≡ 0 → (i : ℕ) → (first_met cs ≡ 0 → (i : ℕ) → met_at cs i ≡ false) → met_at (c ∷ cs) i ≡ false
    go true e h i f = absurd (omega (arith, p.0))
    go false e h zero f = e
    go false e h (suc i) f = f h i

-- a sheet of which nothing but two equal names is left to be found
pub record Sound (s : List ℕ) : Type 0 where
  pub whole : torn s ≡ false
  pub kinds : bad_kind s ≡ false
  pub chain : bad_chain s ≡ false
  pub figures : bad_figure s ≡ false
  pub places : misplaced s 0 (walk s) ≡ false

-- what an accepted sheet is known not to be
record Unrefused (s : List ℕ) : Type 0 where
  sound : Sound s
  differ : names_differ (read s) ≡ true

unrefused : (s : List ℕ) → refusal s ≡ 0 → Unrefused s
unfolding refusal bad_label
unrefused s h =
    let a : (i : ℕ) → met_at (conditions s) i ≡ false =
    none_met (conditions s) (omega arith, (omega arith, (omega arith, (omega arith, (omega arith, tt))))) h in
    record {
      sound = record { whole = a 0; kinds = a 1; chain = a 2; figures = a 3; places = one_at _ 0 (a 4) };
      differ = not-false (names_differ (read s)) (one_at _ 1 (a 4));
    }

any_not : (test : ℕ → Bool) (r k : ℕ) → any_from test r k ≡ false → (j : ℕ) → r ≤ j → j < r + k → test j ≡ false
any_not test r zero h j lo hi = absurd (omega arith)
any_not test r (suc k) h j lo hi = go (native.Mathlib.Decide.ℕ_discrete j r) (any_not test (r + 1) k (or_snd (test r) _ h) j)
  where
    go : Dec (j ≡ r) → (r + 1 ≤ j → j < r + 1 + k → test j ≡ false) → test j ≡ false
    go (yes e) f = rw e (or_fst (test r) _ h)
    go (no ne) f = f (omega arith) (omega arith)

all_zero_lem : (l : List ℕ) (j : ℕ) → all_zero l ≡ true → get_or l j 0 ≡ 0
all_zero_lem [] j h = refl
all_zero_lem (b ∷ bs) zero h = eqb-true b 0 (and_fst (eqb b 0) _ h)
all_zero_lem (b ∷ bs) (suc j) h = all_zero_lem bs j (and_snd (eqb b 0) _ h)

module _ (s : List ℕ) (plain : Plain s) (u : Sound s) where
  record Sized : Type 0 where
    least : 16 ≤ length s
    some_records : 1 ≤ records_of s
    few_records : records_of s ≤ 1024
    few_labels : labels_of s ≤ 16384
    long : length s ≡ 16 * records_of s + labels_of s
    rest : all_zero (take 12 (drop 4 s)) ≡ true

  sizes : Sized
  unfolding torn
  sizes =
      record {
        least = ltb-false (length s) 16 (one_at _ 0 u.whole);
        some_records = ltb-false (records_of s) 1 (one_at _ 1 u.whole);
        few_records = ltb-false 1024 (records_of s) (one_at _ 2 u.whole);
        few_labels = ltb-false 16384 (labels_of s) (one_at _ 3 u.whole);
        long = eqb-true _ _ (not-false (eqb (length s) (16 * records_of s + labels_of s)) (one_at _ 4 u.whole));
        rest = not-false (all_zero (take 12 (drop 4 s))) (one_at _ 5 u.whole);
      }

  kind_at : (j : ℕ) → 0 < j → j < records_of s → is_kind (head_at s j).kind ≡ true
  unfolding bad_kind
  kind_at j lo hi =
      not-false (is_kind (head_at s j).kind)
      (any_not (λ r. not (is_kind (head_at s r).kind)) 1 (records_of s - 1) u.kinds j lo (omega arith))

  chain_right : (linked s (start (records_of s)) 1 (read s) ≡ true) × (1 + count (read s) ≡ records_of s)
  unfolding bad_chain
  chain_right =
      let h = not-false _ u.chain in
      let c : count (read s) ≡ records_of s - 1 = eqb-true (count (read s)) (records_of s - 1) (all_at _ 1 h) in
      (all_at _ 0 h, omega (arith, sizes.some_records))

  all_kept : Kept s (records_of s) 1 0 0 (read s) []
  unfolding read bad_figure
  all_kept =
      kept s (records_of s) plain sizes.long kind_at (records_of s) 0 (start (records_of s)) 1 0 [] (omega arith) chain_right.0
      (ap (any_wrong s) (append-nil (met 0 1 (read s))) ∙ u.figures)
      (ap (misplaced s 0) (append-nil (met 0 1 (read s))) ∙ u.places)

  labels_right : length (labels (read s)) ≡ labels_of s
  unfolding misplaced
  labels_right =
      let e : 0 + length (labels (read s)) ≡ labels_of s =
      eqb-true (0 + length (labels (read s))) (labels_of s) (not-false (eqb (0 + length (labels (read s))) (labels_of s)) all_kept.places) in
      omega arith

  -- what is accepted may be carried
  carried : names_differ (read s) ≡ true → Carried (read s)
  carried d =
      record {
        few = omega (arith, chain_right.1, sizes.few_records);
        short = omega (arith, labels_right, sizes.few_labels);
        right = all_kept.right;
        differ = d;
      }

  header_byte : (j : ℕ) → j < 16 → get_or s j 0 ≡ get_or (header (records_of s) (labels_of s)) j 0
  header_byte zero q = omega (arith, plain 0)
  header_byte (suc zero) q = omega (arith, plain 0)
  header_byte (suc (suc zero)) q = omega (arith, plain 2)
  header_byte (suc (suc (suc zero))) q = omega (arith, plain 2)
  header_byte (suc (suc (suc (suc j)))) q =
      let e : j < 12 = omega arith in
      at_eq s (omega arith) ∙ sym (get_or-drop 4 s j 0) ∙ sym (get_or-take 12 (drop 4 s) j 0 e) ∙ all_zero_lem (take 12 (drop 4 s)) j sizes.rest
      ∙ sym (get_or-replicate 12 j 0 0 e)

  header_span : Span s 0 (header (records_of s) (labels_of s))
  header_span = at_span s 0 (header (records_of s) (labels_of s)) (omega (arith, sizes.least)) (λ j q. at_eq s (omega arith) ∙ header_byte j q)

  encoded : encode (read s) ≡ s
  encoded =
      holds_encode s (read s) plain (omega (arith, sizes.long, chain_right.1, labels_right))
      (rw (chain_right.1, labels_right) header_span) (rw chain_right.1 all_kept.holds)

-- the chain of a sound sheet stands in it
pub sound_holds : (s : List ℕ) → Plain s → Sound s → Holds s (records_of s) 1 0 (read s)
sound_holds s plain u = (all_kept s plain u).holds

-- `encode (read s) ≡ s` for every accepted sheet
pub accepted_encode : AcceptedEncode
accepted_encode s plain h = encoded s plain (unrefused s h).sound

-- the types of an accepted sheet may be carried
pub accepted_carried : AcceptedCarried
accepted_carried s plain h = carried s plain (unrefused s h).sound (unrefused s h).differ

-- two accepted sheets with the same types are the same bytes
pub accepted_same : AcceptedSame
accepted_same s s' plain plain' h h' e = sym (accepted_encode s plain h) ∙ ap encode e ∙ accepted_encode s' plain' h'

-- the chain of an accepted sheet stands in it
pub accepted_holds : (s : List ℕ) → Plain s → refusal s ≡ 0 → Holds s (records_of s) 1 0 (read s)
accepted_holds s plain h = sound_holds s plain (unrefused s h).sound

-- the header of an accepted sheet
pub accepted_n : (s : List ℕ) → Plain s → refusal s ≡ 0 → records_of s ≡ 1 + count (read s)
accepted_n s plain h = sym (chain_right s plain (unrefused s h).sound).1

pub accepted_m : (s : List ℕ) → Plain s → refusal s ≡ 0 → labels_of s ≡ length (labels (read s))
accepted_m s plain h = sym (labels_right s plain (unrefused s h).sound)

pub accepted_length : (s : List ℕ) → Plain s → refusal s ≡ 0 → length s ≡ 16 * records_of s + labels_of s
accepted_length s plain h = (sizes s plain (unrefused s h).sound).long
