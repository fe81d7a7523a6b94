-- Kinds laid over a buffer one by one, along a chain. Assumes nothing.
use mathlib.Core.Path.{◌≡◌, refl, ap, ap₂, sym, ◌∙◌}
use mathlib.Core.List.{List, [], ◌∷◌}
use Prim.Native.Nat.{ℕ, zero, suc, ◌+◌, ◌<◌, ◌≤◌}
use native.Mathlib.Omega.{arith}
use lib.ListN.{set, length, length-set}
use borrow.Author.Tests.{ne_eqb}
use Rattle.sheet.specs.Types.{Fields, end, field, arity, count}
use Rattle.sheet.specs.Read.{records_of, read}
use Rattle.sheet.specs.Refusals.{refusal, number_of, meaning, verdict}
use Rattle.sheet.specs.Holds.{Plain}
use Rattle.sheet.specs.declared.Refusal.{Refusal}
use Rattle.sheet.proofs.Accepted.{accepted_n}
use Rattle.refusals.proofs.Verdicts.{checked_number, number_some}
use Rattle.sheet.specs.Reader.{listed_at, entry_at}
use Rattle.refusals.specs.Listing.{kinds, over, listing, seen_in}
use Rattle.std.specs.Prelude.{Result, Ok, Err, IsErrAnd}
use Rattle.sheet.specs.Standing.{StandsAt}
use Rattle.sheet.specs.declared.reader.Entry.{Entry}
use Rattle.sheet.proofs.Stands.{stands_new, stands_past, stands_kind, stands_next, stands_end}

-- bytes laid over a buffer from i on
unfoldable over_from : ℕ → List ℕ → List ℕ → List ℕ
over_from zero bs w = over bs w
over_from (suc i) bs [] = []
over_from (suc i) bs (x ∷ w) = x ∷ over_from i bs w

over_next : (i b : ℕ) (bs w : List ℕ) → over_from i (b ∷ bs) w ≡ over_from (suc i) bs (set w i b)
unfolding over over_from
over_next zero b bs [] = refl
over_next zero b bs (x ∷ w) = refl
over_next (suc i) b bs [] = refl
over_next (suc i) b bs (x ∷ w) = ap (λ (l : List ℕ). x ∷ l) (over_next i b bs w)

over_done : (i : ℕ) (w : List ℕ) → over_from i [] w ≡ w
unfolding over over_from
over_done zero w = refl
over_done (suc i) [] = refl
over_done (suc i) (x ∷ w) = ap (λ (l : List ℕ). x ∷ l) (over_done i w)

arity_count : (t : Fields) → arity t ≤ count t
unfolding arity count
arity_count end = omega arith
arity_count (field name nullable shape parts rest) = omega (arith, arity_count rest)

-- a listing that has come to record number at: the types that are left stand there, and their kinds are still to be
-- laid from i on
pub record Along (s w₀ : List ℕ) (at i : ℕ) (w : List ℕ) : Type 0 where
  types : Fields
  stands : StandsAt s at types
  counted : i + arity types ≡ arity (read s)
  few : arity (read s) < records_of s
  pub long : length w ≡ length w₀
  laid : over_from i (kinds types) w ≡ over (kinds (read s)) w₀

module _ (s w₀ : List ℕ) where
  pub along_start : (at : ℕ) → Plain s → refusal s ≡ 0 → at ≡ listed_at s → Along s w₀ at 0 w₀
  unfolding over_from
  along_start at plain h e =
      record {
        types = read s;
        stands = rw e (stands_new s plain h);
        counted = omega arith;
        few = omega (arith, arity_count (read s), accepted_n s plain h);
        long = refl;
        laid = refl;
      }

  pub along_less : {at i : ℕ} {w : List ℕ} → Along s w₀ at i w → ¬ (at ≡ 0) → i < records_of s
  unfolding arity
  along_less {at} {i} a h = go a.types a.stands a.counted
    where
      go : (t : Fields) → StandsAt s at t → i + arity t ≡ arity (read s) → i < records_of s
      go end b e = absurd (h (stands_end b))
      go (field name nullable shape parts rest) b e = omega (arith, e, a.few)

  pub along_few : {at i : ℕ} {w : List ℕ} → Along s w₀ at i w → Plain s → ¬ (at ≡ 0) → i < 65536
  along_few a plain h = omega (arith, along_less a h, plain 0, plain 1)

  pub along_next : {at i : ℕ} {w : List ℕ} → Along s w₀ at i w → ¬ (at ≡ 0) → (x : Entry) → x ≡ entry_at s at → {v : List ℕ} → v ≡ set w i x.kind → Along s w₀ x.next (i + 1) v
  unfolding arity kinds
  along_next {at} {i} {w} a h x e {v} l = go a.types a.stands a.counted a.laid
    where
      go : (t : Fields) → StandsAt s at t → i + arity t ≡ arity (read s) → over_from i (kinds t) w ≡ over (kinds (read s)) w₀ → Along s w₀ x.next (i + 1) v
      go end b c d = absurd (h (stands_end b))
      go (field name nullable shape parts rest) b c d =
          record {
            types = rest;
            stands = rw e (stands_next b);
            counted = omega (arith, c);
            few = a.few;
            long = ap length l ∙ length-set w i x.kind ∙ a.long;
            laid =
                ap₂ (λ (j : ℕ) (u : List ℕ). over_from j (kinds rest) u) (omega arith) (l ∙ ap (set w i) (ap (λ (y : Entry). y.kind) e ∙ stands_kind b))
                ∙ sym (over_next i shape.kind (kinds rest) w) ∙ d;
          }

  pub along_done : {at i : ℕ} {w : List ℕ} → Along s w₀ at i w → at ≡ 0 → (i ≡ arity (read s)) × (w ≡ over (kinds (read s)) w₀)
  unfolding arity kinds
  along_done {at} {i} {w} a h = go a.types a.stands a.counted a.laid
    where
      go : (t : Fields) → StandsAt s at t → i + arity t ≡ arity (read s) → over_from i (kinds t) w ≡ over (kinds (read s)) w₀ → (i ≡ arity (read s)) × (w ≡ over (kinds (read s)) w₀)
      go end b c d = (omega (arith, c), sym (over_done i w) ∙ d)
      go (field name nullable shape parts rest) b c d = absurd (omega (arith, h, stands_past b))

-- what is seen, from what the check answered
pub listing_refused : (s w : List ℕ) (x : Refusal) (o : Result ℕ Refusal) → meaning (Err x) ≡ verdict s → IsErrAnd o (λ y. y ≡ x) → seen_in o w ≡ listing s w
unfolding listing
listing_refused s w x (Ok k) h f = absurd f
listing_refused s w x (Err y) h f =
    rw (checked_number s (number_of x) 0 0 h, ne_eqb (number_of x) 0 (number_some x)) (λ i. record { number = number_of (f i); types = 0; output = w })

pub listing_types : (s w : List ℕ) → refusal s ≡ 0 → {k : ℕ} {v : List ℕ} → k ≡ arity (read s) → v ≡ over (kinds (read s)) w → record { number = 0; types = k; output = v } ≡ listing s w
unfolding listing
listing_types s w z e f = rw z (λ i. record { number = 0; types = e i; output = f i })
