-- Records in the order of their names: which names differ. Assumes nothing.
use mathlib.Core.Path.{◌≡◌, refl, ap, sym, ◌∙◌}
use mathlib.Core.Bool.{Bool, true, false}
use mathlib.Core.List.{List}
use Prim.Native.Nat.{ℕ, ◌+◌, ◌<◌}
use native.Mathlib.Omega.{arith}
use lib.ListN.{length, get_or}
use Rattle.std.specs.declared.cmp.Ordering.{Ordering}
use Rattle.std.specs.declared.cmp.Ordering.TheVariants.{Less, Equal, Greater}
use Rattle.std.specs.Bool.{MatchBool}
use Rattle.std.specs.Cmp.{IsTotalOrder}
use Rattle.std.specs.Cmp.Lexicographic.{slice_cmp}
use Rattle.std.specs.List.Sorted.{IsPermutation, IsSortedBy}
use Rattle.std.specs.Ordering.{nat_cmp, is_lt, is_eq, eq_by_cmp, ordering_reverse}
use Rattle.std.proofs.lemmas.Cmp.{nat_list_cmp_total, on_total, tied_itself, eq_by_cmp_equiv}
use Rattle.std.proofs.lemmas.List.{get_or_default}
use Rattle.std.proofs.lemmas.List.Sorted.{IsPermutation-sym}
use Rattle.std.proofs.lemmas.Map.Keys.{sorted_from_all_adjacent, IsDistinct-from_sorted, IsDistinct-IsPermutation, apart_from_distinct, IsDistinct-from_apart}
use Rattle.std.proofs.lemmas.Map.Lookups.{exact_bytes}
use Rattle.sheet.specs.Names.{same_bytes}
use Rattle.sheet.proofs.Bytewise.{same_equal}
use Rattle.sheet.proofs.Booleans.{never}
use Rattle.refusals.specs.RepeatedNames.{record_name, name_at, HasEqual}
use Rattle.refusals.proofs.Naming.{not_same}

module _ (s : List ℕ) (n : ℕ) where
  -- two records in the order of their names
  abbrev pub by_name : ℕ → ℕ → Ordering
  by_name a b = slice_cmp nat_cmp (record_name s n a) (record_name s n b)

  pub by_name_total : IsTotalOrder by_name
  by_name_total = on_total (record_name s n) nat_list_cmp_total

  one_name : (a b : ℕ) → record_name s n a ≡ record_name s n b → eq_by_cmp by_name a b ≡ true
  one_name a b e = ap is_eq (ap (slice_cmp nat_cmp (record_name s n a)) (sym e) ∙ tied_itself by_name_total a)

  two_names : (a b : ℕ) → (record_name s n a ≡ record_name s n b → ⊥) → eq_by_cmp by_name a b ≡ false
  two_names a b h = go (by_name a b) refl
    where
      go : (o : Ordering) → by_name a b ≡ o → is_eq o ≡ false
      go Less e = refl
      go Equal e = absurd (h (exact_bytes _ _ e))
      go Greater e = refl

  flips : (a b : ℕ) → eq_by_cmp by_name a b ≡ eq_by_cmp by_name b a
  flips = (eq_by_cmp_equiv by_name_total).symm

  less : (a b : ℕ) → is_lt (by_name b a) ≡ false → same_bytes (record_name s n a) (record_name s n b) ≡ false → by_name a b ≡ Less
  less a b h d = go (by_name a b) refl
    where
      go : (o : Ordering) → by_name a b ≡ o → o ≡ Less
      go Less e = refl
      go Equal e = absurd (not_same _ _ d (exact_bytes _ _ e))
      go Greater e = never (sym h ∙ ap is_lt (by_name_total.antisymm b a ∙ ap ordering_reverse e))

  -- whether neighbours in the order have one name says whether any two have
  pub neighbours_tell : (old new : List ℕ) (r : Bool) → IsPermutation old new → IsSortedBy (λ a b. is_lt (by_name a b)) new
      → MatchBool r ((k : ℕ) × (k + 1 < length new) × (same_bytes (name_at s n new k) (name_at s n new (k + 1)) ≡ true))
      ((k : ℕ) → k + 1 < length new → same_bytes (name_at s n new k) (name_at s n new (k + 1)) ≡ false)
      → HasEqual (name_at s n old) (length old) r
  neighbours_tell old new false p o d = (
    λ q a b l m e.
        let rising = sorted_from_all_adjacent by_name_total new 0 (λ k h. less (get_or new k 0) (get_or new (k + 1) 0) (o k 0 (omega arith) h) (d k h)) in
        let apart = IsDistinct-IsPermutation (eq_by_cmp by_name) flips new old (IsPermutation-sym old new p) (IsDistinct-from_sorted by_name new rising) in
        never (sym (apart_from_distinct (eq_by_cmp by_name) old a b 0 apart l m) ∙ one_name (get_or old a 0) (get_or old b 0) e),
    λ q. never q,
  )
  neighbours_tell old new true p o d = (
    λ q. never (sym q),
    λ q all.
        let apart = IsDistinct-IsPermutation (eq_by_cmp by_name) flips old new p (IsDistinct-from_apart (eq_by_cmp by_name) old (λ i j e l m. rw (get_or_default old i e 0 (omega arith), get_or_default old j e 0 m) (two_names (get_or old i 0) (get_or old j 0) (all i j l m)))) in
        never (sym (apart_from_distinct (eq_by_cmp by_name) new d.0 (d.0 + 1) 0 apart (omega arith) d.1) ∙ one_name (get_or new d.0 0) (get_or new (d.0 + 1) 0) (same_equal _ _ d.2)),
  )
