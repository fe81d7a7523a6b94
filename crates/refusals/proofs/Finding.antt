-- The records of a chain stand in a row: what is found of each by its number is found of the chain. Assumes nothing.
use mathlib.Core.Path.{◌≡◌, refl, ap, sym, subst, ◌∙◌}
use mathlib.Core.Bool.{Bool, true, false, not, ◌&&◌}
use mathlib.Core.List.{List, [], ◌∷◌}
use Prim.Native.Nat.{ℕ, ◌+◌, ◌-◌, ◌*◌, ◌<◌, ◌≤◌}
use native.Mathlib.Omega.{arith}
use native.Mathlib.Decide.{dec_lt}
use lib.ListN.{length, get_or}
use lib.Dec.{eqb}
use borrow.Author.Tests.{eq-eqb, ne_eqb}
use Rattle.std.specs.Bool.{MatchBool}
use Rattle.std.specs.List.{range_with_len, AllWithin, HoldsAt}
use Rattle.std.proofs.lemmas.List.FromFn.{length-range_with_len, get_or-range_with_len}
use Rattle.sheet.specs.Booleans.{all_of}
use Rattle.sheet.specs.Types.{Shape, Fields, end, field, count}
use Rattle.sheet.specs.Head.{head_at}
use Rattle.sheet.specs.Names.{repeats, names_differ}
use Rattle.sheet.specs.Holds.{Holds, Leads}
use Rattle.sheet.specs.declared.Head.{Head}
use Rattle.refusals.specs.RepeatedNames.{StructRepeats}
use Rattle.sheet.proofs.Heads.{head_inside}
use Rattle.sheet.proofs.Booleans.{all_not, all_cons, all_nil, not_of}
use Rattle.sheet.proofs.Repeating.{kind_is, first_leads}

module _ (s : List ℕ) (n : ℕ) where
  -- what is found of a record by its kind
  module _ (r : ℕ) (lt : r < n) (long : 16 * n ≤ length s) where
    kind_here : (head_at s r).kind ≡ get_or s (16 * r) 0
    kind_here = ap (λ (h : Head). h.kind) (head_inside s r (omega arith))

    pub found_struct : get_or s (16 * r) 0 ≡ 35 → (h : Head) → h ≡ head_at s r → (b : Bool)
        → ((k o : ℕ) (t : Fields) → Leads s n r h.first k o t → b ≡ repeats t) → StructRepeats s n r b
    found_struct e h is b f k o t l =
        f k o t (subst (λ (g : Head). Leads s n r g.first k o t) (sym is) l) ∙ rw (eq-eqb (head_at s r).kind 35 (kind_here ∙ e))

    pub found_plain : (get_or s (16 * r) 0 ≡ 35 → ⊥) → StructRepeats s n r false
    found_plain e k o t l = rw (ne_eqb (head_at s r).kind 35 (λ g. e (sym kind_here ∙ g)))

  -- what is found of the first record of a chain
  own : (r o : ℕ) (name : List ℕ) (nullable : Bool) (shape : Shape) (parts rest : Fields) (b : Bool) → 0 < r
      → Holds s n r o (field name nullable shape parts rest) → r + count (field name nullable shape parts rest) ≤ n → StructRepeats s n r b
      → (eqb shape.kind 35 && repeats parts) ≡ b
  own r o name nullable shape parts rest b pos h le f =
      let l : Leads s n 0 r r o (field name nullable shape parts rest) = record { holds = h; is = refl; above = pos; inside = le } in
      sym (f (r + 1) _ parts (first_leads s n 0 r r o name nullable shape parts rest l (head_at s r) refl)
      ∙ ap (λ (k : ℕ). eqb k 35 && repeats parts) (kind_is s n 0 r r o name nullable shape parts rest l (head_at s r) refl))

  pub none_found : (r o : ℕ) (t : Fields) → 0 < r → Holds s n r o t → r + count t ≤ n
      → ((j : ℕ) → r ≤ j → j < r + count t → StructRepeats s n j false) → names_differ t ≡ true
  unfolding names_differ count
  none_found r o end pos h le f = refl
  none_found r o (field name nullable shape parts rest) pos h le f =
      all_cons _ (ap not (own r o name nullable shape parts rest false pos h le (f r (omega arith) (omega arith))))
      (all_cons _ (none_found (r + 1) _ parts (omega arith) h.1.0 (omega arith) (λ j a b. f j (omega arith) (omega arith)))
      (all_cons _ (none_found (r + 1 + count parts) _ rest (omega arith) h.1.1 (omega arith) (λ j a b. f j (omega arith) (omega arith))) all_nil))

  pub one_found : (j : ℕ) → StructRepeats s n j true → (r o : ℕ) (t : Fields) → 0 < r → Holds s n r o t → r + count t ≤ n
      → r ≤ j → j < r + count t → names_differ t ≡ false
  unfolding names_differ count
  one_found j f r o end pos h le lo hi = absurd (omega arith)
  one_found j f r o (field name nullable shape parts rest) pos h le lo hi =
      go (dec_lt r j) (dec_lt j (r + 1 + count parts))
      (λ a b. one_found j f (r + 1) _ parts (omega arith) h.1.0 (omega arith) a b)
      (λ a. one_found j f (r + 1 + count parts) _ rest (omega arith) h.1.1 (omega arith) a (omega arith))
    where
      tests : List Bool
      tests = not (eqb shape.kind 35 && repeats parts) ∷ names_differ parts ∷ names_differ rest ∷ []

      go : Dec (r < j) → Dec (j < r + 1 + count parts) → (r + 1 ≤ j → j < r + 1 + count parts → names_differ parts ≡ false)
          → (r + 1 + count parts ≤ j → names_differ rest ≡ false) → all_of tests ≡ false
      go (no ge) b inner outer =
          let e : j ≡ r = omega arith in
          all_not tests 0 (not_of (own r o name nullable shape parts rest true pos h le (subst (λ (i : ℕ). StructRepeats s n i true) e f)))
      go (yes lt) (yes in') inner outer = all_not tests 1 (inner (omega arith) in')
      go (yes lt) (no past) inner outer = all_not tests 2 (outer (omega arith))

  -- what is found of each record past record 0, asked for until one is found
  pub row_tells : (b : Bool) → MatchBool b ((k : ℕ) × (k < length (range_with_len 1 (n - 1))) × HoldsAt (λ j. StructRepeats s n j true) (range_with_len 1 (n - 1)) k)
      (AllWithin (λ j. StructRepeats s n j false) (range_with_len 1 (n - 1)) 0 (length (range_with_len 1 (n - 1))))
      → (o : ℕ) (t : Fields) → Holds s n 1 o t → 1 + count t ≡ n → b ≡ not (names_differ t)
  row_tells true f o t h e =
      let l : f.0 < n - 1 = omega (arith, length-range_with_len 1 (n - 1), f.1) in
      let g = subst (λ (j : ℕ). StructRepeats s n j true) (get_or-range_with_len 1 (n - 1) f.0 0 l) (f.2 0) in
      sym (ap not (one_found (1 + f.0) g 1 o t (omega arith) h (omega arith) (omega arith) (omega arith)))
  row_tells false f o t h e = sym (ap not (none_found 1 o t (omega arith) h (omega arith) (λ j a b. none j a (omega arith))))
    where
      none : (j : ℕ) → 1 ≤ j → j < n → StructRepeats s n j false
      none j a l =
          let i : j - 1 < n - 1 = omega arith in
          let q : get_or (range_with_len 1 (n - 1)) (j - 1) 0 ≡ j = get_or-range_with_len 1 (n - 1) (j - 1) 0 i ∙ omega arith in
          subst (λ (m : ℕ). StructRepeats s n m false) q (f (j - 1) 0 (omega arith) (omega (arith, length-range_with_len 1 (n - 1))))
