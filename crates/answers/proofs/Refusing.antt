-- The refusals of a call: the sheet's own, and 6 to 8. Assumes nothing.
use mathlib.Core.Path.{◌≡◌, refl, ap, sym, subst, ◌∙◌}
use mathlib.Core.Bool.{Bool, true, false, cond, not, ◌&&◌}
use mathlib.Core.List.{List, [], ◌∷◌, ◌++◌, map}
use Prim.Native.Nat.{ℕ, suc, ◌+◌, ◌*◌, ◌≤◌}
use native.Mathlib.Omega.{arith}
use lib.ListN.{length}
use lib.Dec.{eqb}
use borrow.Author.Tests.{eq-eqb, ne_eqb}
use Rattle.sheet.specs.Types.{Fields, end, field, arity, count, labels}
use Rattle.sheet.specs.Read.{start, read}
use Rattle.sheet.specs.Holds.{Plain, Holds, Leads}
use Rattle.sheet.specs.Refusals.{Condition, first_met}
use Rattle.sheet.specs.Refusals as Sheet
use Rattle.refusals.specs.Framed.{FramedBy}
use Rattle.sheet.specs.Reader.{type_at, next_at}
use Rattle.sheet.specs.Standing.{StandsAt}
use Rattle.sheet.proofs.Reading.{start_leads}
use Rattle.sheet.proofs.Stands.{stands_new, stands_end, stands_past, stands_next}
use Rattle.sheet.proofs.Accepted.{accepted_holds, accepted_carried, accepted_n, accepted_m, accepted_length}
use Rattle.coercion.specs.declared.Question.{Question}
use Rattle.buffers.specs.declared.Space.{Space}
use Rattle.answers.specs.Call.{bad_mask, bad_pair, bad_space}
use Rattle.answers.specs.Code.{number_of, Measured}
use Rattle.answers.specs.Terms.{Cause, first_refusal, condition_of, Terms, later_causes, refusal_under}
use Rattle.answers.specs.declared.Refusal.{Refusal}
use Rattle.refusals.proofs.Verdicts.{number_some}
use Rattle.std.specs.Prelude.{Result, Ok, Err}
use Rattle.coercion.specs.Data.{is_list_question}

-- whether a reader is past the last type, behind two others
third_ends : {s : List ℕ} {at : ℕ} (t : Fields) → StandsAt s at t → eqb at 0 ≡ eqb (1 + (1 + arity t)) 2
unfolding arity
third_ends {s} {at} end a = rw (eq-eqb at 0 (stands_end a))
third_ends {s} {at} (field name nullable shape parts rest) a =
    rw (ne_eqb at 0 (λ z. omega (arith, z, stands_past a)), ne_eqb (1 + (1 + (1 + arity rest))) 2 (λ z. omega arith))

-- whether it is at the last type, behind one other
second_last : {s : List ℕ} {at : ℕ} (t : Fields) → StandsAt s at t → not (eqb at 0) && eqb (next_at s at) 0 ≡ eqb (1 + arity t) 2
unfolding arity
second_last {s} {at} end a = rw (eq-eqb at 0 (stands_end a))
second_last {s} {at} (field name nullable shape parts rest) a =
    rw (ne_eqb at 0 (λ z. omega (arith, z, stands_past a))) (third_ends rest (stands_next a))

two_listed : {s : List ℕ} {at : ℕ} (t : Fields) → StandsAt s at t
    → not (eqb (next_at s at) 0) && eqb (next_at s (next_at s at)) 0 ≡ eqb (arity t) 2
unfolding arity type_at
two_listed end a = rw (stands_end a)
two_listed (field name nullable shape parts rest) a = second_last rest (stands_next a)

-- a list asks for no number of types
pub list_asked : (s : List ℕ) (q : Question) {b : Bool} → b ≡ true → b ≡ is_list_question q → not b ≡ bad_pair q s
unfolding bad_pair
list_asked s Question.List t e = ap not t
list_asked s Question.Union t e = ap not t ∙ ap (λ (x : Bool). cond x false (not (eqb (arity (read s)) 2))) (sym t ∙ e)
list_asked s Question.Compare t e = ap not t ∙ ap (λ (x : Bool). cond x false (not (eqb (arity (read s)) 2))) (sym t ∙ e)

-- a union or a comparison wants two types
pub pair_asked : (s : List ℕ) (q : Question) {b p : Bool} → b ≡ false → b ≡ is_list_question q → p ≡ eqb (arity (read s)) 2 → not p ≡ bad_pair q s
unfolding bad_pair
pair_asked s Question.List {p = p} t e h = ap (λ (x : Bool). cond x false (not p)) (sym t ∙ e)
pair_asked s Question.Union t e h = ap not h
pair_asked s Question.Compare t e h = ap not h

-- what is known of an accepted sheet
module _ (s : List ℕ) (space : Space) (plain : Plain s) (measured : Measured s space) where
  pub measured_n : space.n ≡ 1 + count (read s)
  measured_n = measured.records ∙ accepted_n s plain measured.unrefused

  pub measured_m : space.m ≡ length (labels (read s))
  measured_m = measured.labels ∙ accepted_m s plain measured.unrefused

  pub measured_leads : Leads s space.n 0 (start space.n) 1 0 (read s)
  measured_leads =
      record {
        holds = subst (λ (k : ℕ). Holds s k 1 0 (read s)) (sym measured.records) (accepted_holds s plain measured.unrefused);
        is = start_leads space.n (read s) measured_n;
        above = omega arith;
        inside = omega (arith, measured_n);
      }

  pub measured_half : space.half ≡ 16 * space.n + space.m
  measured_half = omega (arith, measured.half, measured.records, measured.labels, accepted_length s plain measured.unrefused)

  pub measured_few : space.n ≤ 1024
  measured_few = omega (arith, measured_n, (accepted_carried s plain measured.unrefused).few)

  pub measured_short : space.m ≤ 16384
  measured_short = omega (arith, measured_m, (accepted_carried s plain measured.unrefused).short)

  -- 7 pair: how many types are listed, by the second and the third record of their chain
  module _ {second : ℕ} (e : second ≡ next_at s (start space.n)) where
    listed_two : not (eqb second 0) && eqb (next_at s second) 0 ≡ eqb (arity (read s)) 2
    listed_two = rw (e, measured.records) (two_listed (read s) (stands_new s plain measured.unrefused))

    pub pair_one : second ≡ 0 → not (eqb second 0) ≡ eqb (arity (read s)) 2
    pair_one z = rw (eq-eqb second 0 z) (rw (eq-eqb second 0 z) at listed_two)

    pub pair_two : ¬ (second ≡ 0) → {third : ℕ} → third ≡ next_at s second → eqb third 0 ≡ eqb (arity (read s)) 2
    pair_two z f = rw f (rw (ne_eqb second 0 z) at listed_two)

-- a condition that is not met leaves the others
pass : (b : Bool) (n x y z : ℕ) → cond b (suc n) x ≡ 0 → (x ≡ 0 → y ≡ z) → cond b (suc n) y ≡ z
pass true n x y z h f = absurd (omega arith)
pass false n x y z h f = f h

-- a condition that is met is the first
met_first : (a b : List Condition) → ¬ (first_met a ≡ 0) → first_met (a ++ b) ≡ first_met a
met_first [] b h = absurd (h refl)
met_first (x ∷ xs) b h = go x.met h (met_first xs b)
  where
    go : (m : Bool) → ¬ (cond m x.number (first_met xs) ≡ 0) → (¬ (first_met xs ≡ 0) → first_met (xs ++ b) ≡ first_met xs)
        → cond m x.number (first_met (xs ++ b)) ≡ cond m x.number (first_met xs)
    go true h f = refl
    go false h f = f h

pub some_number : (r : Refusal) → ¬ (number_of r ≡ 0)
some_number (Refusal.Sheet r) = number_some r
some_number Refusal.Mask = λ h. omega arith
some_number Refusal.Pair = λ h. omega arith
some_number Refusal.Space = λ h. omega arith

-- the number of the first cause that is met, 0 where none is
abbrev pub number_met : Result Unit Refusal → ℕ
number_met (Err r) = number_of r
number_met (Ok u) = 0

caused : (xs : List Cause) → first_met (map condition_of xs) ≡ number_met (first_refusal xs)
caused [] = refl
caused (x ∷ xs) = go x.met (caused xs)
  where
    go : (m : Bool) → first_met (map condition_of xs) ≡ number_met (first_refusal xs)
        → cond m (number_of x.refusal) (first_met (map condition_of xs)) ≡ number_met (cond m (Err x.refusal) (first_refusal xs))
    go true h = refl
    go false h = h

-- causes that are tried behind others
abbrev pub or_else : Result Unit Refusal → Result Unit Refusal → Result Unit Refusal
or_else (Err r) o = Err r
or_else (Ok u) o = o

tried : (xs ys : List Cause) → or_else (first_refusal xs) (first_refusal ys) ≡ first_refusal (xs ++ ys)
tried [] ys = refl
tried (x ∷ xs) ys = go x.met (tried xs ys)
  where
    go : (m : Bool) → or_else (first_refusal xs) (first_refusal ys) ≡ first_refusal (xs ++ ys)
        → or_else (cond m (Err x.refusal) (first_refusal xs)) (first_refusal ys) ≡ cond m (Err x.refusal) (first_refusal (xs ++ ys))
    go true h = refl
    go false h = h

module _ (terms : Terms) (s out w : List ℕ) where
  -- the refusal of a call on a sheet that is refused is the sheet's
  pub sheet_refusal : ¬ (Sheet.refusal s ≡ 0) → refusal_under terms s out w ≡ Sheet.refusal s
  unfolding Sheet.refusal
  sheet_refusal h = met_first (Sheet.conditions s) (map condition_of (later_causes terms s out w)) h

  -- that of a call on an accepted sheet is one of 6 to 8
  pub accepted_refusal : Sheet.refusal s ≡ 0 → refusal_under terms s out w ≡ number_met (first_refusal (later_causes terms s out w))
  unfolding Sheet.refusal
  accepted_refusal h =
      pass (Sheet.torn s) 0 _ _ _ h (λ h.
      pass (Sheet.bad_kind s) 1 _ _ _ h (λ h.
      pass (Sheet.bad_chain s) 2 _ _ _ h (λ h.
      pass (Sheet.bad_figure s) 3 _ _ _ h (λ h.
      pass (Sheet.bad_label s) 4 _ _ _ h (λ h. caused (later_causes terms s out w))))))

  -- 6 is tried, then its own, and then 8
  pub tried_later : {a b c : Result Unit Refusal} → a ≡ cond (bad_mask terms.mask) (Err Refusal.Mask) (Ok tt) → b ≡ first_refusal (terms.causes s)
      → c ≡ cond (bad_space s out w) (Err Refusal.Space) (Ok tt) → or_else a (or_else b c) ≡ first_refusal (later_causes terms s out w)
  tried_later mask own space =
      let last : Cause = record { refusal = Refusal.Space; met = bad_space s out w } in
      (λ i. or_else (mask i) (or_else (own i) (space i)))
      ∙ ap (or_else (cond (bad_mask terms.mask) (Err Refusal.Mask) (Ok tt))) (tried (terms.causes s) (last ∷ []))
      ∙ tried (record { refusal = Refusal.Mask; met = bad_mask terms.mask } ∷ []) (terms.causes s ++ (last ∷ []))

-- what the check of a sheet that is not torn says
pub framed_measured : {s : List ℕ} {n m : ℕ} → FramedBy s n m → 0 ≡ Sheet.refusal s → Measured s (record { n = n; m = m; half = length s })
framed_measured f e = record { unrefused = sym e; records = f.records; labels = f.labels; half = refl }
