-- What a check answers, from what it found. Assumes nothing.
use mathlib.Core.Path.{◌≡◌, refl, ap, ap₂, sym, subst, ◌∙◌}
use mathlib.Core.Bool.{Bool, true, false, cond, not, ◌||◌, ◌&&◌, or_assoc, or-false}
use mathlib.Core.List.{List, [], ◌∷◌}
use Rattle.std.specs.Prelude.{Option, Some, None, Ok, Err}
use Prim.Native.Nat.{ℕ, ◌+◌, ◌-◌, ◌≤◌}
use native.Mathlib.Omega.{arith}
use lib.Dec.{eqb, ltb}
use mir.Val.{bool_byte as from_bool}
use borrow.Author.Tests.{eq-eqb, ne_eqb, eqb-true}
use Rattle.sheet.specs.declared.kind.TheConstants as Kind
use Rattle.sheet.specs.Kind.{is_kind}
use Rattle.sheet.specs.Types.{Fields, end, field, count}
use Rattle.sheet.specs.Head.{head_at, labelled}
use Rattle.sheet.specs.Read.{records_of, labels_of, start, read, walk_from}
use Rattle.sheet.specs.Names.{has_name, repeats, names_differ}
use Rattle.sheet.specs.Refusals.{Met, walk, torn, any_from, bad_kind, linked, bad_chain, record_right, any_wrong, bad_figure, label_right, misplaced, bad_label, refusal, Verdict, verdict, number_of, meaning}
use Rattle.sheet.specs.Holds.{Plain, Holds}
use Rattle.refusals.specs.Walk.{pass_head, pass_all, WalkSays, Walks}
use Rattle.refusals.specs.Framed.{FramedBy}
use Rattle.refusals.specs.Found.{outset, WalkFound}
use Rattle.refusals.specs.declared.Progress.{Progress}
use Rattle.sheet.specs.declared.Refusal.{Refusal}
use Rattle.sheet.specs.declared.Sizes.{Sizes}
use Rattle.sheet.proofs.Booleans.{all_not, all_cons, all_nil, one_is_lem, one_cons, one_nil, not_of}
use Rattle.refusals.proofs.Walking.{pass_due, met_length}
use Rattle.sheet.proofs.Accepted.{sound_holds}

-- the link to the first listed type
pub started : (n : ℕ) {l : ℕ} → l ≡ from_bool (ltb 1 n) → l ≡ start n
started n e = e ∙ bit (ltb 1 n)
  where
    bit : (b : Bool) → from_bool b ≡ cond b 1 0
    bit true = refl
    bit false = refl

-- what the scan over the kinds says
pub odd_kinds : (s : List ℕ) (n : ℕ) {b w : Bool} → n ≡ records_of s → b ≡ any_from (λ r. not (is_kind (head_at s r).kind)) 1 (n - 1) → b ≡ w → bad_kind s ≡ w
unfolding bad_kind
odd_kinds s n e h k = ap (λ (j : ℕ). any_from (λ r. not (is_kind (head_at s r).kind)) 1 (j - 1)) (sym e) ∙ sym h ∙ k

pass_figure : (s : List ℕ) (p : Progress) (ms : List Met) → (pass_all s p ms).figure ≡ (p.figure || any_wrong s ms)
unfolding any_wrong
pass_figure s p [] = sym (or-false p.figure)
pass_figure s p (x ∷ xs) =
    pass_figure s (pass_head (head_at s x.number) x.up p) xs ∙ or_assoc p.figure (not (record_right (head_at s x.number) x.up)) (any_wrong s xs)

pass_places : (s : List ℕ) (p : Progress) (ms : List Met)
    → ((pass_all s p ms).label || not (eqb (pass_all s p ms).at (labels_of s))) ≡ (p.label || misplaced s p.at ms)
unfolding misplaced
pass_places s p [] = refl
pass_places s p (x ∷ xs) =
    let h = head_at s x.number in
    pass_places s (pass_head h x.up p) xs ∙ or_assoc p.label (not (label_right h x.up p.at)) (misplaced s (p.at + labelled h) xs)

module _ (s : List ℕ) where
  pub says_torn : torn s ≡ true → 1 ≡ refusal s
  unfolding refusal
  says_torn h = rw h

  module _ (whole : torn s ≡ false) where
    pub says_kind : bad_kind s ≡ true → 2 ≡ refusal s
    unfolding refusal
    says_kind h = rw (whole, h)

    module _ (kinds : bad_kind s ≡ false) where
      pub says_chain : bad_chain s ≡ true → 3 ≡ refusal s
      unfolding refusal
      says_chain h = rw (whole, kinds, h)

      module _ (chain : bad_chain s ≡ false) where
        pub says_figure : bad_figure s ≡ true → 4 ≡ refusal s
        unfolding refusal
        says_figure h = rw (whole, kinds, chain, h)

        module _ (figures : bad_figure s ≡ false) where
          pub says_label : bad_label s ≡ true → 5 ≡ refusal s
          unfolding refusal
          says_label h = rw (whole, kinds, chain, figures, h)

          pub says_accepted : bad_label s ≡ false → 0 ≡ refusal s
          unfolding refusal
          says_accepted h = rw (whole, kinds, chain, figures, h)

-- of two records neither is a Struct with two fields of one name
one_part : (t : Fields) → count t ≤ 1 → repeats t ≡ false
unfolding count repeats has_name
one_part end h = refl
one_part (field name nullable shape parts end) h = refl
one_part (field name nullable shape parts (field name₂ nullable₂ shape₂ parts₂ rest)) h = absurd (omega arith)

not_and : (a : Bool) {b : Bool} → b ≡ false → not (a && b) ≡ true
not_and true e = ap not e
not_and false e = refl

pub few_differ : (t : Fields) → count t ≤ 2 → names_differ t ≡ true
unfolding count names_differ
few_differ end h = refl
few_differ (field name nullable shape parts rest) h =
    all_cons _ (not_and (eqb shape.kind Kind.STRUCT) (one_part parts (omega arith)))
    (all_cons _ (few_differ parts (omega arith)) (all_cons _ (few_differ rest (omega arith)) all_nil))

-- the walk over the whole sheet
module _ (s : List ℕ) (n m : ℕ) (framed : FramedBy s n m) (kinds : bad_kind s ≡ false) (link : ℕ) (root : link ≡ start n) where
  whole_walk : {o : Option (Progress × ℕ)} → Walks s n 0 link outset 0 o → WalkSays s 0 link outset 0 (read s) o
  unfolding read
  whole_walk {o} w =
      subst (λ (t : Fields). WalkSays s 0 link outset 0 t o)
      (ap₂ (λ (a b : ℕ). walk_from a s a b 1) framed.records (root ∙ ap start framed.records)) (w.says n (omega arith))

  pub chain_lost : Walks s n 0 link outset 0 None → 3 ≡ refusal s
  unfolding bad_chain
  chain_lost w =
      says_chain s framed.whole kinds
      (ap not (all_not _ 0 (ap (λ (l : ℕ). linked s l 1 (read s)) (sym (root ∙ ap start framed.records)) ∙ whole_walk w)))

  pub chain_found : (p : Progress) (k : ℕ) → Walks s n 0 link outset 0 (Some (p, k)) → WalkFound s n m link p
  chain_found p k w = let a = whole_walk w in record { framed = framed; kinds = kinds; root = root; chain = a.0; passed = a.1.0 }

module _ (s : List ℕ) (n m link : ℕ) (p : Progress) (found : WalkFound s n m link p) where
  due_is : p.due ≡ 1 + count (read s)
  due_is = ap (λ (x : Progress). x.due) found.passed ∙ omega (arith, pass_due s outset (walk s), met_length 0 1 (read s))

  figure_is : p.figure ≡ bad_figure s
  unfolding bad_figure
  figure_is = ap (λ (x : Progress). x.figure) found.passed ∙ pass_figure s outset (walk s)

  places_are : (p.label || not (eqb p.at (labels_of s))) ≡ misplaced s 0 (walk s)
  places_are = ap (λ (x : Progress). x.label || not (eqb x.at (labels_of s))) found.passed ∙ pass_places s outset (walk s)

  pub found_short : ¬ (p.due ≡ n) → 3 ≡ refusal s
  unfolding bad_chain
  found_short h =
      says_chain s found.framed.whole found.kinds
      (ap not (all_not _ 1 (ne_eqb (count (read s)) (records_of s - 1) (λ e. h (omega (arith, due_is, found.framed.records, found.framed.some))))))

  module _ (due : p.due ≡ n) where
    chain_right : bad_chain s ≡ false
    unfolding bad_chain
    chain_right =
        not_of
        (all_cons _ (ap (λ (l : ℕ). linked s l 1 (read s)) (sym (found.root ∙ ap start found.framed.records)) ∙ found.chain)
        (all_cons _ (eq-eqb (count (read s)) (records_of s - 1) (omega (arith, due_is, found.framed.records))) all_nil))

    pub found_figure : p.figure ≡ true → 4 ≡ refusal s
    found_figure h = says_figure s found.framed.whole found.kinds chain_right (sym figure_is ∙ h)

    module _ (figure : p.figure ≡ false) where
      figures_right : bad_figure s ≡ false
      figures_right = sym figure_is ∙ figure

      mis : misplaced s 0 (walk s) ≡ true → 5 ≡ refusal s
      unfolding bad_label
      mis h = says_label s found.framed.whole found.kinds chain_right figures_right (one_is_lem _ 0 h)

      pub found_label : p.label ≡ true → 5 ≡ refusal s
      found_label h = mis (sym places_are ∙ ap (λ (b : Bool). b || not (eqb p.at (labels_of s))) h)

      module _ (label : p.label ≡ false) where
        pub found_end : ¬ (p.at ≡ m) → 5 ≡ refusal s
        found_end h =
            mis
            (sym places_are ∙ ap (λ (b : Bool). b || not (eqb p.at (labels_of s))) label
            ∙ ap not (ne_eqb p.at (labels_of s) (λ e. h (omega (arith, found.framed.labels)))))

        module _ (at : p.at ≡ m) (plain : Plain s) where
          placed : misplaced s 0 (walk s) ≡ false
          placed =
              sym places_are ∙ ap (λ (b : Bool). b || not (eqb p.at (labels_of s))) label
              ∙ ap not (eq-eqb p.at (labels_of s) (at ∙ found.framed.labels))

          holds : Holds s n 1 0 (read s)
          holds =
              subst (λ (k : ℕ). Holds s k 1 0 (read s)) (sym found.framed.records)
              (sound_holds s plain (record { whole = found.framed.whole; kinds = found.kinds; chain = chain_right; figures = figures_right; places = placed }))

          module _ {b : Bool} (names : (o : ℕ) (t : Fields) → Holds s n 1 o t → 1 + count t ≡ n → b ≡ not (names_differ t)) where
            pub found_repeated : b ≡ true → 5 ≡ refusal s
            unfolding bad_label
            found_repeated h =
                says_label s found.framed.whole found.kinds chain_right figures_right (one_is_lem _ 1 (sym (names 0 (read s) holds (omega (arith, due_is))) ∙ h))

            pub found_sheet : b ≡ false → 0 ≡ refusal s
            unfolding bad_label
            found_sheet h =
                says_accepted s found.framed.whole found.kinds chain_right figures_right
                (one_cons _ placed (one_cons _ (sym (names 0 (read s) holds (omega (arith, due_is))) ∙ h) one_nil))

-- what a verdict says of the refusal number
verdict_number : (s : List ℕ) → (verdict s).number ≡ refusal s
unfolding verdict
verdict_number s = go (eqb (refusal s) 0) refl
  where
    go : (b : Bool) → eqb (refusal s) 0 ≡ b
        → (cond {A = Verdict} b (record { number = 0; n = records_of s; m = labels_of s }) (record { number = refusal s; n = 0; m = 0 })).number ≡ refusal s
    go true e = sym (eqb-true (refusal s) 0 e)
    go false e = refl

pub checked_number : (s : List ℕ) (k n m : ℕ) → record { number = k; n = n; m = m } ≡ verdict s → refusal s ≡ k
checked_number s k n m h = sym (verdict_number s) ∙ ap (λ (v : Verdict). v.number) (sym h)

pub verdict_is : (s : List ℕ) → refusal s ≡ 0 → verdict s ≡ record { number = 0; n = records_of s; m = labels_of s }
unfolding verdict
verdict_is s z = rw z

-- no refusal of the code has the number 0
pub number_some : (r : Refusal) → ¬ (number_of r ≡ 0)
number_some Refusal.Torn e = omega arith
number_some Refusal.Kind e = omega arith
number_some Refusal.Chain e = omega arith
number_some Refusal.Figure e = omega arith
number_some Refusal.Label e = omega arith

-- what is answered of a sheet that is refused
pub verdict_refused : (s : List ℕ) (r : Refusal) → number_of r ≡ refusal s → meaning (Err r) ≡ verdict s
unfolding verdict
verdict_refused s r e = rw (sym e, ne_eqb (number_of r) 0 (number_some r))

-- and of one that is not
pub verdict_accepted : (s : List ℕ) (sizes : Sizes) → FramedBy s sizes.n sizes.m → 0 ≡ refusal s → meaning (Ok sizes) ≡ verdict s
verdict_accepted s sizes f e =
    (λ i. record { number = 0; n = f.records i; m = f.labels i }) ∙ sym (verdict_is s (sym e))
