-- The returns of `walk`, each from what its calls ensure. Assumes nothing.
use mathlib.Core.Path.{◌≡◌, refl, ap, ap₂, sym, subst, ◌∙◌}
use mathlib.Core.Bool.{true, false, ◌&&◌}
use mathlib.Core.List.{List, [], ◌∷◌, ◌++◌}
use Rattle.std.specs.Prelude.{Option, Some, None}
use Prim.Native.Nat.{ℕ, zero, suc, ◌+◌, ◌<◌, ◌≤◌}
use native.Mathlib.Omega.{arith}
use lib.ListN.{length, length-append}
use lib.Dec.{eqb, ltb}
use borrow.Author.Tests.{eq-eqb, ne_eqb, le-ltb}
use Rattle.std.proofs.lemmas.Bool.{and_right}
use Rattle.sheet.specs.Kind.{parts_right}
use Rattle.sheet.specs.Types.{Fields, end, field, arity, count}
use Rattle.sheet.specs.Head.{head_at}
use Rattle.sheet.specs.Read.{field_of, walk_from}
use Rattle.sheet.specs.Refusals.{Met, met, linked}
use Rattle.refusals.specs.Walk.{pass_head, pass_all, WalkReady, WalkSays, Walks}
use Rattle.sheet.specs.declared.Head.{Head}
use Rattle.refusals.specs.declared.Progress.{Progress}
use Rattle.sheet.proofs.Booleans.{all_not, all_cons, all_nil}
use Rattle.sheet.proofs.Reading.{walk_step, walk_end}

-- past two runs of records
pub pass_append : (s : List ℕ) (p : Progress) (xs ys : List Met) → pass_all s p (xs ++ ys) ≡ pass_all s (pass_all s p xs) ys
pass_append s p [] ys = refl
pass_append s p (x ∷ xs) ys = pass_append s (pass_head (head_at s x.number) x.up p) xs ys

pub pass_due : (s : List ℕ) (p : Progress) (xs : List Met) → (pass_all s p xs).due ≡ p.due + length xs
pass_due s p [] = omega arith
pass_due s p (x ∷ xs) = omega (arith, pass_due s (pass_head (head_at s x.number) x.up p) xs)

pub met_length : (up r : ℕ) (t : Fields) → length (met up r t) ≡ count t
unfolding met count
met_length up r end = refl
met_length up r (field name nullable shape parts rest) =
    omega (arith, length-append (met shape.kind (r + 1) parts) (met up (r + 1 + count parts) rest), met_length shape.kind (r + 1) parts, met_length up (r + 1 + count parts) rest)

-- a link that does not lead to the record that is due
walk_nowhere : (f : ℕ) (s : List ℕ) (n link r : ℕ) → (eqb link r && ltb r n) ≡ false → walk_from f s n link r ≡ end
unfolding walk_from
walk_nowhere zero s n link r h = refl
walk_nowhere (suc f) s n link r h = rw h

module _ (s : List ℕ) (n up link : ℕ) (p : Progress) (k : ℕ) where
  pub walk_none : WalkReady n p k → link ≡ 0 → Walks s n up link p k (Some (p, k))
  unfolding linked met arity
  walk_none ready e =
      record {
        grows = (ready, omega arith);
        says =
            λ f h.
            rw e
            (rw (walk_end f s n p.due ready.some) (refl, (refl, omega arith)));
      }

  stop : (¬ (link ≡ 0)) → (eqb link p.due && ltb p.due n) ≡ false → Walks s n up link p k None
  unfolding linked
  stop z h = record { grows = tt; says = λ f q. rw (walk_nowhere f s n link p.due h) (ne_eqb link 0 z) }

  pub walk_lost : (¬ (link ≡ 0)) → (¬ (link ≡ p.due)) → Walks s n up link p k None
  walk_lost z d = stop z (rw (ne_eqb link p.due d))

  pub walk_past : (¬ (link ≡ 0)) → n ≤ p.due → Walks s n up link p k None
  walk_past z d = stop z (and_right (eqb link p.due) (ltb p.due n) (le-ltb p.due n d))

  module _ (e : link ≡ p.due) (lt : p.due < n) (h : Head) (eh : h ≡ head_at s p.due) (q : Progress) (eq : q ≡ pass_head h up p) where
    parts_of_lem : ℕ → Fields
    parts_of_lem f = walk_from f s n h.first (p.due + 1)

    rest_of : ℕ → Fields
    rest_of f = walk_from f s n h.next (p.due + 1 + count (walk_from f s n h.first (p.due + 1)))

    walked : (f : ℕ) → walk_from (suc f) s n link p.due ≡ field_of s n h (parts_of_lem f) (rest_of f)
    unfolding parts_of_lem rest_of
    walked f = rw e (walk_step f s n p.due h (parts_of_lem f) (rest_of f) lt (sym eh) refl refl)

    due_is : q.due ≡ p.due + 1
    due_is = ap (λ (x : Progress). x.due) eq

    -- past the record no number outgrows its limit
    pub ready_past : (j : ℕ) → j ≤ k + 1 → WalkReady n p k → q.at ≤ p.at + 510 → WalkReady n q j
    ready_past j c r a =
        record {
          few = r.few;
          some = omega (arith, due_is);
          inside = omega (arith, due_is);
          short = omega (arith, due_is, r.short);
          counted = omega (arith, due_is, r.counted);
        }

    -- what the walk of the parts says, at one step less
    inside : {o : Option (Progress × ℕ)} → Walks s n h.kind h.first q 0 o → (f : ℕ) → n ≤ p.due + suc f → WalkSays s h.kind h.first q 0 (parts_of_lem f) o
    unfolding parts_of_lem
    inside {o} w f g =
        subst (λ (j : ℕ). WalkSays s h.kind h.first q 0 (walk_from f s n h.first j) o) due_is (w.says f (omega (arith, due_is)))

    steps : (Q : Fields → Type 0) → ((f : ℕ) → n ≤ p.due + suc f → Q (field_of s n h (parts_of_lem f) (rest_of f))) → (f : ℕ) → n ≤ p.due + f → Q (walk_from f s n link p.due)
    steps Q a zero g = absurd (omega arith)
    steps Q a (suc f) g = rw (walked f) (a f g)

    pub walk_parts_lost : Walks s n h.kind h.first q 0 None → Walks s n up link p k None
    unfolding linked
    walk_parts_lost w =
        record {
          grows = tt;
          says =
              steps (λ t. linked s link p.due t ≡ false)
              (λ f g. all_not _ 2 (rw (← eh) (subst (λ (j : ℕ). linked s h.first j (parts_of_lem f) ≡ false) due_is (inside w f g))));
        }

    module _ (inner : Progress) (parts : ℕ) (w : Walks s n h.kind h.first q 0 (Some (inner, parts))) where
      arity_is : (f : ℕ) → n ≤ p.due + suc f → parts ≡ arity (parts_of_lem f)
      arity_is f g = omega (arith, (inside w f g).1.1)

      inner_is : (f : ℕ) → n ≤ p.due + suc f → inner ≡ pass_all s q (met h.kind (p.due + 1) (parts_of_lem f))
      inner_is f g = (inside w f g).1.0 ∙ ap (λ (j : ℕ). pass_all s q (met h.kind j (parts_of_lem f))) due_is

      inner_due : (f : ℕ) → n ≤ p.due + suc f → inner.due ≡ p.due + 1 + count (parts_of_lem f)
      inner_due f g =
          ap (λ (x : Progress). x.due) (inner_is f g)
          ∙ omega (arith, pass_due s q (met h.kind (p.due + 1) (parts_of_lem f)), met_length h.kind (p.due + 1) (parts_of_lem f), due_is)

      parts_linked : (f : ℕ) → n ≤ p.due + suc f → linked s (head_at s p.due).first (p.due + 1) (parts_of_lem f) ≡ true
      parts_linked f g = rw (← eh) (subst (λ (j : ℕ). linked s h.first j (parts_of_lem f) ≡ true) due_is (inside w f g).0)

      pub walk_parts_wrong : parts_right h.kind parts ≡ false → Walks s n up link p k None
      unfolding linked
      walk_parts_wrong b =
          record {
            grows = tt;
            says = steps (λ t. linked s link p.due t ≡ false) (λ f g. all_not _ 1 (rw (← eh, ← arity_is f g) b));
          }

      -- what the walk of the rest says
      outside : {o : Option (Progress × ℕ)} → Walks s n up h.next inner (k + 1) o → (f : ℕ) → n ≤ p.due + suc f → WalkSays s up h.next inner (k + 1) (rest_of f) o
      unfolding rest_of parts_of_lem
      outside {o} v f g =
          subst (λ (j : ℕ). WalkSays s up h.next inner (k + 1) (walk_from f s n h.next j) o) (inner_due f g) (v.says f (omega (arith, inner_due f g)))

      pub walk_rest_lost : Walks s n up h.next inner (k + 1) None → Walks s n up link p k None
      unfolding linked
      walk_rest_lost v =
          record {
            grows = tt;
            says =
                steps (λ t. linked s link p.due t ≡ false)
                (λ f g. all_not _ 3 (rw (← eh) (subst (λ (j : ℕ). linked s h.next j (rest_of f) ≡ false) (inner_due f g) (outside v f g))));
          }

      pub walk_rest : parts_right h.kind parts ≡ true → (last : Progress) (j : ℕ) → Walks s n up h.next inner (k + 1) (Some (last, j)) → Walks s n up link p k (Some (last, j))
      unfolding linked met arity
      walk_rest b last j v =
          record {
            grows = (v.grows.0, omega (arith, v.grows.1, w.grows.1, due_is));
            says =
                steps
                (λ t. (linked s link p.due t ≡ true) × ((last ≡ pass_all s p (met up p.due t)) × (j ≡ k + arity t)))
                (λ f g. (
                  all_cons _ (eq-eqb link p.due e)
                      (all_cons _ (rw (← eh, ← arity_is f g) b)
                      (all_cons _ (parts_linked f g)
                      (all_cons _ (rw (← eh) (subst (λ (i : ℕ). linked s h.next i (rest_of f) ≡ true) (inner_due f g) (outside v f g).0)) all_nil))),
                  (
                    (outside v f g).1.0
                        ∙ ap₂ (λ (x : Progress) (i : ℕ). pass_all s x (met up i (rest_of f))) (inner_is f g) (inner_due f g)
                        ∙ sym (pass_append s q (met h.kind (p.due + 1) (parts_of_lem f)) (met up (p.due + 1 + count (parts_of_lem f)) (rest_of f)))
                        ∙ ap (λ (x : Progress). pass_all s x (met h.kind (p.due + 1) (parts_of_lem f) ++ met up (p.due + 1 + count (parts_of_lem f)) (rest_of f)))
                        (eq ∙ ap (λ (x : Head). pass_head x up p) eh),
                    omega (arith, (outside v f g).1.1),
                  ),
                ));
          }

      pub walk_on : parts_right h.kind parts ≡ true → (o : Option (Progress × ℕ)) → Walks s n up h.next inner (k + 1) o → Walks s n up link p k o
      walk_on b (Some (last, j)) v = walk_rest b last j v
      walk_on b None v = walk_rest_lost v

-- a record without parts
module _ (s : List ℕ) (n up link : ℕ) (p : Progress) (k : ℕ) (e : link ≡ p.due) (lt : p.due < n) (h : Head) (eh : h ≡ head_at s p.due)
    (q : Progress) (eq : q ≡ pass_head h up p) (ready : WalkReady n p k) (few : q.at ≤ p.at + 510) (z : h.first ≡ 0) where
  none : Walks s n h.kind h.first q 0 (Some (q, 0))
  none = walk_none s n h.kind h.first q 0 (ready_past s n up link p k e lt h eh q eq 0 (omega arith) ready few) z

  pub walk_bare : parts_right h.kind 0 ≡ true → (o : Option (Progress × ℕ)) → Walks s n up h.next q (k + 1) o → Walks s n up link p k o
  walk_bare = walk_on s n up link p k e lt h eh q eq q 0 none

  pub walk_bare_wrong : parts_right h.kind 0 ≡ false → Walks s n up link p k None
  walk_bare_wrong = walk_parts_wrong s n up link p k e lt h eh q eq q 0 none
