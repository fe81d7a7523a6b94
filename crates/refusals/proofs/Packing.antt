-- The returns of the walk, each from what its calls ensure. Assumes nothing.
use mathlib.Core.Path.{◌≡◌, refl, sym, subst, ◌∙◌}
use mathlib.Core.Bool.{true, false}
use mathlib.Core.List.{List}
use Prim.Native.Nat.{ℕ, ◌+◌, ◌*◌, ◌-◌, ◌/◌, ◌%◌, ◌<◌, ◌≤◌}
use native.Mathlib.Omega.{arith}
use lib.ListN.{length}
use Rattle.sheet.specs.Kind.{parts_right}
use Rattle.sheet.specs.Head.{quad_at, head_from, by_quads, head_at}
use Rattle.sheet.specs.Holds.{Plain}
use Rattle.sheet.specs.declared.Head.{Head}
use Rattle.refusals.specs.Walk.{pass_head, WalkReady, Walks}
use Rattle.refusals.specs.Packed.{progress_of, walked_of, PlainAt, Passed, Row, WalkTells}
use Rattle.std.specs.Prelude.{Option, Some, None}
use Rattle.refusals.specs.declared.walk.Walked.{Walked}
use Rattle.refusals.specs.declared.Progress.{Progress}
use Rattle.sheet.proofs.Heads.{head_inside, by_quads_lem}
use Rattle.refusals.proofs.Light.{plain_passes, plain_parts}
use Rattle.refusals.proofs.Passing.{right_past}
use Rattle.refusals.proofs.Walking.{walk_none, walk_bare, walk_bare_wrong, walk_parts_lost, walk_parts_wrong, walk_on, ready_past}

-- what a walk tells
module _ (s : List ℕ) (n up link : ℕ) (p : Progress) (k : ℕ) where
  pub tells_lost : Walks s n up link p k None → WalkTells s n up link p k None
  tells_lost w = record { walks = w; small = tt }

  pub tells_came : (w : Walked) → w.found < 17179869184 → Walks s n up link p k (Some (progress_of w.due w.found, w.count)) → WalkTells s n up link p k (Some w)
  tells_came w small v = record { walks = v; small = small }

-- farther along a row
ready_on : (n r q found k : ℕ) → WalkReady n (progress_of r found) 0 → r ≤ q → q ≤ n → k ≤ q → WalkReady n (progress_of q found) k
ready_on n r q found k a le in' c = record { few = a.few; some = omega (arith, a.some); inside = in'; short = omega (arith, a.short); counted = c }

-- past a plain record
module _ (s : List ℕ) (n : ℕ) (bytes : Plain s) (long : 16 * n ≤ length s) (q : ℕ) (lt : q < n) (link : ℕ) (here : PlainAt s q (65536 * link)) where
  head : Head
  head = by_quads (quad_at s (16 * q)) (quad_at s (16 * q + 4)) (quad_at s (16 * q + 8)) (quad_at s (16 * q + 12))

  plain_walk : (up found k : ℕ) → WalkReady n (progress_of q found) k → (o : Option (Progress × ℕ))
      → Walks s n up link (progress_of (q + 1) found) (k + 1) o → Walks s n up q (progress_of q found) k o
  unfolding head
  plain_walk up found k ready o v =
      let a = quad_at s (16 * q) in
      let b = quad_at s (16 * q + 4) in
      let c = quad_at s (16 * q + 8) in
      let d = quad_at s (16 * q + 12) in
      let z : c % 65536 ≡ 0 = omega (arith, here.leads) in
      let e : link ≡ c / 65536 = omega (arith, here.leads) in
      let same : found ≡ found + 0 = omega arith in
      walk_bare s n up q (progress_of q found) k refl lt head
      (by_quads_lem s (16 * q) bytes a b c d refl refl refl refl ∙ sym (head_inside s q (omega arith)))
      (progress_of (q + 1) found)
      ((λ i. progress_of (q + 1) (same i))
      ∙ right_past head up found 0 (omega (arith, ready.short, ready.inside, ready.few)) (plain_passes a b c d here.says up (found % 4294967296)) q)
      ready (omega arith) z (plain_parts a b c d here.says) o
      (subst (λ (j : ℕ). Walks s n up j (progress_of (q + 1) found) (k + 1) o) e v)

  pub row_more : (r : ℕ) → Row s n r q q → Row s n r (q + 1) link
  row_more r row =
      let e : q + 1 - r ≡ q - r + 1 = omega (arith, row.some) in
      record {
        some = omega (arith, row.some);
        inside = omega arith;
        on =
            λ o up found a' w.
            row.on o up found a'
            (plain_walk up found (q - r) (ready_on n r q found (q - r) a' row.some (omega arith) (omega arith)) o
            (subst (λ (k : ℕ). Walks s n up link (progress_of (q + 1) found) k o) e w));
      }

-- where a chain begins with a row
module _ (s : List ℕ) (n due found : ℕ) (ready : WalkReady n (progress_of due found) 0) where
  pub row_ready : (row link : ℕ) → Row s n due row link → WalkReady n (progress_of row found) (row - due)
  row_ready row link g = ready_on n due row found (row - due) ready g.some g.inside (omega arith)

  module _ (link : ℕ) (e : link ≡ due) (up row : ℕ) where
    pub row_tells : Row s n due row row → (o : Option Walked) → WalkTells s n up row (progress_of row found) (row - due) o → WalkTells s n up link (progress_of due found) 0 o
    row_tells g o t =
        record {
          walks = subst (λ (j : ℕ). Walks s n up j (progress_of due found) 0 (walked_of o)) (sym e) (g.on (walked_of o) up found ready t.walks);
          small = t.small;
        }

    pub row_ends : found < 17179869184 → Row s n due row 0 → WalkTells s n up link (progress_of due found) 0 (Some (record { due = row; count = row - due; found = found }))
    row_ends small g =
        let o = Some (progress_of row found, row - due) in
        record {
          walks =
              subst (λ (j : ℕ). Walks s n up j (progress_of due found) 0 o) (sym e)
              (g.on o up found ready (walk_none s n up 0 (progress_of row found) (row - due) (row_ready row 0 g) refl));
          small = small;
        }

-- past a record
module _ (s : List ℕ) (n up link due found k : ℕ) (long : 16 * n ≤ length s) (e : link ≡ due) (lt : due < n)
    (h : Head) (eh : h ≡ head_from s (16 * due)) (r : ℕ) (passed : Passed (head_from s (16 * due)) up found r)
    (ready : WalkReady n (progress_of due found) k) where
  head_is : h ≡ head_at s due
  head_is = eh ∙ sym (head_inside s due (omega arith))

  past : progress_of (due + 1) r ≡ pass_head h up (progress_of due found)
  past = subst (λ (g : Head). progress_of (due + 1) r ≡ pass_head g up (progress_of due found)) (sym eh) (passed.past due)

  pub past_ready : (j : ℕ) → j ≤ k + 1 → WalkReady n (progress_of (due + 1) r) j
  past_ready j c = ready_past s n up link (progress_of due found) k e lt h head_is (progress_of (due + 1) r) past j c ready passed.few

  pub leaf_on : h.first ≡ 0 → parts_right h.kind 0 ≡ true → (o : Option (Progress × ℕ))
      → Walks s n up h.next (progress_of (due + 1) r) (k + 1) o → Walks s n up link (progress_of due found) k o
  leaf_on = walk_bare s n up link (progress_of due found) k e lt h head_is (progress_of (due + 1) r) past ready passed.few

  pub leaf_wrong : h.first ≡ 0 → parts_right h.kind 0 ≡ false → Walks s n up link (progress_of due found) k None
  leaf_wrong = walk_bare_wrong s n up link (progress_of due found) k e lt h head_is (progress_of (due + 1) r) past ready passed.few

  pub parts_lost : WalkTells s n h.kind h.first (progress_of (due + 1) r) 0 None → Walks s n up link (progress_of due found) k None
  parts_lost t = walk_parts_lost s n up link (progress_of due found) k e lt h head_is (progress_of (due + 1) r) past t.walks

  module _ (inner : Walked) (t : WalkTells s n h.kind h.first (progress_of (due + 1) r) 0 (Some inner)) where
    pub parts_ready : WalkReady n (progress_of inner.due inner.found) (k + 1)
    parts_ready =
        let g = t.walks.grows in
        record {
          few = ready.few;
          some = g.0.some;
          inside = g.0.inside;
          short = g.0.short;
          counted = omega (arith, g.1, ready.counted);
        }

    pub parts_farther : due + 1 ≤ inner.due
    parts_farther = t.walks.grows.1

    pub parts_wrong : parts_right h.kind inner.count ≡ false → Walks s n up link (progress_of due found) k None
    parts_wrong = walk_parts_wrong s n up link (progress_of due found) k e lt h head_is (progress_of (due + 1) r) past
        (progress_of inner.due inner.found) inner.count t.walks

    pub parts_on : parts_right h.kind inner.count ≡ true → (o : Option (Progress × ℕ))
        → Walks s n up h.next (progress_of inner.due inner.found) (k + 1) o → Walks s n up link (progress_of due found) k o
    parts_on = walk_on s n up link (progress_of due found) k e lt h head_is (progress_of (due + 1) r) past
        (progress_of inner.due inner.found) inner.count t.walks
