-- Parts of a list that stand at a place. Assumes nothing.
use mathlib.Core.Path.{◌≡◌, refl, ap, ap₂, sym, subst, ◌∙◌}
use mathlib.Core.List.{List, [], ◌++◌}
use Prim.Native.Nat.{ℕ, ◌+◌, ◌<◌, ◌≤◌}
use native.Mathlib.Omega.{arith}
use lib.ListN.{length, get_or, take, drop, length-append, length-take, length-drop}
use lib.Seq.{take-append_seam, drop-append_seam, take-take, take-add, drop-drop, get_or-take, get_or-drop, ext_get_or, take-length}
use Rattle.sheet.specs.Holds.{Span}

pub at_eq : (s : List ℕ) {i j : ℕ} → i ≡ j → get_or s i 0 ≡ get_or s j 0
at_eq s e = ap (λ (k : ℕ). get_or s k 0) e

-- the first part of two, and the second
two : (s : List ℕ) (i : ℕ) (u v : List ℕ)
    → take (length (u ++ v)) (drop i s) ≡ take (length u) (drop i s) ++ take (length v) (drop (i + length u) s)
two s i u v =
    ap (λ (k : ℕ). take k (drop i s)) (length-append u v) ∙ take-add (length u) (length v) (drop i s)
    ∙ ap (λ (l : List ℕ). take (length u) (drop i s) ++ take (length v) l) (drop-drop (length u) i s)

pub span_join : {s : List ℕ} {i : ℕ} (u v : List ℕ) → Span s i u → Span s (i + length u) v → Span s i (u ++ v)
span_join {s} {i} u v a b = record { same = two s i u v ∙ ap₂ ◌++◌ a.same b.same }

left : (s : List ℕ) (i : ℕ) (u v : List ℕ) → take (length (u ++ v)) (drop i s) ≡ u ++ v → take (length u) (drop i s) ≡ u
left s i u v a =
    sym (take-take (length u) (length (u ++ v)) (drop i s) (omega (arith, length-append u v)))
    ∙ ap (take (length u)) a ∙ take-append_seam u v

pub span_left : {s : List ℕ} {i : ℕ} (u v : List ℕ) → Span s i (u ++ v) → Span s i u
span_left {s} {i} u v a = record { same = left s i u v a.same }

pub span_right : {s : List ℕ} {i : ℕ} (u v : List ℕ) → Span s i (u ++ v) → Span s (i + length u) v
span_right {s} {i} u v a =
    record {
      same =
          sym (drop-append_seam u (take (length v) (drop (i + length u) s)))
          ∙ ap (drop (length u))
          (ap (λ (l : List ℕ). l ++ take (length v) (drop (i + length u) s)) (sym (left s i u v a.same)) ∙ sym (two s i u v) ∙ a.same)
          ∙ drop-append_seam u v;
    }

pub span_whole : (s : List ℕ) → Span s 0 s
span_whole s = record { same = take-length s }

pub span_nil : {s : List ℕ} {i : ℕ} → Span s i []
span_nil = record { same = refl }

pub span_move : {s : List ℕ} {i j : ℕ} {u : List ℕ} → i ≡ j → Span s i u → Span s j u
span_move {s} {u = u} e a = subst (λ (k : ℕ). Span s k u) e a

-- what stands at a place lies inside
pub span_inside : {s : List ℕ} {i : ℕ} {u : List ℕ} → 0 < length u → Span s i u → i + length u ≤ length s
span_inside {s} {i} {u} pos a = omega (arith, ap length a.same, length-take (length u) (drop i s), length-drop i s)

pub span_at : {s : List ℕ} {i : ℕ} {u : List ℕ} (j : ℕ) → j < length u → Span s i u → get_or s (i + j) 0 ≡ get_or u j 0
span_at {s} {i} {u} j h a =
    sym (get_or-drop i s j 0) ∙ sym (get_or-take (length u) (drop i s) j 0 h) ∙ ap (λ (l : List ℕ). get_or l j 0) a.same

pub part_length : (s : List ℕ) (i k : ℕ) → i + k ≤ length s → length (take k (drop i s)) ≡ k
part_length s i k h = omega (arith, length-take k (drop i s), length-drop i s)

pub at_span : (s : List ℕ) (i : ℕ) (u : List ℕ) → i + length u ≤ length s → ((j : ℕ) → j < length u → get_or s (i + j) 0 ≡ get_or u j 0) → Span s i u
at_span s i u h f =
    let e : length (take (length u) (drop i s)) ≡ length u = part_length s i (length u) h in
    record {
      same =
          ext_get_or 0 (take (length u) (drop i s)) u e
          (λ j q.
          let k : j < length u = omega arith in
          get_or-take (length u) (drop i s) j 0 k ∙ get_or-drop i s j 0 ∙ f j k);
    }
