-- Bytes that were put into a buffer. Assumes nothing.
use mathlib.Core.Path.{◌≡◌, refl, ap, ap₂, sym, ◌∙◌}
use mathlib.Core.List.{List, [], ◌++◌, append-nil, append_assoc}
use Rattle.std.proofs.lemmas.List.{take_min}
use Prim.Native.Nat.{ℕ, min, ◌+◌, ◌-◌, ◌<◌, ◌≤◌}
use native.Mathlib.Omega.{arith}
use lib.ListN.{length, get_or, take, drop, length-append, length-take, length-drop, drop_of_length-le, get_or-append}
use lib.Seq.{paste, get_or-append-add, get_or-take, get_or-drop, take-length, take_all, drop-drop}
use Rattle.sheet.proofs.Spans.{at_eq, at_span}
use Rattle.sheet.specs.Writes.{Put}

-- u in the middle of a list
pub put_list : (w v u : List ℕ) (i : ℕ) → i + length u ≤ length w → v ≡ take i w ++ (u ++ drop (i + length u) w) → Put w v i u
put_list w v u i h e =
    let a : length (take i w) ≡ i = omega (arith, length-take i w) in
    let b = length-append (take i w) (u ++ drop (i + length u) w) in
    let c = length-append u (drop (i + length u) w) in
    let long : length v ≡ length w = ap length e ∙ omega (arith, a, b, c, length-drop (i + length u) w) in
    let mid : (j : ℕ) → get_or v (i + j) 0 ≡ get_or (u ++ drop (i + length u) w) j 0 =
    λ j. ap (λ (l : List ℕ). get_or l (i + j) 0) e ∙ at_eq (take i w ++ (u ++ drop (i + length u) w)) {i = i + j} {j = length (take i w) + j} (omega arith)
    ∙ get_or-append-add (take i w) (u ++ drop (i + length u) w) j 0 in
    record {
      long = long;
      below =
          λ j q.
          ap (λ (l : List ℕ). get_or l j 0) e ∙ get_or-append (take i w) (u ++ drop (i + length u) w) 0 j (omega arith) ∙ get_or-take i w j 0 q;
      above =
          λ j q.
          at_eq v {i = j} {j = i + (length u + (j - (i + length u)))} (omega arith) ∙ mid (length u + (j - (i + length u)))
          ∙ get_or-append-add u (drop (i + length u) w) (j - (i + length u)) 0 ∙ get_or-drop (i + length u) w (j - (i + length u)) 0 ∙ at_eq w (omega arith);
      span = at_span v i u (omega arith) (λ j q. mid j ∙ get_or-append u (drop (i + length u) w) 0 j q);
    }

-- what a copy into the part from i on leaves
pub put_part : (w u p : List ℕ) (i k : ℕ) → i + length u ≤ length w → k ≡ length w - i → p ≡ take (length u) u ++ drop (length u) (take k (drop i w))
    → Put w (take i w ++ (p ++ drop k (drop i w))) i u
put_part w u p i k h ek ep =
    let all : take k (drop i w) ≡ drop i w = take_all k (drop i w) (omega (arith, length-drop i w)) in
    let past : drop k (drop i w) ≡ [] = drop_of_length-le (drop i w) {i = k} (omega (arith, length-drop i w)) in
    let ep' : p ≡ u ++ drop (i + length u) w =
    ep ∙ ap₂ ◌++◌ (take-length u) (ap (drop (length u)) all ∙ drop-drop (length u) i w) in
    put_list w (take i w ++ (p ++ drop k (drop i w))) u i h
    (ap (λ (l : List ℕ). take i w ++ l) (ap₂ ◌++◌ ep' past ∙ append-nil (u ++ drop (i + length u) w)))

-- a label of w, as far as w has it, that was copied to another place
pub put_within : (w v : List ℕ) (from len at stop : ℕ) → stop ≡ min (from + len) (length w) → from < stop → at + len ≤ length w
    → v ≡ paste w at (drop from w) (stop - from) → Put w v at (take len (drop from w))
put_within w v from len at stop e lt h p =
    let d = drop from w in
    let n : stop - from ≡ min len (length d) = omega (arith, length-drop from w) in
    let long : stop - from ≡ length (take len d) = n ∙ sym (length-take len d) in
    put_list w v (take len d) at (omega (arith, length-take len d))
    (p ∙ append_assoc (take at w) (take (stop - from) d) (drop (at + (stop - from)) w)
    ∙ ap₂ (λ (l : List ℕ) (k : ℕ). take at w ++ (l ++ drop (at + k) w)) (ap (λ (k : ℕ). take k d) n ∙ take_min len d) long)

-- nothing was put
pub put_none : (w u : List ℕ) (i : ℕ) → i ≤ length w → Put w w i (take 0 u)
put_none w u i h =
    let l = length-take 0 u in
    record {
      long = refl;
      below = λ j q. refl;
      above = λ j q. refl;
      span = at_span w i (take 0 u) (omega (arith, l)) (λ j q. absurd (omega (arith, l)));
    }
