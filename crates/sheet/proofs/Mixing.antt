-- The number that goes by the bytes of a name, four at a time. Assumes nothing.
use mathlib.Core.Path.{◌≡◌, refl, sym, ◌∙◌, ap}
use mathlib.Core.List.{List, [], ◌∷◌}
use Prim.Native.Nat.{ℕ, zero, suc, ◌+◌, ◌*◌, ◌/◌, ◌%◌, ◌<◌, ◌≤◌}
use native.Mathlib.Omega.{arith}
use lib.ListN.{length, take, drop, length-drop}
use lib.Seq.{drop-drop, take_all}
use Rattle.std.specs.Int.{w32, rotate_left, from_le_bytes}
use Rattle.std.proofs.lemmas.Nat.{or_shifted}
use Rattle.std.specs.List.{fold}
use Rattle.std.specs.Simd.{first_chunks}
use Rattle.sheet.specs.Names.{stir, mixed}

turned : (k : ℕ) → k < 4294967296 → rotate_left w32 k 16 ≡ k / 65536 + k % 65536 * 65536
turned k h =
    let e : k * 65536 % 4294967296 ≡ k % 65536 * 65536 = omega arith in
    rw e (or_shifted (k % 65536) 16 (k / 65536) (omega arith) ∙ omega arith)

-- the halves of k change places
pub stirred_is : (k x r : ℕ) → k < 4294967296 → r ≡ rotate_left w32 k 16 → (r + x) % 4294967296 * 1640531527 % 4294967296 ≡ stir k x
stirred_is k x r h e = omega (arith, e ∙ turned k h)

-- runs of four bytes, stirred in one after the other
abbrev pub stir_all : ℕ → List (List ℕ) → ℕ
stir_all k quads = fold (λ k quad. stir k (from_le_bytes w32 quad)) k quads

mixed_quads : (n k : ℕ) (s : List ℕ) → n * 4 ≤ length s → mixed k s ≡ mixed (stir_all k (first_chunks 4 n s)) (drop (n * 4) s)
unfolding mixed
mixed_quads zero k s h = refl
mixed_quads (suc n) k [] h = absurd (omega arith)
mixed_quads (suc n) k (a ∷ []) h = absurd (omega arith)
mixed_quads (suc n) k (a ∷ b ∷ []) h = absurd (omega arith)
mixed_quads (suc n) k (a ∷ b ∷ c ∷ []) h = absurd (omega arith)
mixed_quads (suc n) k (a ∷ b ∷ c ∷ d ∷ bs) h =
    let e : a + 256 * b + 65536 * (c + 256 * d) ≡ from_le_bytes w32 (a ∷ b ∷ c ∷ d ∷ []) = omega arith in
    let i : 4 + n * 4 ≡ suc n * 4 = omega arith in
    ap (λ (x : ℕ). mixed (stir k x) bs) e
    ∙ mixed_quads n (stir k (from_le_bytes w32 (a ∷ b ∷ c ∷ d ∷ []))) bs (omega arith)
    ∙ ap (mixed (stir_all (stir k (from_le_bytes w32 (a ∷ b ∷ c ∷ d ∷ []))) (first_chunks 4 n bs))) (drop-drop (n * 4) 4 (a ∷ b ∷ c ∷ d ∷ bs) ∙ ap (λ (j : ℕ). drop j (a ∷ b ∷ c ∷ d ∷ bs)) i)

mixed_rest : (k : ℕ) (s : List ℕ) → length s < 4 → mixed k s ≡ fold stir k s
unfolding mixed
mixed_rest k [] h = refl
mixed_rest k (a ∷ []) h = refl
mixed_rest k (a ∷ b ∷ []) h = refl
mixed_rest k (a ∷ b ∷ c ∷ []) h = refl
mixed_rest k (a ∷ b ∷ c ∷ d ∷ bs) h = absurd (omega arith)

-- the number by whole runs of four bytes, and then by the bytes that are left
mixed_folds : (s : List ℕ) → mixed 0 s ≡ fold stir (stir_all 0 (first_chunks 4 (length s / 4) s)) (drop (length s / 4 * 4) s)
mixed_folds s =
    mixed_quads (length s / 4) 0 s (omega arith)
    ∙ mixed_rest (stir_all 0 (first_chunks 4 (length s / 4) s)) (drop (length s / 4 * 4) s) (omega (arith, length-drop (length s / 4 * 4) s))

pub mixed_done : (s rest : List ℕ) (k i : ℕ) → rest ≡ drop (length s / 4 * 4) s → length rest ≤ i
    → k ≡ fold stir (stir_all 0 (first_chunks 4 (length s / 4) s)) (take i rest) → k ≡ mixed 0 s
mixed_done s rest k i e h v =
    v ∙ ap (fold stir (stir_all 0 (first_chunks 4 (length s / 4) s))) (take_all i rest h ∙ e) ∙ sym (mixed_folds s)
