-- Tables of partners that are true of every side, and that stay true. Assumes nothing.
use mathlib.Core.Path.{◌≡◌, refl, sym, subst}
use mathlib.Core.Bool.{Bool, not}
use mathlib.Core.List.{List}
use Prim.Native.Nat.{ℕ, zero, suc, ◌+◌, ◌*◌}
use native.Mathlib.Omega.{arith}
use lib.ListN.{get_or, replicate}
use Rattle.sheet.specs.Types.{Fields}
use Rattle.buffers.specs.Writes.{side}
use Rattle.buffers.specs.Region.{Kept}
use Rattle.buffers.specs.Typed.{Chain}
use Rattle.partners.specs.Partners.{Partner, Partners}
use Rattle.buffers.specs.declared.Space.{Space}
use Rattle.buffers.proofs.Copying.{held_side}

-- a table that says nothing
pub partners_none : (space : Space) (s w table : List ℕ) → ((k : ℕ) → get_or table k 0 ≡ 0) → Partners space s w table
partners_none space s w table z swap i k q e =
    subst (Partner space (side swap s w) (side (not swap) s w) i) (sym (z k)) (λ p. absurd (omega arith))

pub zeros : (m k : ℕ) → ◌≡◌ {A = ℕ} (get_or (replicate m 0) k 0) 0
zeros zero k = refl
zeros (suc m) zero = refl
zeros (suc m) (suc k) = zeros m k

pub partners_zeros : (space : Space) (s w : List ℕ) (m : ℕ) → Partners space s w (replicate m 0)
partners_zeros space s w m = partners_none space s w (replicate m 0) (zeros m)

-- what was kept may be gone back to
kept_back : {space : Space} {w v : List ℕ} {at label : ℕ} → Kept space w v at label → Kept space v w at label
kept_back k =
    record {
      long = sym k.long;
      below = λ j q. sym (k.below j q);
      between = λ j lo hi. sym (k.between j lo hi);
      above = λ j q. sym (k.above j q);
    }

pub chain_kept : (swap : Bool) (space : Space) (s w v : List ℕ) (at label : ℕ) {link : ℕ} {t : Fields} → space.half ≡ 16 * space.n + space.m → Kept space w v at label
    → Chain space (side swap s w) link t → Chain space (side swap s v) link t
chain_kept swap space s w v at label half k a =
    record { floor = a.floor; at = a.at; label = a.label; up = a.up; held = held_side swap space s w v at label half k a.held }

-- a table stays true while the second half is written
pub partners_kept : (space : Space) (s w v : List ℕ) (at label : ℕ) (table : List ℕ) → space.half ≡ 16 * space.n + space.m → Kept space w v at label
    → Partners space s w table → Partners space s v table
partners_kept space s w v at label table half k f swap i x q e p name nullable shape parts rest rf a b =
    let back = kept_back k in
    let m =
    f swap i x q e p name nullable shape parts rest rf (chain_kept swap space s v w at label half back a) (chain_kept (not swap) space s v w at label half back b) in
    record {
      nullable = m.nullable;
      shape = m.shape;
      parts = m.parts;
      rest = m.rest;
      chain = chain_kept (not swap) space s w v at label half k m.chain;
      ends = m.ends;
    }
