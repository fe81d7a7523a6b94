-- What a rule for types without parts says, as it was written. Assumes nothing.
use mathlib.Core.Path.{◌≡◌, refl, ap, ap₂, sym, subst, ◌∙◌}
use mathlib.Core.Bool.{Bool, true, false, cond, not, ◌||◌}
use mathlib.Core.List.{List}
use mathlib.Core.Logic.{inl, inr, ⊎_elim}
use Rattle.std.specs.Prelude.{Option, None, Some}
use Prim.Native.Nat.{ℕ, ◌+◌, ◌≤◌}
use native.Mathlib.Omega.{arith}
use lib.ListN.{length}
use Rattle.sheet.specs.Types.{Zone, absent, present, Shape, zone_bytes}
use Rattle.sheet.specs.Head.{head_at, zoned_in}
use Rattle.sheet.specs.declared.Head.{Head}
use Rattle.coercion.specs.Data.{DataType, size, of_unit, zoned}
use Rattle.coercion.specs.Times.{zone_coercion}
use Rattle.coercion.specs.declared.Rules.{Rules}
use Rattle.buffers.specs.Writes.{side}
use Rattle.buffers.specs.Target.{letters, Means, LaidZoned, CopiedType}
use Rattle.plain.specs.Plain.{plain_rules}
use Rattle.buffers.specs.Heads.{either_zone}
use Rattle.plain.specs.Steps.{Reads, step_of}
use Rattle.buffers.specs.Typed.{Typed, Merges}
use Rattle.buffers.specs.declared.Space.{Space}
use Rattle.buffers.specs.declared.Target.{Target}
use Rattle.plain.specs.declared.step.Step.{Step}
use Rattle.buffers.specs.Written.{Written}
use Rattle.std.specs.Prelude.{Ok, Err}
use Rattle.buffers.specs.declared.Failure.TheVariants.{NoType, Full}
use Rattle.buffers.proofs.Sources.{read_shape}
use Rattle.buffers.proofs.Frames.{kept_self}
use Rattle.buffers.proofs.Fielding.{typed_reads}

-- the zone that was chosen
module _ (s w : List ℕ) (swap : Bool) (n : ℕ) (x y : Head) where
  abbrev zone : List ℕ
  zone = either_zone (side swap s w) (side (not swap) s w) n x y

-- what was written is so for more records and labels too
pub means_more : (space : Space) (w v : List ℕ) (g : Target) (z y z' y' : ℕ) (o : Written) (m : Option DataType) → z ≤ z' → y ≤ y' → Means space w v g z y o m → Means space w v g z' y' o m
means_more space w v g z y z' y' (Ok d) None p q a = a
means_more space w v g z y z' y' (Ok d) (Some t) p q a = a
means_more space w v g z y z' y' (Err NoType) None p q a = a
means_more space w v g z y z' y' (Err NoType) (Some t) p q a = a
means_more space w v g z y z' y' (Err Full) m p q a = ⊎_elim (λ x. inl (omega arith)) (λ x. inr (omega arith)) a

zone_more : (a b : Zone) → length (zone_bytes (zone_coercion a b)) ≤ length (zone_bytes a) + length (zone_bytes b)
zone_more absent b = omega arith
zone_more (present z) b = omega arith

module _ (space : Space) (swap : Bool) (s w : List ℕ) (l r : ℕ) (g : Target) where
  module _ (unit : ℕ) (x y : Head) (ex : x ≡ head_at (side swap s w) l) (ey : y ≡ head_at (side (not swap) s w) r) where
    common : (t u : DataType) → Typed space (side swap s w) l t → Typed space (side (not swap) s w) r u
        → zone_coercion t.shape.zone u.shape.zone ≡ cond (zoned_in x || zoned_in y) (present (zone s w swap space.n x y)) absent
    common t u p q =
        sym (ap₂ zone_coercion (ap (λ (k : Shape). k.zone) (read_shape p.chain.held.source x ex)) (ap (λ (k : Shape). k.zone) (read_shape q.chain.held.source y ey)))
        ∙ go (zoned_in x) (zoned_in y) _ _
      where
        go : (i j : Bool) (f h : List ℕ) → zone_coercion (cond i (present f) absent) (cond j (present h) absent) ≡ cond (i || j) (present (cond i f h)) absent
        go true j f h = refl
        go false true f h = refl
        go false false f h = refl

    pub stamp_zoned : (zoned_in x || zoned_in y) ≡ true → (v : List ℕ) (o : Written) → LaidZoned space w v g 22 unit (zone s w swap space.n x y) o
        → (left : ℕ) → Merges (step_of (Some (Step.Stamp unit))) space left swap s w v l r g o
    stamp_zoned z v o k left =
        record {
          writes = k.writes;
          means =
              λ i j p q h.
              let u = zone s w swap space.n x y in
              let c : zone_coercion i.shape.zone j.shape.zone ≡ present u = common i j p q ∙ ap (λ (d : Bool). cond d (present u) absent) z in
              subst (λ (d : Zone). Means space w v g (size i + size j) (letters i + letters j) o (Some (zoned (of_unit 22 unit) d))) (sym c)
              (means_more space w v g 1 (length u) (size i + size j) (letters i + letters j) o _ (omega arith)
              (omega (arith, zone_more i.shape.zone j.shape.zone, ap (λ (d : Zone). length (zone_bytes d)) c)) k.means);
        }

  -- each step, and what was written for it
  pub step_left : (v : List ℕ) (o : Written) → CopiedType space (side swap s w) w v l g o → (left : ℕ) → Merges (step_of (Some Step.Left)) space left swap s w v l r g o
  step_left v o k left =
      record {
        writes = k.writes;
        means =
            λ i j p q h.
            let c = p.chain in
            means_more space w v g (size i) (letters i) (size i + size j) (letters i + letters j) o (Some i) (omega arith) (omega arith)
            (k.means c.floor c.at c.label c.up p.name p.nullable i.shape i.parts p.rest c.held);
      }

  pub step_right : (v : List ℕ) (o : Written) → CopiedType space (side (not swap) s w) w v r g o → (left : ℕ) → Merges (step_of (Some Step.Right)) space left swap s w v l r g o
  step_right v o k left =
      record {
        writes = k.writes;
        means =
            λ i j p q h.
            let c = q.chain in
            means_more space w v g (size j) (letters j) (size i + size j) (letters i + letters j) o (Some j) (omega arith) (omega arith)
            (k.means c.floor c.at c.label c.up q.name q.nullable j.shape j.parts q.rest c.held);
      }

  pub step_nothing : (left : ℕ) → Merges (step_of None) space left swap s w w l r g (Err NoType)
  step_nothing left = record { writes = record { kept = kept_self w g.at (g.label + g.name_len); passes = tt }; means = λ i j p q h. tt }

-- what a step says is what the rules for types without parts say of the two
pub plain_merged : (rules : Rules) {A : DataType → DataType → Option DataType} (space : Space) (swap : Bool) (s w v : List ℕ) (l r : ℕ) (g : Target) (o : Written) {x y : Head}
    → x ≡ head_at (side swap s w) l → y ≡ head_at (side (not swap) s w) r → ((X Y : DataType) → Reads x X → Reads y Y → A X Y ≡ plain_rules rules X Y)
    → ((left : ℕ) → Merges A space left swap s w v l r g o) → (left : ℕ) → Merges (plain_rules rules) space left swap s w v l r g o
plain_merged rules space swap s w v l r g o ex ey f m left =
    record {
      writes = (m left).writes;
      means =
          λ X Y a b q.
          subst (λ (k : Option DataType). Means space w v g (size X + size Y) (letters X + letters Y) o k) (f X Y (typed_reads a ex) (typed_reads b ey)) ((m left).means X Y a b q);
    }
