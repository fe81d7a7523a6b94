-- A candidate that is a value: written, joined and folded. Assumes nothing.
use mathlib.Core.Path.{◌≡◌, refl, ap, sym, subst, ◌∙◌}
use mathlib.Core.Bool.{Bool, true, false, ◌||◌}
use mathlib.Core.List.{List, []}
use Rattle.std.specs.Prelude.{Option, None, Some}
use Prim.Native.Nat.{ℕ, ◌+◌, ◌<◌, ◌≤◌}
use native.Mathlib.Decide.{ℕ_discrete}
use native.Mathlib.Omega.{arith}
use lib.ListN.{length}
use lib.Dec.{eqb}
use borrow.Author.Tests.{ne_eqb, eqb-false}
use Rattle.sheet.specs.Types.{Fields, end, field, count, labels}
use Rattle.sheet.specs.Head.{head_at}
use Rattle.sheet.specs.declared.Head.{Head}
use Rattle.sheet.proofs.Spans.{span_nil}
use Rattle.sheet.proofs.Booleans.{and_fst, and_snd, or_fst, never}
use Rattle.coercion.specs.Data.{DataType, size, single, types_of, and_then, may_become}
use Rattle.coercion.specs.Answers.{coercion, fold_from}
use Rattle.coercion.proofs.AnswersRight.{TypeRight}
use Rattle.coercion.specs.declared.Rules.{Rules}
use Rattle.buffers.specs.Region.{Room, Wrote}
use Rattle.buffers.specs.Target.{letters, type_of, Laid}
use Rattle.buffers.specs.Typed.{Typed}
use Rattle.buffers.specs.declared.Space.{Space}
use Rattle.buffers.specs.Written.{Written}
use Rattle.std.specs.Prelude.{Err}
use Rattle.buffers.specs.declared.Failure.TheVariants.{NoType}
use Rattle.merge.proofs.Merging.{typed_kind}
use Rattle.plain.specs.declared.value.PlainType.{PlainType}
use Rattle.plain.specs.Value.{is_plain, plain_type_of, type_of_plain, Valued, JointIs, Joins}
use Rattle.plain.specs.Taken.{is_bare, is_taken}
use Rattle.plain.proofs.Valuing.{valued_right}
use Rattle.resolution.proofs.Valued.{plain_valued}
use Rattle.plain.proofs.Taking.{bare_is, Absorbs}
use Rattle.resolution.specs.Reached.{front, ListedTypes, Fits, AnswerIs, Steps, Folds, Fronted, JointLaid}
use Rattle.resolution.proofs.Listing.{listed_typed, listed_next}
use Rattle.resolution.proofs.Folding.{foremost, within_self, within_kept, some_listed, fits_few, fits_short, next_fits, folds_null}

-- a value that was written as a candidate
pub fronted : (space : Space) (w v : List ℕ) (x : PlainType) → Room w space → 1 < space.n → Laid space w v foremost (type_of_plain x).shape 0 → Fronted space w v x (record { at = 2; label = 0 })
unfolding count labels
fronted space w v x room few l =
    record {
      within = within_kept room l.kept;
      inside = record { some = omega arith; records = omega arith; letters = omega arith };
      candidate =
          λ t k.
          record {
            wrote = subst (λ (u : DataType). Wrote space v front (record { at = 2; label = 0 }) (single u)) (sym k.is) wrote;
            right = k.right;
            differ = (valued_right k).1;
          };
    }
  where
    wrote : Wrote space v front (record { at = 2; label = 0 }) (single (type_of_plain x))
    wrote = record { records = refl; letters = refl; holds = (l.stands [] (record { long = refl; span = span_nil }), (tt, tt)) }

-- two plain types that were joined, and their common type written
pub steps_joined : {A : DataType → DataType → Option DataType} (space : Space) {s w v : List ℕ} {link other : ℕ} (x y : Head) {lx ly : PlainType} (o : Written) {joint : Option PlainType} → x ≡ head_at s link → y ≡ head_at s other
    → lx ≡ plain_type_of x → ly ≡ plain_type_of y
    → is_plain x ≡ true → is_plain y ≡ true → Joins A lx ly joint → JointLaid space w v joint o → Steps A space (Typed space s other) s w v link o
steps_joined {A} space x y o ex ey el er px py j l =
    record {
      within = l.within;
      inside = l.inside;
      means = λ t u a b few short. l.means (A t u) (j.means t u (plain_valued x px el ex a) (plain_valued y py er ey b));
    }

module _ (rules : Rules) {space : Space} {s : List ℕ} {floor link : ℕ} where
  -- a candidate stands as a value, or as what was written for it
  pub folds_as : {Is Was : DataType → Type 0} {w v : List ℕ} {o : Written} → ((c : DataType) → Is c → Was c) → Folds (fold_from rules) space Was s w v floor link o
      → Folds (fold_from rules) space Is s w v floor link o
  folds_as f m = record { within = m.within; means = λ c types k a b. m.means c types (f c k) a b }

  -- the next type is plain too
  module _ (past : floor < link) (h : Head) (e : h ≡ head_at s link) (n : h.kind ≡ 1 → ⊥) (p : is_plain h ≡ true) {new y : PlainType} (ex : new ≡ plain_type_of h) where
    next : (v : List ℕ) (o : Written) (joint : Option PlainType) → Joins (coercion rules) new y joint
        → ((c x : DataType) (rest : Fields) → TypeRight c → Typed space s link x → ListedTypes space s link h.next rest → size c + (size x + count rest) < space.n
        → letters c + (letters x + length (labels rest)) ≤ space.m → (r : Option DataType) → coercion rules x c ≡ r → JointIs Valued joint r
        → AnswerIs space v o (and_then r (λ t. fold_from rules t (types_of rest))))
        → (c : DataType) (types : Fields) → Valued y c → ListedTypes space s floor link types → Fits space (size c) (letters c) types → AnswerIs space v o (fold_from rules c (types_of types))
    unfolding fold_from types_of
    next v o joint j more c end k a f = absurd (some_listed past a)
    next v o joint j more c (field name nullable shape parts rest) k a f =
        rw (ne_eqb shape.kind 1 (λ q. n (typed_kind h e (listed_typed a) ∙ q)))
        (more c (type_of shape parts) rest (valued_right k) (listed_typed a) (listed_next a h e) (fits_few name nullable shape parts rest f) (fits_short name nullable shape parts rest f)
        (coercion rules (type_of shape parts) c) refl (j.means (type_of shape parts) c (plain_valued h p ex e (listed_typed a)) k))

    pub folds_joined : {w v : List ℕ} {c' : PlainType} (o : Written) → Joins (coercion rules) new y (Some c') → Folds (fold_from rules) space (Valued c') s w v link h.next o
        → Folds (fold_from rules) space (Valued y) s w v floor link o
    folds_joined {v = v} {c'} o j g = record { within = g.within; means = next v o (Some c') j more }
      where
        more : (c x : DataType) (rest : Fields) → TypeRight c → Typed space s link x → ListedTypes space s link h.next rest → size c + (size x + count rest) < space.n
            → letters c + (letters x + length (labels rest)) ≤ space.m → (r : Option DataType) → coercion rules x c ≡ r → JointIs Valued (Some c') r
            → AnswerIs space v o (and_then r (λ t. fold_from rules t (types_of rest)))
        more c x rest k a b few short None i z = absurd z
        more c x rest k a b few short (Some t) i z = g.means t rest z b (next_fits rules t a k i rest few short)

    pub folds_apart : {w : List ℕ} → Joins (coercion rules) new y None → Folds (fold_from rules) space (Valued y) s w w floor link (Err NoType)
    folds_apart {w} j = record { within = within_self w; means = next w (Err NoType) None j more }
      where
        more : (c x : DataType) (rest : Fields) → TypeRight c → Typed space s link x → ListedTypes space s link h.next rest → size c + (size x + count rest) < space.n
            → letters c + (letters x + length (labels rest)) ≤ space.m → (r : Option DataType) → coercion rules x c ≡ r → JointIs Valued None r
            → AnswerIs space w (Err NoType) (and_then r (λ t. fold_from rules t (types_of rest)))
        more c x rest k a b few short None i z = tt
        more c x rest k a b few short (Some t) i z = absurd z

or_right : (a : Bool) {b : Bool} → a ≡ false → (a || b) ≡ true → b ≡ true
or_right true e h = never (sym e)
or_right false e h = h

-- a type that is known to leave the candidate as it is
pub folds_taken : (rules : Rules) {space : Space} {s : List ℕ} {floor link : ℕ} → floor < link → (h : Head) → h ≡ head_at s link → is_plain h ≡ true → {x y : PlainType} → x ≡ plain_type_of h → (kinds : ℕ)
    → is_taken kinds x ≡ true → x.kind < 32 → Absorbs rules kinds y → {w v : List ℕ} (o : Written) → Folds (fold_from rules) space (Valued y) s w v link h.next o
    → Folds (fold_from rules) space (Valued y) s w v floor link o
folds_taken rules {space} {s} {floor} {link} past h e p {x} {y} ex kinds t low a {w} {v} o g = go (ℕ_discrete h.kind 1)
  where
    kind : x.kind ≡ h.kind
    kind = ap (λ (k : PlainType). k.kind) ex

    go : Dec (h.kind ≡ 1) → Folds (fold_from rules) space (Valued y) s w v floor link o
    go (yes q) = folds_null rules space (Valued y) past h e o q g
    go (no q) =
        let u = or_right (eqb x.kind 1) (ne_eqb x.kind 1 (λ z. q (sym kind ∙ z))) t in
        let b = and_fst (is_bare x) (may_become kinds x.kind) u in
        let m = and_snd (is_bare x) (may_become kinds x.kind) u in
        folds_joined rules past h e q p ex o (subst (λ (z : PlainType). Joins (coercion rules) z y (Some y)) (sym (bare_is x b)) (a x.kind low m)) g

-- one that is not known is no Null
pub not_null : (kinds : ℕ) (h : Head) {x : PlainType} → x ≡ plain_type_of h → is_taken kinds x ≡ false → h.kind ≡ 1 → ⊥
not_null kinds h {x} ex t q = eqb-false x.kind 1 (or_fst (eqb x.kind 1) _ t) (ap (λ (k : PlainType). k.kind) ex ∙ q)
