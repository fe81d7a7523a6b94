-- A candidate that is folded with listed types. Assumes nothing.
use mathlib.Core.Path.{◌≡◌, refl, ap, sym, subst, ◌∙◌}
use mathlib.Core.Bool.{Bool, true, false, cond}
use mathlib.Core.List.{List, [], ◌∷◌}
use mathlib.Core.Logic.{⊎_elim}
use Rattle.std.specs.Prelude.{Option, None, Some}
use Rattle.std.proofs.lemmas.Option.{same_Some}
use Rattle.std.specs.Borrow.{Bor}
use Prim.Native.Nat.{ℕ, ◌+◌, ◌*◌, ◌<◌, ◌≤◌}
use native.Mathlib.Omega.{arith}
use borrow.Author.Tests.{eq-eqb, ne_eqb, le-ltb}
use lib.ListN.{length, length-append}
use Rattle.sheet.specs.Types.{Shape, Fields, end, field, count, zone_bytes, labels}
use Rattle.sheet.specs.Kind.{names_parts}
use Rattle.sheet.specs.Booleans.{between}
use Rattle.sheet.specs.Head.{head_at}
use Rattle.sheet.specs.Read.{start}
use Rattle.sheet.specs.declared.Head.{Head}
use Rattle.sheet.proofs.Spans.{span_nil}
use Rattle.sheet.proofs.Booleans.{never}
use Rattle.coercion.specs.Data.{DataType, size, single, types_of, and_then, for_list, is_list_question}
use Rattle.coercion.specs.Rules.{is_null}
use Rattle.coercion.specs.Same.{equal}
use Rattle.coercion.specs.Answers.{coercion, fold_from, fold_types, type_union_resolution, pair_answer, answer_of, all_equal, has_category, categories_in, categories_fit, notSupported}
use Rattle.coercion.proofs.AnswersRight.{TypeRight, coercion_right}
use Rattle.coercion.proofs.Sameness.{equal_same, equal_self}
use Rattle.coercion.proofs.Shorter.{coercion_smaller, coercion_shorter}
use Rattle.coercion.specs.declared.Question.{Question}
use Rattle.coercion.specs.declared.Rules.{Rules}
use Rattle.buffers.specs.Region.{Room, Kept, Inside, Passes, Wrote}
use Rattle.buffers.specs.Target.{letters, type_of, Means}
use Rattle.buffers.specs.Differ.{DifferTypes}
use Rattle.buffers.specs.Typed.{Chain, Typed, ChainIs, CopiedField}
use Rattle.buffers.specs.declared.Space.{Space}
use Rattle.buffers.specs.declared.Place.{Place}
use Rattle.buffers.specs.declared.Target.{Target}
use Rattle.buffers.specs.Written.{Written}
use Rattle.std.specs.Prelude.{Ok, Err}
use Rattle.buffers.specs.declared.Failure.{Failure}
use Rattle.buffers.specs.declared.Failure.TheVariants.{NoType, Full}
use Rattle.buffers.proofs.Sources.{source_none, link_inside}
use Rattle.buffers.proofs.Chained.{labels_sum}
use Rattle.merge.specs.Merge.{MergesKnown, MergesHinted}
use Rattle.merge.specs.declared.Merger.{Merger}
use Rattle.merge.proofs.Merging.{none_hint, typed_kind, typed_differs, nothing_known, type_differ, single_letters}
use Rattle.resolution.specs.Reached.{front, ListedTypes, Fits, AnswerIs, Enclosed, Within, Reached, Candidate, Shifted, Mirrored, Entry, Compared, Steps, Folds, fold_behind}
use Rattle.resolution.proofs.Valued.{typed_right}
use Rattle.resolution.proofs.Keeping.{by_test, plain_field, equal_kept}
use Rattle.resolution.proofs.Shifting.{candidate_typed, mirrored_typed}
use Rattle.resolution.proofs.Listing.{Tells, Onward, listed_typed, listed_next}

-- the goal at the front
abbrev pub foremost : Target
foremost = record { at = 1; label = 0; name_len = 0; nullable = false }

-- where there is room, an answer at the front says which type there is
answered : (space : Space) (w v : List ℕ) (z y : ℕ) (o : Written) (m : Option DataType) → z < space.n → y ≤ space.m → Means space w v foremost z y o m → AnswerIs space v o m
answered space w v z y (Ok d) None p q a = a
answered space w v z y (Ok d) (Some t) p q a = a [] (record { long = refl; span = span_nil })
answered space w v z y (Err NoType) None p q a = tt
answered space w v z y (Err NoType) (Some t) p q a = a
answered space w v z y (Err Full) m p q a = ⊎_elim (λ h. omega arith) (λ h. omega arith) a

pub enclosed : (space : Space) (g : Target) (o : Written) → Passes space g o → Enclosed space o
enclosed space g (Ok d) a = a.0
enclosed space g (Err NoType) a = tt
enclosed space g (Err Full) a = tt

-- the candidate was moved, then something was written in the second half
pub shifted_within : {space : Space} {w v u : List ℕ} {at label : ℕ} {d : Place} → Room w space → Shifted space w v d → Kept space v u at label → Within space w u
shifted_within room a k =
    record {
      long = k.long ∙ a.long;
      above = λ j h. k.above j (omega (arith, room.half)) ∙ a.above j (omega arith);
    }

-- two types that were compared, and two of which nothing is known
pub compared : {space : Space} {s : List ℕ} {link other d : ℕ} → DifferTypes s space.n link s space.n other true d → Compared (Some d) true space (Typed space s other) s link
compared f = record { is = λ x c a b i h. sym (typed_differs true f a b) ∙ same_Some _ i h }

pub not_compared : {named : Bool} {space : Space} {Is : DataType → Type 0} {s : List ℕ} {link : ℕ} → Compared None named space Is s link
not_compared {named} = record { is = λ x c a k. nothing_known named _ x c }

-- a merge, by what it is asked with
pub merged : {m : Merger} {space : Space} {rules : Rules} {left : ℕ} {known : Option ℕ} {l r : ℕ} {swap : Bool} {sheet : Bor (List ℕ)} {w v : List ℕ} {g : Target} {o : Written}
    → m ≡ record { sides = record { sheet = sheet; space = space; swap = swap }; rules = rules }
    → MergesHinted 0 m.rules.mask known (is_list_question m.rules.question) (coercion m.rules) m.sides.space left m.sides.swap m.sides.sheet.now w v l r g o
    → MergesKnown known (is_list_question rules.question) (coercion rules) space left swap sheet.now w v l r g o
merged {left = left} {known} {l} {r} {swap} {w = w} {v} {g} {o} e told =
    none_hint swap (subst (λ (m : Merger). MergesHinted 0 m.rules.mask known (is_list_question m.rules.question) (coercion m.rules) m.sides.space left m.sides.swap m.sides.sheet.now w v l r g o) e told)

-- the candidate was moved, then merged
pub stepped : (rules : Rules) (space : Space) {sheet : Bor (List ℕ)} {w v u : List ℕ} {link : ℕ} {known : Option ℕ} {d : Place} (o : Written) → Room w space → Inside space d
    → Compared known true space (Candidate space w d) sheet.now link → Shifted space w v d → {k : Merger} → k ≡ record { sides = record { sheet = sheet; space = space; swap = false }; rules = for_list rules }
    → MergesHinted 0 k.rules.mask known (is_list_question k.rules.question) (coercion k.rules) k.sides.space (2 * space.n) k.sides.swap k.sides.sheet.now v u link 1 foremost o
    → Steps (coercion (for_list rules)) space (Candidate space w d) sheet.now w u link o
stepped rules space {w = w} {v} {u} {d = d} o room inside i a e told =
    let m = merged e told in
    let A = coercion (for_list rules) in
    record {
      within = shifted_within room a m.writes.kept;
      inside = enclosed space foremost o m.writes.passes;
      means =
          λ x c t k h l.
          answered space v u (size x + size c) (letters x + letters c) o (A x c) h l
          (m.means x c t (candidate_typed space w v d c room inside a k) (omega arith) (i.is x c t k));
    }

-- the sheet was laid in the first half, then two of its types were merged
pub met : (space : Space) {sheet : Bor (List ℕ)} {w v u : List ℕ} {rules : Rules} {link other : ℕ} {known : Option ℕ} (o : Written) → Room w space
    → Compared known (is_list_question rules.question) space (Typed space sheet.now other) sheet.now link → Mirrored space sheet.now w v
    → {k : Merger} → k ≡ record { sides = record { sheet = sheet; space = space; swap = false }; rules = rules }
    → MergesHinted 0 k.rules.mask known (is_list_question k.rules.question) (coercion k.rules) k.sides.space (2 * space.n) k.sides.swap k.sides.sheet.now v u link other foremost o
    → Steps (coercion rules) space (Typed space sheet.now other) sheet.now w u link o
met space {sheet} {w} {v} {u} {rules} o room i a e told =
    let m = merged e told in
    let A = coercion rules in
    let s = sheet.now in
    record {
      within =
          record {
            long = m.writes.kept.long ∙ a.long;
            above = λ j h. m.writes.kept.above j (omega (arith, room.half)) ∙ a.above j (omega arith);
          };
      inside = enclosed space foremost o m.writes.passes;
      means =
          λ x c t k h l.
          answered space v u (size x + size c) (letters x + letters c) o (A x c) h l (m.means x c t (mirrored_typed space s w v room a k) (omega arith) (i.is x c t k));
    }

pub within_self : {space : Space} (w : List ℕ) → Within space w w
within_self w = record { long = refl; above = λ j h. refl }

-- the common type is the candidate itself
pub steps_kept : {A : DataType → DataType → Option DataType} {space : Space} {s w : List ℕ} {link : ℕ} {d : Place} → Inside space d
    → ((x c : DataType) → Typed space s link x → Candidate space w d c → A x c ≡ Some c) → Steps A space (Candidate space w d) s w w link (Ok d)
steps_kept {space = space} {w = w} {d = d} inside f =
    record { within = within_self w; inside = inside; means = λ x c t k h l. subst (AnswerIs space w (Ok d)) (sym (f x c t k)) k.wrote }

pub within_trans : {space : Space} {w v u : List ℕ} → Within space w v → Within space v u → Within space w u
within_trans a b = record { long = b.long ∙ a.long; above = λ j h. b.above j h ∙ a.above j h }

pub within_kept : {space : Space} {w v : List ℕ} {at label : ℕ} → Room w space → Kept space w v at label → Within space w v
within_kept room k = record { long = k.long; above = λ j h. k.above j (omega (arith, room.half)) }

pub room_within : {space : Space} {w v : List ℕ} → Within space w v → Room w space → Room v space
room_within k r = record { half = r.half; few = r.few; short = r.short; inside = omega (arith, r.inside, k.long) }

-- no type is listed at a link past the records
unlisted : {space : Space} {s : List ℕ} {floor link : ℕ} (types : Fields) → floor < link → space.n ≤ link → ListedTypes space s floor link types → ⊥
unlisted end h g a = omega (arith, a.held.source.leads.is)
unlisted (field name nullable shape parts rest) h g a = omega (arith, link_inside a.held.source)

-- a link past floor leads to a type
pub some_listed : {space : Space} {s : List ℕ} {floor link : ℕ} → floor < link → ListedTypes space s floor link end → ⊥
some_listed h a = omega (arith, a.held.source.leads.is)

-- the first of some listed types, and those behind it
module _ {space : Space} {s : List ℕ} {floor link : ℕ} {name : List ℕ} {nullable : Bool} {shape : Shape} {parts rest : Fields}
    (a : ListedTypes space s floor link (field name nullable shape parts rest)) where
  listed_chain : Chain space s link (field name nullable shape parts rest)
  listed_chain = record { floor = floor; at = a.at; label = a.label; up = 0; held = a.held }

  listed_plain : field name nullable shape parts end ≡ single (type_of shape parts)
  unfolding names_parts between
  listed_plain = plain_field name nullable shape parts refl a.held.source.right.0

module _ {space : Space} {records bytes : ℕ} (name : List ℕ) (nullable : Bool) (shape : Shape) (parts rest : Fields)
    (f : Fits space records bytes (field name nullable shape parts rest)) where
  pub fits_few : records + (size (type_of shape parts) + count rest) < space.n
  unfolding count
  fits_few = omega (arith, f.few)

  pub fits_short : bytes + (letters (type_of shape parts) + length (labels rest)) ≤ space.m
  fits_short = omega (arith, f.short, labels_sum name nullable shape parts rest, length-append name (zone_bytes shape.zone))

  fits_rest : Fits space records bytes rest
  fits_rest = record { few = omega (arith, fits_few); short = omega (arith, fits_short) }

  fits_behind : Fits space (records + size (type_of shape parts)) (bytes + letters (type_of shape parts)) rest
  fits_behind = record { few = omega (arith, fits_few); short = omega (arith, fits_short) }

-- the common type of a listed type and a candidate is the next candidate
module _ (rules : Rules) {space : Space} {s : List ℕ} {link : ℕ} {x c : DataType} (t : DataType) (a : Typed space s link x) (k : TypeRight c)
    (q : coercion rules x c ≡ Some t) where
  next_candidate : {v : List ℕ} {e : Place} → Wrote space v front e (single t) → Candidate space v e t
  next_candidate b = let r = coercion_right rules x c t (typed_right x a) k q in record { wrote = b; right = r.0; differ = r.1 }

  pub next_fits : (rest : Fields) → size c + (size x + count rest) < space.n → letters c + (letters x + length (labels rest)) ≤ space.m → Fits space (size t) (letters t) rest
  next_fits rest h g =
      record {
        few = omega (arith, coercion_smaller rules x c t (type_differ x a) k.1 q);
        short = omega (arith, coercion_shorter rules x c t (type_differ x a) k.1 q, single_letters t, single_letters x, single_letters c);
      }

-- what the fold of the types that are left says is what the fold of all of them says
abbrev pub FoldsOn : (DataType → List DataType → Option DataType) → Space → List ℕ → (DataType → Type 0) → List ℕ → ℕ → ℕ → (DataType → Type 0) → List ℕ → ℕ → ℕ → Type 0
FoldsOn fold space s Was w₀ floor link Is w last at =
    (v : List ℕ) (o : Written) → Folds fold space Is s w v last at o → Folds fold space Was s w₀ v floor link o

-- a candidate is a type that a list may have
pub candidate_right : {space : Space} {w : List ℕ} {d : Place} (c : DataType) → Candidate space w d c → TypeRight c
candidate_right c k = (k.right, k.differ)

pub entry_typed : {space : Space} {s : List ℕ} {first : ℕ} (c : DataType) → Entry space s first c → Typed space s first c
entry_typed c k = listed_typed k.listed

pub entry_right : {space : Space} {s : List ℕ} {first : ℕ} (c : DataType) → Entry space s first c → TypeRight c
entry_right c k = typed_right c (entry_typed c k)

pub steps_as : {A : DataType → DataType → Option DataType} {space : Space} {Is Was : DataType → Type 0} {s w v : List ℕ} {link : ℕ} {o : Written} → ((c : DataType) → Is c → Was c)
    → Steps A space Was s w v link o → Steps A space Is s w v link o
steps_as f m = record { within = m.within; inside = m.inside; means = λ x c t k h l. m.means x c t (f c k) h l }

stops : (rules : Rules) (space : Space) (v : List ℕ) (ts : List DataType) (e : Failure) (m : Option DataType) → AnswerIs space v (Err e) m
    → AnswerIs space v (Err e) (and_then m (λ t. fold_from rules t ts))
stops rules space v ts NoType None a = tt
stops rules space v ts NoType (Some t) a = absurd a
stops rules space v ts Full m a = absurd a

-- no type is left
module _ (rules : Rules) (space : Space) {s w : List ℕ} {floor link : ℕ} {d : Place} where
  pub folds_end : link ≤ floor → Folds (fold_from rules) space (Candidate space w d) s w w floor link (Ok d)
  unfolding fold_from types_of
  folds_end h = record { within = within_self w; means = λ c types k a f. go c types k a }
    where
      go : (c : DataType) (types : Fields) → Candidate space w d c → ListedTypes space s floor link types → AnswerIs space w (Ok d) (fold_from rules c (types_of types))
      go c types k a = subst (λ (t : Fields). AnswerIs space w (Ok d) (fold_from rules c (types_of t))) (sym (source_none h a.held.source)) k.wrote

module _ (rules : Rules) (space : Space) (Is : DataType → Type 0) {s w : List ℕ} {floor link : ℕ} where
  -- a link that leads nowhere
  pub folds_lost : floor < link → space.n ≤ link → Folds (fold_from rules) space Is s w w floor link (Err NoType)
  folds_lost h g = record { within = within_self w; means = λ c types k a f. absurd (unlisted types h g a) }

  module _ (past : floor < link) (h : Head) (e : h ≡ head_at s link) where
    -- a type that leaves the candidate as it is
    folds_past : {fold : DataType → List DataType → Option DataType} {v : List ℕ} (o : Written)
        → ((x c : DataType) → Typed space s link x → Is c → (ts : List DataType) → fold c (x ∷ ts) ≡ fold c ts) → Folds fold space Is s w v link h.next o
        → Folds fold space Is s w v floor link o
    unfolding types_of
    folds_past {fold} {v} o same m = record { within = m.within; means = go }
      where
        go : (c : DataType) (types : Fields) → Is c → ListedTypes space s floor link types → Fits space (size c) (letters c) types → AnswerIs space v o (fold c (types_of types))
        go c end k a f = absurd (some_listed past a)
        go c (field name nullable shape parts rest) k a f =
            subst (AnswerIs space v o) (sym (same (type_of shape parts) c (listed_typed a) k (types_of rest))) (m.means c rest k (listed_next a h e) (fits_rest name nullable shape parts rest f))

    -- a Null is skipped
    pub folds_null : {v : List ℕ} (o : Written) → h.kind ≡ 1 → Folds (fold_from rules) space Is s w v link h.next o → Folds (fold_from rules) space Is s w v floor link o
    unfolding fold_from
    folds_null o n m = folds_past o (λ x c a k ts. rw (eq-eqb x.shape.kind 1 (sym (typed_kind h e a) ∙ n)) refl) m

    -- the common type is the candidate itself
    pub folds_kept : {v : List ℕ} (o : Written) → (h.kind ≡ 1 → ⊥) → ((x c : DataType) → Typed space s link x → Is c → coercion rules x c ≡ Some c)
        → Folds (fold_from rules) space Is s w v link h.next o → Folds (fold_from rules) space Is s w v floor link o
    unfolding fold_from
    folds_kept o n same m = folds_past o (λ x c a k ts. rw (ne_eqb x.shape.kind 1 (λ q. n (typed_kind h e a ∙ q)), same x c a k) refl) m

    module _ {v : List ℕ} (n : h.kind ≡ 1 → ⊥) where
      -- what a step says of the first type
      first : {o : Written} → Steps (coercion rules) space Is s w v link o → (c : DataType) (name : List ℕ) (nullable : Bool) (shape : Shape) (parts rest : Fields) → Is c
          → ListedTypes space s floor link (field name nullable shape parts rest) → Fits space (size c) (letters c) (field name nullable shape parts rest) → AnswerIs space v o (coercion rules (type_of shape parts) c)
      first m c name nullable shape parts rest k a f =
          m.means (type_of shape parts) c (listed_typed a) k (omega (arith, fits_few name nullable shape parts rest f)) (omega (arith, fits_short name nullable shape parts rest f))

      -- the candidate gives way to the next
      pub folds_on : {u : List ℕ} {d' : Place} → ((c : DataType) → Is c → TypeRight c) → (o : Written) → Steps (coercion rules) space Is s w v link (Ok d')
          → Folds (fold_from rules) space (Candidate space v d') s v u link h.next o → Folds (fold_from rules) space Is s w u floor link o
      unfolding fold_from types_of
      folds_on {u} {d'} right o m g = record { within = within_trans m.within g.within; means = go }
        where
          more : (c x : DataType) (rest : Fields) → TypeRight c → Typed space s link x → ListedTypes space s link h.next rest → size c + (size x + count rest) < space.n
              → letters c + (letters x + length (labels rest)) ≤ space.m → (r : Option DataType) → coercion rules x c ≡ r → AnswerIs space v (Ok d') r
              → AnswerIs space u o (and_then r (λ t. fold_from rules t (types_of rest)))
          more c x rest k a b p q None i z = absurd z
          more c x rest k a b p q (Some t) i z = g.means t rest (next_candidate rules t a k i z) b (next_fits rules t a k i rest p q)

          go : (c : DataType) (types : Fields) → Is c → ListedTypes space s floor link types → Fits space (size c) (letters c) types → AnswerIs space u o (fold_from rules c (types_of types))
          go c end k a f = absurd (some_listed past a)
          go c (field name nullable shape parts rest) k a f =
              rw (ne_eqb shape.kind 1 (λ q. n (typed_kind h e (listed_typed a) ∙ q)))
              (more c (type_of shape parts) rest (right c k) (listed_typed a) (listed_next a h e) (fits_few name nullable shape parts rest f) (fits_short name nullable shape parts rest f)
              (coercion rules (type_of shape parts) c) refl (first m c name nullable shape parts rest k a f))

      -- there is none
      pub folds_failed : (z : Failure) → Steps (coercion rules) space Is s w v link (Err z) → Folds (fold_from rules) space Is s w v floor link (Err z)
      unfolding fold_from types_of
      folds_failed z m = record { within = m.within; means = go }
        where
          go : (c : DataType) (types : Fields) → Is c → ListedTypes space s floor link types → Fits space (size c) (letters c) types → AnswerIs space v (Err z) (fold_from rules c (types_of types))
          go c end k a f = absurd (some_listed past a)
          go c (field name nullable shape parts rest) k a f =
              rw (ne_eqb shape.kind 1 (λ q. n (typed_kind h e (listed_typed a) ∙ q)))
              (stops rules space v (types_of rest) z (coercion rules (type_of shape parts) c) (first m c name nullable shape parts rest k a f))

abbrev name_length : Fields → ℕ
name_length end = 0
name_length (field name nullable shape parts rest) = length name

-- a listed type that was copied to the front
module _ {space : Space} {s w v : List ℕ} {floor link : ℕ} where
  copied : (o : Written) (name : List ℕ) (nullable : Bool) (shape : Shape) (parts rest : Fields) → CopiedField space s w v link front o
      → ListedTypes space s floor link (field name nullable shape parts rest) → size (type_of shape parts) < space.n → letters (type_of shape parts) ≤ space.m
      → AnswerIs space v o (Some (type_of shape parts))
  copied o name nullable shape parts rest m a few short = go o (m.means name nullable shape parts rest (listed_chain a))
    where
      go : (o : Written) → ChainIs space v front (1 + count parts) (length name + letters (type_of shape parts)) o (Some (field name nullable shape parts end)) → AnswerIs space v o (Some (type_of shape parts))
      go (Ok d) c = subst (Wrote space v front d) (listed_plain a) c
      go (Err NoType) c = c
      go (Err Full) c = ⊎_elim (λ h. omega arith) (λ h. omega (arith, ap name_length (listed_plain a))) c

-- no answer, whatever is listed
nothing_reached : {A : List DataType → Option DataType} (space : Space) {s w : List ℕ} {floor link : ℕ}
    → ((types : Fields) → ListedTypes space s floor link types → Fits space 0 0 types → None ≡ A (types_of types)) → Reached A space s w w floor link (Err NoType)
nothing_reached {A} space {w = w} f = record { within = within_self w; means = λ types a b. subst (AnswerIs space w (Err NoType)) (f types a b) tt }

pub reached_as : {A : List DataType → Option DataType} {space : Space} {s w w₀ v : List ℕ} {floor link : ℕ} {o : Written} → w ≡ w₀ → Reached A space s w v floor link o
    → Reached A space s w₀ v floor link o
reached_as {A} {space} {s} {v = v} {floor} {link} {o} e = subst (λ (w : List ℕ). Reached A space s w v floor link o) e

pub reached_empty : {A : List DataType → Option DataType} (space : Space) {s w : List ℕ} {floor link : ℕ} → None ≡ A [] → link ≤ floor → Reached A space s w w floor link (Err NoType)
unfolding types_of
reached_empty {A} space e h = nothing_reached space (λ types a f. e ∙ ap (λ (t : Fields). A (types_of t)) (sym (source_none h a.held.source)))

pub reached_lost : {A : List DataType → Option DataType} (space : Space) {s w : List ℕ} {floor link : ℕ} → floor < link → space.n ≤ link → Reached A space s w w floor link (Err NoType)
reached_lost space h g = nothing_reached space (λ types a f. absurd (unlisted types h g a))

module _ (rules : Rules) (space : Space) {s w : List ℕ} {floor link : ℕ} where
  module _ (past : floor < link) (h : Head) (e : h ≡ head_at s link) where
    pub types_null : {v : List ℕ} (o : Written) → h.kind ≡ 1 → Reached (fold_types rules) space s w v link h.next o → Reached (fold_types rules) space s w v floor link o
    unfolding fold_types types_of
    types_null {v} o n m = record { within = m.within; means = go }
      where
        go : (types : Fields) → ListedTypes space s floor link types → Fits space 0 0 types → AnswerIs space v o (fold_types rules (types_of types))
        go end a f = absurd (some_listed past a)
        go (field name nullable shape parts rest) a f =
            rw (eq-eqb shape.kind 1 (sym (typed_kind h e (listed_typed a)) ∙ n)) (m.means rest (listed_next a h e) (fits_rest name nullable shape parts rest f))

    -- the first type is folded with those behind it
    pub types_behind : {v : List ℕ} (o : Written) → Folds (fold_behind rules) space (Entry space s link) s w v link h.next o → Reached (fold_types rules) space s w v floor link o
    unfolding fold_behind types_of
    types_behind {v} o g = record { within = g.within; means = go }
      where
        go : (types : Fields) → ListedTypes space s floor link types → Fits space 0 0 types → AnswerIs space v o (fold_types rules (types_of types))
        go end a f = absurd (some_listed past a)
        go (field name nullable shape parts rest) a f =
            g.means (type_of shape parts) rest (record { floor = floor; name = name; nullable = nullable; rest = rest; listed = a }) (listed_next a h e)
            (record { few = omega (arith, fits_few name nullable shape parts rest f); short = omega (arith, fits_short name nullable shape parts rest f) })

-- a first type and those behind it: a Null gives way to them, and another is the candidate
module _ (rules : Rules) {space : Space} {s w v : List ℕ} {first floor link : ℕ} (h : Head) (e : h ≡ head_at s first) (o : Written) where
  pub behind_null : h.kind ≡ 1 → Reached (fold_types rules) space s w v floor link o → Folds (fold_behind rules) space (Entry space s first) s w v floor link o
  unfolding fold_behind fold_types
  behind_null n m =
      record {
        within = m.within;
        means =
            λ c types k a f.
            rw (eq-eqb c.shape.kind 1 (sym (typed_kind h e (entry_typed c k)) ∙ n))
            (m.means types a (record { few = omega (arith, f.few); short = omega (arith, f.short) }));
      }

  pub behind_on : (h.kind ≡ 1 → ⊥) → Folds (fold_from rules) space (Entry space s first) s w v floor link o → Folds (fold_behind rules) space (Entry space s first) s w v floor link o
  unfolding fold_behind fold_types
  behind_on n m =
      record {
        within = m.within;
        means = λ c types k a f. rw (ne_eqb c.shape.kind 1 (λ q. n (typed_kind h e (entry_typed c k) ∙ q))) (m.means c types k a f);
      }

-- a type that is the same as the first changes nothing
behind_again : (rules : Rules) (t : DataType) (ts : List DataType) → fold_behind (for_list rules) t (t ∷ ts) ≡ fold_behind (for_list rules) t ts
unfolding fold_behind fold_types fold_from
behind_again rules t ts = by_test (is_null t) (λ n. rw n refl) (λ n. rw (n, equal_kept rules t t (equal_self t)) refl)

pub folds_same : (rules : Rules) {space : Space} {s w v : List ℕ} {first floor link : ℕ} → floor < link → (h : Head) → h ≡ head_at s link → {b : Bool}
    → ((u t : DataType) → Typed space s link u → Typed space s first t → b ≡ equal u t) → b ≡ true → (o : Written)
    → Folds (fold_behind (for_list rules)) space (Entry space s first) s w v link h.next o
    → Folds (fold_behind (for_list rules)) space (Entry space s first) s w v floor link o
folds_same rules {space} {s} {first = first} past h e same z o m =
    folds_past (for_list rules) space (Entry space s first) past h e o
    (λ x c a k ts.
    ap (λ (u : DataType). fold_behind (for_list rules) c (u ∷ ts)) (equal_same x c (sym (same x c a (entry_typed c k)) ∙ z)) ∙ behind_again rules c ts)
    m

-- the types up to one are the same as the first: those that are left tell whether all are, and what the fold is
abbrev pub SameUpTo : Rules → Space → List ℕ → List ℕ → ℕ → ℕ → ℕ → ℕ → Type 0
SameUpTo rules space s w first next last at =
    ((t : DataType) → Typed space s first t → Onward (all_equal t) (all_equal t) space s first next last at)
    × FoldsOn (fold_behind (for_list rules)) space s (Entry space s first) w first next (Entry space s first) w last at

-- a listed type with no type behind it is the answer
pub folds_alone : (rules : Rules) (space : Space) {s w v : List ℕ} {first floor link : ℕ} (o : Written) → Room w space → link ≤ floor → CopiedField space s w v first front o
    → Folds (fold_from rules) space (Entry space s first) s w v floor link o
unfolding fold_from types_of
folds_alone rules space {s} {w} {v} {first} {floor} {link} o room h m =
    record {
      within = within_kept room m.kept;
      means =
          λ c types k a f.
          subst (λ (t : Fields). AnswerIs space v o (fold_from rules c (types_of t))) (sym (source_none h a.held.source))
          (copied o k.name k.nullable c.shape c.parts k.rest m k.listed (omega (arith, f.few)) (omega (arith, f.short)));
    }

-- the one pair
module _ (rules : Rules) (space : Space) {s : List ℕ} {link : ℕ} (past : 0 < link) (h : Head) (e : h ≡ head_at s link) where
  pub pair_one : {w : List ℕ} → h.next ≡ 0 → Reached (pair_answer rules) space s w w 0 link (Err NoType)
  unfolding types_of
  pair_one z = nothing_reached space go
    where
      go : (types : Fields) → ListedTypes space s 0 link types → Fits space 0 0 types → None ≡ pair_answer rules (types_of types)
      go end a f = absurd (some_listed past a)
      go (field name nullable shape parts end) a f = refl
      go (field name nullable shape parts (field name₂ nullable₂ shape₂ parts₂ rest)) a f =
          absurd (omega (arith, (listed_next a h e).held.source.leads.is, (listed_next a h e).held.source.leads.above))

  module _ (more : h.next ≡ 0 → ⊥) (h₂ : Head) (e₂ : h₂ ≡ head_at s h.next) where
    pub pair_many : {w : List ℕ} → (h₂.next ≡ 0 → ⊥) → Reached (pair_answer rules) space s w w 0 link (Err NoType)
    unfolding types_of
    pair_many z = nothing_reached space go
      where
        go : (types : Fields) → ListedTypes space s 0 link types → Fits space 0 0 types → None ≡ pair_answer rules (types_of types)
        go end a f = absurd (some_listed past a)
        go (field name nullable shape parts end) a f = refl
        go (field name nullable shape parts (field name₂ nullable₂ shape₂ parts₂ end)) a f = absurd (z (listed_next (listed_next a h e) h₂ e₂).held.source.leads.is)
        go (field name nullable shape parts (field name₂ nullable₂ shape₂ parts₂ (field name₃ nullable₃ shape₃ parts₃ rest))) a f = refl

    module _ (last : h₂.next ≡ 0) where
      -- what is said of two types says all
      of_two : (u : List ℕ) (o : Written) → ((name name₂ : List ℕ) (nullable nullable₂ : Bool) (shape shape₂ : Shape) (parts parts₂ : Fields)
          → ListedTypes space s 0 link (field name nullable shape parts (field name₂ nullable₂ shape₂ parts₂ end)) → Fits space 0 0 (field name nullable shape parts (field name₂ nullable₂ shape₂ parts₂ end))
          → AnswerIs space u o (coercion rules (type_of shape parts) (type_of shape₂ parts₂)))
          → (types : Fields) → ListedTypes space s 0 link types → Fits space 0 0 types → AnswerIs space u o (pair_answer rules (types_of types))
      unfolding types_of
      of_two u o k end a f = absurd (some_listed past a)
      of_two u o k (field name nullable shape parts end) a f = absurd (more (listed_next a h e).held.source.leads.is)
      of_two u o k (field name nullable shape parts (field name₂ nullable₂ shape₂ parts₂ end)) a f = k name name₂ nullable nullable₂ shape shape₂ parts parts₂ a f
      of_two u o k (field name nullable shape parts (field name₂ nullable₂ shape₂ parts₂ (field name₃ nullable₃ shape₃ parts₃ rest))) a f =
          let b = (listed_next (listed_next a h e) h₂ e₂).held.source.leads in absurd (omega (arith, b.is, b.above))

      pub pair_on : {w : List ℕ} (u : List ℕ) (o : Written) → Steps (coercion rules) space (Typed space s h.next) s w u link o → Reached (pair_answer rules) space s w u 0 link o
      unfolding count labels
      pair_on u o g =
          record {
            within = g.within;
            means =
                of_two u o
                (λ name name₂ nullable nullable₂ shape shape₂ parts parts₂ a f.
                let f₂ = fits_behind name nullable shape parts (field name₂ nullable₂ shape₂ parts₂ end) f in
                g.means (type_of shape parts) (type_of shape₂ parts₂) (listed_typed a) (listed_typed (listed_next a h e))
                (omega (arith, fits_few name₂ nullable₂ shape₂ parts₂ end f₂)) (omega (arith, fits_short name₂ nullable₂ shape₂ parts₂ end f₂)));
          }

-- `type_union_resolution` by its two tests
by_tests : (rules : Rules) (t : DataType) (ts : List DataType) (same fit : Bool) → same ≡ all_equal t ts → fit ≡ categories_fit (t ∷ ts)
    → type_union_resolution rules (t ∷ ts) ≡ cond same (Some t) (cond fit (fold_types rules (t ∷ ts)) None)
unfolding type_union_resolution
by_tests rules t ts same fit p q =
    ap (λ (b : Bool). cond b (Some t) rest) (sym p)
    ∙ ap (cond same (Some t)) (tests (has_category notSupported (t ∷ ts)) (between 0 1 (categories_in (t ∷ ts))) ∙ ap (λ (b : Bool). cond b (fold_types rules (t ∷ ts)) None) (sym q))
  where
    rest : Option DataType
    rest = cond (has_category notSupported (t ∷ ts)) None (cond (between 0 1 (categories_in (t ∷ ts))) (fold_types rules (t ∷ ts)) None)

    tests : (a b : Bool) → cond a None (cond b (fold_types rules (t ∷ ts)) None) ≡ cond (cond a false b) (fold_types rules (t ∷ ts)) None
    tests true b = refl
    tests false b = refl

module _ (rules : Rules) (space : Space) {s : List ℕ} {link : ℕ} (past : 0 < link) (h : Head) (e : h ≡ head_at s link) where
  -- no types are listed
  pub union_lost : {w : List ℕ} → ((b : Bool) (t : DataType) → Typed space s link t → Tells (all_equal t) space s link h.next b) → Reached (type_union_resolution rules) space s w w 0 link (Err NoType)
  union_lost told = nothing_reached space go
    where
      go : (types : Fields) → ListedTypes space s 0 link types → Fits space 0 0 types → None ≡ type_union_resolution rules (types_of types)
      go end a f = absurd (some_listed past a)
      go (field name nullable shape parts rest) a f =
          let t = type_of shape parts in
          let x = listed_typed a in
          never (told false t x rest (listed_next a h e) ∙ sym (told true t x rest (listed_next a h e)))

  -- all types are the same
  pub union_same : ((t : DataType) → Typed space s link t → Tells (all_equal t) space s link h.next true) → {w v : List ℕ} (o : Written) → Room w space → CopiedField space s w v link front o
      → Reached (type_union_resolution rules) space s w v 0 link o
  unfolding types_of
  union_same same {v = v} o room m = record { within = within_kept room m.kept; means = go }
    where
      go : (types : Fields) → ListedTypes space s 0 link types → Fits space 0 0 types → AnswerIs space v o (type_union_resolution rules (types_of types))
      go end a f = absurd (some_listed past a)
      go (field name nullable shape parts rest) a f =
          let t = type_of shape parts in
          subst (AnswerIs space v o) (sym (by_tests rules t (types_of rest) true (categories_fit (t ∷ types_of rest)) (same t (listed_typed a) rest (listed_next a h e)) refl))
          (copied o name nullable shape parts rest m a (omega (arith, fits_few name nullable shape parts rest f)) (omega (arith, fits_short name nullable shape parts rest f)))

  module _ (differ : (t : DataType) → Typed space s link t → Tells (all_equal t) space s link h.next false) (fit : Bool) (fits : Tells categories_fit space s 0 link fit) where
    told : (types : Fields) → ListedTypes space s 0 link types → type_union_resolution rules (types_of types) ≡ cond fit (fold_types rules (types_of types)) None
    unfolding types_of
    told end a = absurd (some_listed past a)
    told (field name nullable shape parts rest) a =
        let t = type_of shape parts in by_tests rules t (types_of rest) false fit (differ t (listed_typed a) rest (listed_next a h e)) (fits _ a)

    pub union_fold : {w v : List ℕ} (o : Written) → fit ≡ true → Folds (fold_behind rules) space (Entry space s link) s w v link h.next o → Reached (type_union_resolution rules) space s w v 0 link o
    union_fold {v = v} o q g =
        let m = types_behind rules space past h e o g in
        record {
          within = m.within;
          means =
              λ types a f. subst (AnswerIs space v o) (sym (told types a ∙ ap (λ (b : Bool). cond b (fold_types rules (types_of types)) None) q)) (m.means types a f);
        }

    pub union_none : {w : List ℕ} → fit ≡ false → Reached (type_union_resolution rules) space s w w 0 link (Err NoType)
    union_none q = nothing_reached space (λ types a f. sym (told types a ∙ ap (λ (b : Bool). cond b (fold_types rules (types_of types)) None) q))

-- no types are listed in a sheet of one record
pub none_listed : (rules : Rules) (space : Space) {s w : List ℕ} → space.n ≤ 1 → Reached (answer_of rules.question rules) space s w w 0 (start space.n) (Err NoType)
unfolding type_union_resolution
none_listed rules space {s} {w} h = rw (le-ltb 1 space.n h) (reached_empty space (none rules.question) (omega arith))
  where
    none : (q : Question) → None ≡ answer_of q rules []
    none Question.List = refl
    none Question.Union = refl
    none Question.Compare = refl
