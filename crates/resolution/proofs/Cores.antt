-- A candidate whose core alone is written anew. Assumes nothing.
use mathlib.Core.Path.{◌≡◌, refl, ap, sym, subst, ◌∙◌}
use mathlib.Core.Bool.{Bool, true}
use mathlib.Core.List.{List}
use mathlib.Core.Logic.{⊎_elim}
use Rattle.std.specs.Prelude.{Option, None, Some}
use Prim.Native.Nat.{ℕ, ◌+◌, ◌*◌, ◌-◌, ◌<◌, ◌≤◌}
use native.Mathlib.Omega.{arith}
use lib.ListN.{length, get_or, length-append, length-drop}
use lib.Seq.{get_or-drop}
use Rattle.sheet.specs.Types.{Fields, end, count, zone_bytes, own_labels, labels}
use Rattle.sheet.specs.Head.{head_at, nullable_in, labelled}
use Rattle.sheet.specs.declared.Head.{Head}
use Rattle.sheet.proofs.Spans.{span_left}
use Rattle.coercion.specs.Data.{DataType, size, single, and_then}
use Rattle.coercion.specs.Answers.{coercion}
use Rattle.coercion.specs.declared.Rules.{Rules}
use Rattle.buffers.specs.Region.{Room, region, Kept, Inside, Named}
use Rattle.buffers.specs.Target.{letters, Means}
use Rattle.buffers.specs.Typed.{Typed, Merges}
use Rattle.buffers.specs.declared.Space.{Space}
use Rattle.buffers.specs.declared.Place.{Place}
use Rattle.buffers.specs.declared.Target.{Target}
use Rattle.buffers.specs.Written.{Written}
use Rattle.std.specs.Prelude.{Ok, Err}
use Rattle.buffers.specs.declared.Failure.TheVariants.{NoType, Full}
use Rattle.buffers.proofs.Sources.{link_is, read_nullable}
use Rattle.buffers.proofs.Frames.{span_frame}
use Rattle.buffers.proofs.Chained.{labels_sum}
use Rattle.buffers.proofs.Copying.{own_labelled}
use Rattle.buffers.proofs.Fielding.{name_length_lem}
use Rattle.buffers.proofs.Rows.{chain_typed}
use Rattle.merge.proofs.Merging.{single_letters}
use Rattle.resolution.specs.Keeps.{core_of, with_core}
use Rattle.resolution.proofs.Coring.{with_type, Tail, tail}
use Rattle.plain.proofs.Valuing.{no_parts}
use Rattle.resolution.specs.Reached.{AnswerIs, Candidate, Cored, Shifted, Steps}
use Rattle.resolution.proofs.Shifting.{candidate_held, held_shifted}
use Rattle.resolution.proofs.Folding.{enclosed, within_self, shifted_within}

-- the core of a candidate, which has no parts
module _ (space : Space) (w : List ℕ) (d : Place) (c : DataType) (room : Room w space) (inside : Inside space d) (k : Candidate space w d c)
    (low : (core_of c.shape c.parts).shape.kind < 32) where
  abbrev core : DataType
  core = core_of c.shape c.parts

  last : Tail space (region space w) 1 0 (single c) core (λ t. single (with_core c.shape c.parts t))
  last = tail space (region space w) 0 1 1 0 0 _ _ c.shape c.parts (candidate_held space w d c room inside k)

  alone : core.parts ≡ end
  alone = no_parts core.shape.kind core.parts low last.held.source.right.0.filled

  last_at : last.at + 1 ≡ d.at
  unfolding count
  last_at = omega (arith, last.records, k.wrote.records, ap (λ (p : Fields). count p) alone)

  last_label : last.label + length (own_labels last.name core.shape) ≡ d.label
  unfolding labels
  last_label =
      omega (arith, last.letters, k.wrote.letters, labels_sum last.name last.nullable core.shape core.parts end, ap (λ (p : Fields). length (labels p)) alone)

  module _ (h : Head) (e : h ≡ head_at (region space w) (d.at - 1)) where
    last_head : h ≡ head_at (region space w) last.link
    last_head = e ∙ ap (head_at (region space w)) (omega (arith, last_at, link_is last.held.source))

    last_labelled : labelled h ≡ length (own_labels last.name core.shape)
    last_labelled = own_labelled space (region space w) h last_head last.held

    goal : Target
    goal = record { at = last.at; label = last.label; name_len = length last.name; nullable = last.nullable }

    goal_is : {at label : ℕ} {nullable : Bool} → at ≡ d.at - 1 → label ≡ d.label - labelled h → nullable ≡ nullable_in h
        → record { at = at; label = label; name_len = h.name_len; nullable = nullable } ≡ goal
    unfolding goal
    goal_is {at} {label} p q z =
        λ i.
        record {
          at = at_is i;
          label = label_is i;
          name_len = sym (name_length_lem (record { floor = last.floor; at = last.at; label = last.label; up = last.up; held = last.held }) h last_head) i;
          nullable = (z ∙ read_nullable last.held.source h last_head) i;
        }
      where
        at_is : at ≡ last.at
        at_is = omega (arith, p, last_at)

        label_is : label ≡ last.label
        label_is = omega (arith, q, last_labelled, last_label)

  -- after the candidate was moved
  module _ (v : List ℕ) (a : Shifted space w v d) where
    core_typed : Typed space v last.link core
    core_typed =
        chain_typed
        (record {
          floor = last.floor;
          at = last.at;
          label = last.label;
          up = last.up;
          held =
              held_shifted space w v d (with_type last.name last.nullable core) room inside a (omega (arith, last.records, k.wrote.records))
              (omega (arith, last.letters, k.wrote.letters)) last.held;
        })

    same : (j : ℕ) → get_or (region space v) j 0 ≡ get_or (region space w) j 0
    same j = get_or-drop space.half v j 0 ∙ a.above (space.half + j) (omega arith) ∙ sym (get_or-drop space.half w j 0)

    named : (h : Head) (e : h ≡ head_at (region space w) (d.at - 1)) → Named space v (goal h e) last.name
    unfolding goal
    named h e =
        record {
          long = refl;
          span =
              span_frame {w = region space w} (region space v) last.name
              (length-drop space.half v ∙ ap (λ (i : ℕ). i - space.half) a.long ∙ sym (length-drop space.half w)) (λ j lo hi. same j)
              (span_left last.name (zone_bytes core.shape.zone) last.held.source.leads.holds.0.label);
        }

    -- the core was written anew
    module _ (h : Head) (e : h ≡ head_at (region space w) (d.at - 1)) (x : DataType) {u : List ℕ} (kept : Kept space v u last.at (last.label + length last.name))
        (few : size x + size c < space.n) (short : letters x + letters c ≤ space.m) where
      core_answered : (o : Written) (m : Option DataType) → Means space v u (goal h e) (size core + size x) (letters core + letters x) o m
          → AnswerIs space u o (and_then m (λ t. Some (with_core c.shape c.parts t)))
      unfolding goal count labels
      core_answered (Ok f) None b = b
      core_answered (Ok f) (Some t) b =
          let n = b last.name (named h e) in
          record {
            records = n.records ∙ sym (last.many t);
            letters = n.letters ∙ sym (last.long t);
            holds =
                last.back (region space u) t
                (length-drop space.half u ∙ ap (λ (i : ℕ). i - space.half) (kept.long ∙ a.long) ∙ sym (length-drop space.half w))
                (λ j lo hi. get_or-drop space.half u j 0 ∙ kept.below (space.half + j) (omega arith) ∙ sym (get_or-drop space.half v j 0) ∙ same j)
                (λ j lo hi. get_or-drop space.half u j 0 ∙ kept.between (space.half + j) (omega arith) (omega arith) ∙ sym (get_or-drop space.half v j 0) ∙ same j)
                n.holds;
          }
      core_answered (Err NoType) None b = tt
      core_answered (Err NoType) (Some t) b = b
      core_answered (Err Full) m b =
          ⊎_elim (λ q. omega (arith, last.records))
          (λ q.
          omega
          (arith, last.letters, single_letters c, labels_sum last.name last.nullable core.shape core.parts end, length-append last.name (zone_bytes core.shape.zone)))
          b

-- a type of the sheet that changes the core alone
module _ (rules : Rules) (space : Space) {s w : List ℕ} {link : ℕ} {d : Place} (room : Room w space) (inside : Inside space d) (cored : Cored rules space s w link d) where
  -- a candidate has a record
  pub core_lost : d.at < 2 → Steps (coercion rules) space (Candidate space w d) s w w link (Err NoType)
  unfolding count
  core_lost q = record { within = within_self w; inside = tt; means = λ x c t k h l. absurd (omega (arith, k.wrote.records)) }

  module _ (h : Head) (e : h ≡ head_at (region space w) (d.at - 1)) where
    -- and the labels of its last record
    pub core_short : d.label < labelled h → Steps (coercion rules) space (Candidate space w d) s w w link (Err NoType)
    core_short q =
        record {
          within = within_self w;
          inside = tt;
          means =
              λ x c t k f l.
              let low = (cored.is x c t k).low in
              absurd (omega (arith, last_labelled space w d c room inside k low h e, last_label space w d c room inside k low));
        }

    pub core_stepped : {v u : List ℕ} {at label : ℕ} {nullable : Bool} (o : Written) → at ≡ d.at - 1 → label ≡ d.label - labelled h → nullable ≡ nullable_in h → Shifted space w v d
        → Merges (coercion rules) space (2 * space.n) true s v u at link (record { at = at; label = label; name_len = h.name_len; nullable = nullable }) o
        → Steps (coercion rules) space (Candidate space w d) s w u link o
    unfolding count goal
    core_stepped {v} {u} {at} {label} {nullable} o p q z a m =
        record {
          within = shifted_within room a m.writes.kept;
          inside = enclosed space (record { at = at; label = label; name_len = h.name_len; nullable = nullable }) o m.writes.passes;
          means = means;
        }
      where
        means : (x c : DataType) → Typed space s link x → Candidate space w d c → size x + size c < space.n → letters x + letters c ≤ space.m → AnswerIs space u o (coercion rules x c)
        means x c t k few short =
            let f = cored.is x c t k in
            let low = f.low in
            let l = last space w d c room inside k low in
            let n = subst (λ (g : Target). Merges (coercion rules) space (2 * space.n) true s v u at link g o) (goal_is space w d c room inside k low h e p q z) m in
            let core = core_of c.shape c.parts in
            let i : l.link ≡ at = omega (arith, p, last_at space w d c room inside k low, link_is l.held.source) in
            let typed = subst (λ (i : ℕ). Typed space v i core) i (core_typed space w d c room inside k low v a) in
            subst (AnswerIs space u o) (sym f.is)
            (core_answered space w d c room inside k low v a h e x n.writes.kept few short o (coercion rules core x)
            (n.means core x typed t (omega (arith, l.records))))
