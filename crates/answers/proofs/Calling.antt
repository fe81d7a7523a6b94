-- A call, from what its functions say. Assumes nothing.
use mathlib.Core.Path.{◌≡◌, refl, ap, sym, ◌∙◌}
use mathlib.Core.Bool.{true}
use mathlib.Core.List.{List, ◌++◌}
use Rattle.std.specs.Prelude.{Option, None, Some}
use Prim.Native.Nat.{ℕ, ◌+◌, ◌*◌, ◌≤◌}
use native.Mathlib.Omega.{arith}
use lib.ListN.{length, take, drop, replicate}
use lib.Seq.{length-take-le}
use borrow.Author.Tests.{ne_eqb}
use Rattle.sheet.specs.Encode.{encode}
use Rattle.sheet.specs.Read.{start, read}
use Rattle.sheet.specs.Holds.{Plain}
use Rattle.sheet.specs.Refusals.{number_of}
use Rattle.sheet.specs.Refusals as Sheet
use Rattle.sheet.specs.declared.Refusal.{Refusal}
use Rattle.sheet.specs.declared.Refusal.TheVariants.{Torn}
use Rattle.refusals.proofs.Verdicts.{says_torn, number_some}
use Rattle.sheet.proofs.Accepted.{accepted_carried}
use Rattle.sheet.proofs.Chains.{encode_length}
use Rattle.coercion.specs.Data.{DataType, single, types_of}
use Rattle.coercion.specs.declared.Rules.{Rules}
use Rattle.buffers.specs.Region.{Room, Inside, Wrote}
use Rattle.buffers.specs.declared.Space.{Space}
use Rattle.buffers.specs.declared.Place.{Place}
use Rattle.buffers.specs.Written.{Written}
use Rattle.std.specs.Prelude.{Ok, Err}
use Rattle.buffers.specs.declared.Failure.{Failure}
use Rattle.buffers.specs.declared.Failure.TheVariants.{NoType, Full}
use Rattle.resolution.specs.Reached.{front, ListedTypes, Fits, AnswerIs, Reached}
use Rattle.answers.specs.Call.{Call, refusal, refused, nothing, written, Outcome, cleared, answered, rules_of, outcome}
use Rattle.answers.specs.declared.Refusal as Own
use Rattle.answers.specs.Code as Code
use Rattle.answers.specs.Code.{call_of, Measured, Spared, Emits}
use Rattle.answers.specs.Terms.{Terms, first_refusal, later_causes, refusal_under, outcome_under, NoLarger, terms_of}
use Rattle.answers.proofs.Emitting.{drop_same}
use Rattle.answers.proofs.Refusing.{measured_n, measured_m, measured_half, measured_few, measured_short, measured_leads, sheet_refusal, accepted_refusal, some_number, number_met}

module _ (terms : Terms) (s out w : List ℕ) where
  -- a refused call changes nothing
  refused_by : (k : ℕ) → ¬ (k ≡ 0) → refusal_under terms s out w ≡ k
      → record { reply = refused k; output = out; work = w } ≡ outcome_under terms s out w
  unfolding outcome_under
  refused_by k h e = rw (e, ne_eqb k 0 h)

  pub refused_sheet : (r : Refusal) → number_of r ≡ Sheet.refusal s
      → record { reply = refused (number_of r); output = out; work = w } ≡ outcome_under terms s out w
  refused_sheet r e =
      refused_by (number_of r) (number_some r) (sheet_refusal terms s out w (λ x. number_some r (e ∙ x)) ∙ sym e)

  pub refused_torn : Sheet.torn s ≡ true → record { reply = refused 1; output = out; work = w } ≡ outcome_under terms s out w
  refused_torn h = refused_sheet Torn (says_torn s h)

  -- a call that meets one of 6 to 8
  pub refused_later : (r : Own.Refusal) → Sheet.refusal s ≡ 0 → Err r ≡ first_refusal (later_causes terms s out w)
      → record { reply = refused (Code.number_of r); output = out; work = w } ≡ outcome_under terms s out w
  refused_later r accepted e =
      refused_by (Code.number_of r) (some_number r) (accepted_refusal terms s out w accepted ∙ ap number_met (sym e))

module _ (terms : Terms) (s out w : List ℕ) (space : Space) (plain : Plain s) (measured : Measured s space)
    (spared : Spared space out w) where
  pub room : Room w space
  room =
      record {
        half = measured_half s space plain measured;
        few = measured_few s space plain measured;
        short = measured_short s space plain measured;
        inside = spared.work;
      }

  listed : ListedTypes space s 0 (start space.n) (read s)
  listed =
      let carried = accepted_carried s plain measured.unrefused in
      record {
        at = 1;
        label = 0;
        held =
            record {
              source = record { leads = measured_leads s space plain measured; right = carried.right; short = omega (arith, carried.short) };
              low = omega (arith, measured_m s space plain measured);
              differ = carried.differ;
            };
      }

  fits : Fits space 0 0 (read s)
  fits = record { few = omega (arith, measured_n s space plain measured); short = omega (arith, measured_m s space plain measured) }

  abbrev found : Option DataType
  found = terms.answer (types_of (read s))

  module _ (v : List ℕ) where
    abbrev Reach : Written → Type 0
    Reach o = Reached terms.answer space s w v 0 (start space.n) o

    done_type : (d : Place) → Reach (Ok d) → (t : DataType) × ((found ≡ Some t) × Wrote space v front d (single t))
    done_type d r = go found refl (r.means (read s) listed fits)
      where
        go : (o : Option DataType) → found ≡ o → AnswerIs space v (Ok d) o → (t : DataType) × ((found ≡ Some t) × Wrote space v front d (single t))
        go None e x = absurd x
        go (Some t) e x = (t, (e, x))

    pub done_room : NoLarger terms.answer → (d : Place) → Reach (Ok d) → Room v space × (Inside space d × (space.half ≤ length out))
    done_room no_larger d r =
        let f = done_type d r in
        let t = f.0 in
        let x = f.1.1 in
        let differ = (accepted_carried s plain measured.unrefused).differ in (
          record { half = room.half; few = room.few; short = room.short; inside = omega (arith, room.inside, r.within.long) },
          (
            record {
              some = omega (arith, x.records);
              records = omega (arith, x.records, no_larger.records (read s) t differ f.1.0, measured_n s space plain measured);
              letters = omega (arith, x.letters, no_larger.letters (read s) t differ f.1.0, measured_m s space plain measured);
            },
            spared.output,
          ),
        )

    no_type_lem : Reach (Err NoType) → found ≡ None
    no_type_lem r = go found (r.means (read s) listed fits)
      where
        go : (o : Option DataType) → AnswerIs space v (Err NoType) o → o ≡ None
        go None x = refl
        go (Some t) x = absurd x

    -- both halves were filled with zeros, and nothing else has changed
    zeroed_is : {o : Written} {zeros : List ℕ} → Reach o → zeros ≡ replicate (length (take (2 * space.half) v)) 0
        → zeros ++ drop (2 * space.half) v ≡ cleared s w
    zeroed_is r h =
        let n : length (take (2 * space.half) v) ≡ 2 * space.half = length-take-le (2 * space.half) v (omega (arith, spared.work, r.within.long)) in
        ap (λ (l : List ℕ). l ++ drop (2 * space.half) v) (h ∙ ap (λ (k : ℕ). replicate k 0) n)
        ∙ ap (λ (l : List ℕ). replicate (2 * space.half) 0 ++ l) (drop_same (2 * space.half) v w r.within.long r.within.above)
        ∙ ap (λ (k : ℕ). replicate (2 * k) 0 ++ drop (2 * k) w) measured.half

    module _ (unrefused : Ok tt ≡ first_refusal (later_causes terms s out w)) {zeros : List ℕ}
        (cleared : zeros ≡ replicate (length (take (2 * space.half) v)) 0) where
      answered_by : {o : Outcome} → o ≡ answered s out w found → o ≡ outcome_under terms s out w
      unfolding outcome_under
      answered_by h = rw (accepted_refusal terms s out w measured.unrefused ∙ ap number_met (sym unrefused)) h

      pub type_outcome : (d : Place) {k : ℕ} {out' : List ℕ} → Reach (Ok d) → (k ≡ 16 * d.at + d.label) × Emits space d v out out'
          → record { reply = written k; output = out'; work = zeros ++ drop (2 * space.half) v } ≡ outcome_under terms s out w
      type_outcome d {k} r e =
          let f = done_type d r in
          let t = f.0 in
          let n : k ≡ length (encode (single t)) = omega (arith, e.0, f.1.1.records, f.1.1.letters, encode_length (single t)) in
          let o = e.1 t f.1.1 in
          let z = zeroed_is r cleared in
          answered_by ((λ i. record { reply = written (n i); output = o i; work = z i }) ∙ ap (answered s out w) (sym f.1.0))

      pub none_outcome : (f : Failure) → Reach (Err f) → record { reply = nothing; output = out; work = zeros ++ drop (2 * space.half) v } ≡ outcome_under terms s out w
      none_outcome NoType r =
          let z = zeroed_is r cleared in
          answered_by ((λ i. record { reply = nothing; output = out; work = z i }) ∙ ap (answered s out w) (sym (no_type_lem r)))
      none_outcome Full r = absurd (r.means (read s) listed fits)

-- the three calls
pub rules_outcome : (rules : Rules) (s out w : List ℕ) → outcome_under (terms_of rules) s out w ≡ outcome (call_of rules s out w)
unfolding outcome refusal outcome_under
rules_outcome rules s out w = refl

pub torn_call : (c : Call) → Sheet.torn c.sheet ≡ true → record { reply = refused 1; output = c.output; work = c.work } ≡ outcome c
torn_call c h =
    refused_torn (terms_of (rules_of c)) c.sheet c.output c.work h ∙ rules_outcome (rules_of c) c.sheet c.output c.work
