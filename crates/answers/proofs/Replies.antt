-- What the reply of a call says of it. Assumes nothing.
use mathlib.Core.Path.{◌≡◌, refl, ap, sym, subst, ◌∙◌}
use mathlib.Core.Bool.{Bool, true, false, cond}
use Rattle.std.specs.Prelude.{Option, None, Some}
use Prim.Native.Nat.{ℕ, ◌+◌, ◌*◌, ◌<◌}
use native.Mathlib.Decide.{ℕ_discrete}
use native.Mathlib.Omega.{arith}
use lib.ListN.{length}
use lib.Dec.{eqb}
use borrow.Author.Tests.{eqb-true, eqb-false, ne_eqb}
use Rattle.sheet.specs.Types.{count, labels}
use Rattle.sheet.specs.Encode.{encode}
use Rattle.sheet.specs.Read.{read}
use Rattle.sheet.specs.Refusals.{first_met}
use Rattle.sheet.specs.Laws.{Applies}
use Rattle.sheet.specs.Refusals as Sheet
use Rattle.sheet.proofs.Accepted.{accepted_encode, accepted_carried}
use Rattle.sheet.proofs.Chains.{encode_length}
use Rattle.sheet.proofs.Lowest.{From, some, found, least}
use Rattle.coercion.specs.Data.{DataType, single}
use Rattle.coercion.proofs.Shorter.{answer_smaller, answer_shorter}
use Rattle.answers.specs.Call.{Call, conditions, refusal, refused, written, Outcome, settled, rules_of, answer, outcome}
use Rattle.answers.specs.Terms.{terms_of}
use Rattle.answers.specs.Laws.{AnswerNoLonger, LowestGiven, MetRefused, RefusedUnchanged}
use Rattle.answers.proofs.Answering.{reply_number, reply_kind}
use Rattle.answers.proofs.Refusing.{sheet_refusal}

-- what is seen after a call, by whether it is answered and its answer on types
abbrev seen : Call → Bool → Option DataType → Outcome
seen c b a = cond b (settled c a) (record { reply = refused (refusal c); output = c.output; work = c.work })

-- a call that reports a type is not refused, and its types have an answer
written_answer : (c : Call) (k : ℕ) → (outcome c).reply ≡ written k
    → (refusal c ≡ 0) × ((t : DataType) × ((answer c ≡ Some t) × (k ≡ length (encode (single t)))))
unfolding outcome
written_answer c k e = go (eqb (refusal c) 0) refl (answer c) refl e
  where
    go : (b : Bool) → eqb (refusal c) 0 ≡ b → (a : Option DataType) → answer c ≡ a
        → (seen c b a).reply ≡ written k
        → (refusal c ≡ 0) × ((t : DataType) × ((answer c ≡ Some t) × (k ≡ length (encode (single t)))))
    go true z None f e = absurd (let q : ◌≡◌ {A = ℕ} 2 3 = ap reply_kind e in omega arith)
    go true z (Some t) f e = (eqb-true (refusal c) 0 z, (t, (f, sym (ap reply_number e))))
    go false z a f e = absurd (let q : ◌≡◌ {A = ℕ} 1 3 = ap reply_kind e in omega arith)

unrefused_sheet : (c : Call) → refusal c ≡ 0 → Sheet.refusal c.sheet ≡ 0
unfolding refusal
unrefused_sheet c h =
    elim (ℕ_discrete (Sheet.refusal c.sheet) 0) [
      | yes e ↦ e
      | no n ↦ absurd (n (sym (sheet_refusal (terms_of (rules_of c)) c.sheet c.output c.work n) ∙ h))
    ]

pub no_longer : AnswerNoLonger
no_longer c k plain e =
    let w = written_answer c k e in
    let t = w.1.0 in
    let accepted = unrefused_sheet c w.0 in
    let differ = (accepted_carried c.sheet plain accepted).differ in
    let long : length c.sheet ≡ 16 * (1 + count (read c.sheet)) + length (labels (read c.sheet)) =
    ap length (sym (accepted_encode c.sheet plain accepted)) ∙ encode_length (read c.sheet) in
    omega (
      arith,
      long,
      w.1.1.1,
      encode_length (single t),
      answer_smaller c.question (rules_of c) (read c.sheet) t differ w.1.1.0,
      answer_shorter c.question (rules_of c) (read c.sheet) t differ w.1.1.0,
    )

-- a call that reports a refusal number has that number, and gives back what was lent
refused_outcome : (c : Call) (k : ℕ) → (outcome c).reply ≡ refused k
    → (¬ (refusal c ≡ 0)) × ((refusal c ≡ k) × (((outcome c).output ≡ c.output) × ((outcome c).work ≡ c.work)))
unfolding outcome
refused_outcome c k e = go (eqb (refusal c) 0) refl (answer c) e
  where
    go : (b : Bool) → eqb (refusal c) 0 ≡ b → (a : Option DataType) → (seen c b a).reply ≡ refused k
        → (¬ (refusal c ≡ 0)) × ((refusal c ≡ k) × (((seen c b a).output ≡ c.output) × ((seen c b a).work ≡ c.work)))
    go true z None e = absurd (let q : ◌≡◌ {A = ℕ} 2 1 = ap reply_kind e in omega arith)
    go true z (Some t) e = absurd (let q : ◌≡◌ {A = ℕ} 3 1 = ap reply_kind e in omega arith)
    go false z a e = (eqb-false (refusal c) 0 z, (ap reply_number e, (refl, refl)))

pub refused_unchanged : RefusedUnchanged
refused_unchanged c k e = (refused_outcome c k e).1.1

rising : (c : Call) → From 0 (conditions c)
rising c = (omega arith, (omega arith, (omega arith, (omega arith, (omega arith, (omega arith, (omega arith, (omega arith, tt))))))))

pub lowest_given : LowestGiven
unfolding refusal
lowest_given c k e =
    let r = refused_outcome c k e in
    let cs = conditions c in
    let met : 0 < first_met cs = omega (arith, r.0) in
    (subst (Applies cs) r.1.0 (found 0 cs (rising c) met), λ j a. omega (arith, r.1.0, least 0 cs (rising c) a))

pub met_refused : MetRefused
unfolding refusal outcome
met_refused c j a =
    let met : 0 < refusal c = some 0 (conditions c) (rising c) a in
    (refusal c, rw (ne_eqb (refusal c) 0 (λ z. omega arith)))
