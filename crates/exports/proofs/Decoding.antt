-- Each case of a reply has numbers of its own. Assumes nothing.
use mathlib.Core.Path.{◌≡◌, refl}
use mathlib.Core.Bool.{Bool, true, false, cond}
use mathlib.Core.List.{List, [], ◌∷◌}
use Rattle.std.specs.Prelude.{Option, None, Some}
use Prim.Native.Nat.{◌≤◌}
use native.Mathlib.Omega.{arith}
use lib.ListN.{length}
use lib.Dec.{eqb}
use borrow.Author.Tests.{eqb-false}
use Rattle.sheet.specs.Types.{count}
use Rattle.sheet.specs.Encode.{encode}
use Rattle.sheet.specs.Refusals.{Condition, first_met}
use Rattle.sheet.proofs.Chains.{encode_length}
use Rattle.coercion.specs.Data.{DataType, single}
use Rattle.answers.specs.Call.{Call, conditions, refusal, refused, Outcome, settled, answer, outcome}
use Rattle.exports.specs.Number.{shortest, Ranged}
use Rattle.exports.specs.Laws.{NumbersRanged}

-- conditions whose numbers are at most 8
abbrev Low : List Condition → Type 0
Low [] = Unit
Low (c ∷ cs) = (c.number ≤ 8) × Low cs

first_low : (cs : List Condition) → Low cs → first_met cs ≤ 8
first_low [] l = omega arith
first_low (c ∷ cs) l = go c.met (first_low cs l.1)
  where
    go : (b : Bool) → first_met cs ≤ 8 → cond b c.number (first_met cs) ≤ 8
    go true h = l.0
    go false h = h

refusal_low : (c : Call) → refusal c ≤ 8
unfolding refusal
refusal_low c =
    first_low (conditions c)
    (omega arith, (omega arith, (omega arith, (omega arith, (omega arith, (omega arith, (omega arith, (omega arith, tt))))))))

-- a header and at least one record
sheet_long : (t : DataType) → shortest ≤ length (encode (single t))
unfolding count
sheet_long t = omega (arith, encode_length (single t))

-- the reply of every call has the number of its case
pub ranged : NumbersRanged
unfolding outcome
ranged c = go (eqb (refusal c) 0) refl (answer c)
  where
    go : (b : Bool) → eqb (refusal c) 0 ≡ b → (a : Option DataType)
        → Ranged (cond {A = Outcome} b (settled c a) (record { reply = refused (refusal c); output = c.output; work = c.work })).reply
    go true e None = tt
    go true e (Some t) = sheet_long t
    go false e a = (omega (arith, eqb-false (refusal c) 0 e), refusal_low c)
