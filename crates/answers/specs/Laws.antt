-- The laws of a call, whatever is handed to it.
use Rattle.std.specs.Prelude.{◌≡◌, ℕ, ◌≤◌, length}
use Rattle.sheet.specs.Holds.{Plain}
use Rattle.sheet.specs.Laws.{Applies}
use Rattle.answers.specs.Call.{Call, conditions, refused, written, outcome}

-- "An answer never has more bytes than the sheet that was asked about."
abbrev pub AnswerNoLonger : Type 0
AnswerNoLonger = (c : Call) (k : ℕ) → Plain c.sheet → (outcome c).reply ≡ written k → k ≤ length c.sheet

-- "Where several conditions are met, the lowest number that applies is given."
abbrev pub LowestGiven : Type 0
LowestGiven =
    (c : Call) (k : ℕ) → (outcome c).reply ≡ refused k → Applies (conditions c) k × ((j : ℕ) → Applies (conditions c) j → k ≤ j)

-- a call that meets a condition is refused
abbrev pub MetRefused : Type 0
MetRefused = (c : Call) (j : ℕ) → Applies (conditions c) j → (k : ℕ) × ((outcome c).reply ≡ refused k)

-- "A refused call changes no byte of what was lent to it."
abbrev pub RefusedUnchanged : Type 0
RefusedUnchanged = (c : Call) (k : ℕ) → (outcome c).reply ≡ refused k → ((outcome c).output ≡ c.output) × ((outcome c).work ≡ c.work)
