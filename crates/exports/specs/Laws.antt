-- The laws of the numbers of the exports, for every call.
use Rattle.std.specs.Prelude.{◌≡◌}
use Rattle.answers.specs.Call.{Call, outcome}
use Rattle.exports.specs.Number.{number_of, Ranged, reply_of_number}

-- the number of a refusal is 1 to 8, and that of a type at least 32
abbrev pub NumbersRanged : Type 0
NumbersRanged = (c : Call) → Ranged (outcome c).reply

-- "So the number alone tells the three apart."
abbrev pub NumbersDecode : Type 0
NumbersDecode = (c : Call) → reply_of_number (number_of (outcome c).reply) ≡ (outcome c).reply
