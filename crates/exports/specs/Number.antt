-- What a caller in another language sees after a call: one number, and every byte that was lent.
use Rattle.std.specs.Prelude.{ℕ, ◌≤◌, cond, List, eqb, ltb}
use Rattle.answers.specs.Call.{Reply, refused, nothing, written, Outcome}

-- a reply as one number: 0 for none, a refusal by its own number, a type by the byte length of its one-type sheet
abbrev pub number_of : Reply → ℕ
number_of (refused k) = k
number_of nothing = 0
number_of (written k) = k

-- what can be seen after a call of the library: the number that it returns, every byte of the output and every byte
-- of the work space
pub record Seen : Type 0 where
  pub number : ℕ
  pub output : List ℕ
  pub work : List ℕ

-- a whole call as the library shows it
abbrev pub exported : Outcome → Seen
exported o = record { number = number_of o.reply; output = o.output; work = o.work }

-- "No one-type sheet has fewer than 32 bytes, its header and one record."
abbrev pub shortest : ℕ
shortest = 32

-- the numbers of each case, which have none in common
abbrev pub Ranged : Reply → Type 0
Ranged (refused k) = (1 ≤ k) × (k ≤ 8)
Ranged nothing = Unit
Ranged (written k) = shortest ≤ k

-- the reply that a number stands for: 0 none, 1 to 31 a refusal number, from 32 on a byte length
abbrev pub reply_of_number : ℕ → Reply
reply_of_number k = cond (eqb k 0) nothing (cond (ltb k shortest) (refused k) (written k))
