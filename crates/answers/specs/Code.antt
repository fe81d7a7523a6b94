-- What the functions of this crate say of a call.
use Rattle.std.specs.Prelude.{◌≡◌, ℕ, ◌*◌, ◌≤◌, List, length}
use Rattle.sheet.specs.Encode.{encode}
use Rattle.sheet.specs.Read.{records_of, labels_of}
use Rattle.sheet.specs.Refusals as Sheet
use Rattle.coercion.specs.Data.{DataType, single}
use Rattle.coercion.specs.declared.Rules.{Rules}
use Rattle.buffers.specs.Region.{Wrote}
use Rattle.buffers.specs.declared.Space.{Space}
use Rattle.buffers.specs.declared.Place.{Place}
use Rattle.resolution.specs.Reached.{front}
use Rattle.answers.specs.Call.{Call, Reply, refused, nothing, written, Outcome, at_front}
use Rattle.std.specs.Prelude.{Option, None, Some, Result, Ok, Err}
use Rattle.answers.specs.declared.Refusal.{Refusal}

-- the refusal number for each refusal of a call
abbrev pub number_of : Refusal → ℕ
number_of (Refusal.Sheet r) = Sheet.number_of r
number_of Refusal.Mask = 6
number_of Refusal.Pair = 7
number_of Refusal.Space = 8

-- what a call answers: a type, by the byte length of its one-type sheet, or none; or why it is refused
abbrev pub Answer : Type 0
Answer = Result (Option ℕ) Refusal

-- what an answer reports
abbrev pub reply_of : Answer → Reply
reply_of (Err r) = refused (number_of r)
reply_of (Ok None) = nothing
reply_of (Ok (Some k)) = written k

-- what is handed to a call, and what is seen after it
abbrev pub call_of : Rules → List ℕ → List ℕ → List ℕ → Call
call_of rules sheet output work = record { question = rules.question; sheet = sheet; mask = rules.mask; output = output; work = work }

abbrev pub seen : Answer → List ℕ → List ℕ → Outcome
seen o output work = record { reply = reply_of o; output = output; work = work }

-- an accepted sheet and its sizes
pub record Measured (sheet : List ℕ) (space : Space) : Type 0 where
  pub unrefused : Sheet.refusal sheet ≡ 0
  pub records : space.n ≡ records_of sheet
  pub labels : space.m ≡ labels_of sheet
  pub half : space.half ≡ length sheet

-- an output and a work space that are long enough
pub record Spared (space : Space) (o w : List ℕ) : Type 0 where
  pub output : space.half ≤ length o
  pub work : 2 * space.half ≤ length w

-- the type that ends at d in the second half of a work space was written to the output
abbrev pub Emits : Space → Place → List ℕ → List ℕ → List ℕ → Type 0
Emits space d work output after = (t : DataType) → Wrote space work front d (single t) → after ≡ at_front (encode (single t)) output
