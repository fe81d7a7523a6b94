-- The stored calls, as oracle/vectors/README.md has their form.
use Rattle.std.specs.Prelude.{ℕ, cond, List, eqb, ltb, get_or, take, drop, Option, None, Some, Result, Ok, Err}
use Rattle.std.specs.Int.{w32, w64, from_le_bytes}
use Rattle.replay.specs.declared.stored.Broken.{Broken}
use Rattle.replay.specs.declared.stored.Reply.{Reply}
use Rattle.replay.specs.declared.stored.Vector.{Vector}
use Rattle.coercion.specs.declared.Question.{Question}

-- a file that is not in that form
abbrev pub broken : Broken
broken = record {}

-- the number that stands for a type that is expected
abbrev pub type : ℕ
type = 32

-- the three questions: list, union and compare
abbrev pub question_in : ℕ → Result Question Broken
question_in n = cond (eqb n 1) (Ok Question.List) (cond (eqb n 2) (Ok Question.Union) (cond (eqb n 3) (Ok Question.Compare) (Err broken)))

-- the byte length of a type's sheet, 0 where there is no type
abbrev pub length_in : Result (Option ℕ) ℕ → ℕ
length_in (Ok (Some len)) = len
length_in (Ok None) = 0
length_in (Err number) = 0

-- what is expected, by its number and the length of the stored answer: 0 none, 32 a type, any other number a refusal
abbrev pub expected_in : ℕ → ℕ → Reply
expected_in number len =
    cond (eqb number type) (record { 0 = Ok (Some len) }) (cond (eqb number 0) (record { 0 = Ok None }) (record { 0 = Err number }))

-- the number in the four bytes from at, the lowest first
abbrev pub number_at : List ℕ → ℕ → ℕ
number_at s at = from_le_bytes w32 (take 4 (drop at s))

-- the mask in the eight bytes from at, the lowest first
abbrev pub mask_at : List ℕ → ℕ → ℕ
mask_at s at = from_le_bytes w64 (take 8 (drop at s))

-- the stored call with this question that a head of 32 bytes describes
abbrev pub vector_in : Question → List ℕ → Vector
vector_in question head =
    record {
      question = question;
      expected = expected_in (get_or head 1 0) (number_at head 24);
      output = number_at head 4;
      work = number_at head 8;
      sheet = number_at head 12;
      answer = number_at head 24;
      mask = mask_at head 16;
    }

abbrev asked : Result Question Broken → List ℕ → Result (Option Vector) Broken
asked (Err e) head = Err e
asked (Ok question) head = Ok (Some (vector_in question head))

-- what a head is of which so many bytes were read: the end of the file, broken, or a stored call
abbrev pub entry_in : List ℕ → ℕ → Result (Option Vector) Broken
entry_in head got = cond (eqb got 0) (Ok None) (cond (ltb got 32) (Err broken) (asked (question_in (get_or head 0 0)) head))
