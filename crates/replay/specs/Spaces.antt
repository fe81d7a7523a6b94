-- What spaces are filled with before a call, and what a call leaves in them.
use Rattle.std.specs.Prelude.{ℕ, ◌+◌, ◌*◌, ◌%◌, Bool, true, ◌&&◌, List, [], ◌∷◌, eqb, leb, length, map, take, drop, Option, Result, Ok, Err}
use Rattle.std.specs.List.{range_with_len, starts_with}
use Rattle.sheet.specs.Refusals.{all_zero}

-- what the byte at i is filled with
abbrev pub mark_at : ℕ → ℕ
mark_at i = i % 251 + 5

-- what n bytes from i on are filled with
abbrev pub marks : ℕ → ℕ → List ℕ
marks i n = map mark_at (range_with_len i n)

-- whether bytes that begin at i are as they were filled
unfoldable pub is_marked : ℕ → List ℕ → Bool
is_marked i [] = true
is_marked i (b ∷ bs) = eqb b (mark_at i) && is_marked (i + 1) bs

-- whether an output has an answer at its front and is as it was filled behind it
abbrev pub is_answered : List ℕ → List ℕ → Bool
is_answered output answer = starts_with eqb output answer && is_marked (length answer) (drop (length answer) output)

-- whether the first n bytes of a work space are zero and the others as they were filled
abbrev pub is_cleared : List ℕ → ℕ → Bool
is_cleared work n = leb n (length work) && (all_zero (take n work) && is_marked n (drop n work))

-- how many bytes of work space a call leaves zero: twice the sheet where a type or none is expected, none where a
-- refusal is
abbrev pub cleared_bytes : Result (Option ℕ) ℕ → ℕ → ℕ
cleared_bytes (Ok answer) sheet = 2 * sheet
cleared_bytes (Err number) sheet = 0
