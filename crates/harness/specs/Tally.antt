-- What a tally counts and prints.
use Rattle.std.specs.Prelude.{ℕ, ◌-◌, List, ◌++◌, Option, None, Some, codes, decimal}

-- how many more are wrong where one more is counted
abbrev pub wrong_in : {W : Type 0} → Option W → ℕ
wrong_in None = 0
wrong_in (Some told) = 1

-- the first wrong one, with how many were run before it, where one more is counted after so many
abbrev pub first_kept : {W : Type 0} → Option (ℕ × W) → ℕ → Option W → Option (ℕ × W)
first_kept (Some first) at wrong = Some first
first_kept None at None = None
first_kept None at (Some told) = Some (at, told)

-- the line that tells of a tally
abbrev pub summary : List ℕ → ℕ → ℕ → List ℕ
summary noun runs wrong =
    decimal runs ++ (codes " " ++ (noun ++ (codes ": " ++ (decimal (runs - wrong) ++ (codes " as expected, " ++ (decimal wrong ++ codes " not"))))))
