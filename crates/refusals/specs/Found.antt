-- What the walk over a whole sheet found, as the code carries it, and what is answered.
use Rattle.std.specs.Prelude.{◌≡◌, ℕ, true, false, List, Result, Ok, Err}
use Rattle.sheet.specs.Read.{start, read}
use Rattle.sheet.specs.Refusals.{bad_kind, linked, walk, number_of}
use Rattle.sheet.specs.declared.Refusal.{Refusal}
use Rattle.refusals.specs.Walk.{pass_all}
use Rattle.refusals.specs.Framed.{FramedBy}
use Rattle.refusals.specs.declared.Progress.{Progress}

-- before the first record
abbrev pub outset : Progress
outset = record { due = 1; at = 0; figure = false; label = false }

pub record WalkFound (s : List ℕ) (n m link : ℕ) (p : Progress) : Type 0 where
  pub framed : FramedBy s n m
  pub kinds : bad_kind s ≡ false
  pub root : link ≡ start n
  pub chain : linked s link 1 (read s) ≡ true
  pub passed : p ≡ pass_all s outset (walk s)

-- the number of a refusal that may be met, 0 where none is
abbrev pub number_met : Result Unit Refusal → ℕ
number_met (Err r) = number_of r
number_met (Ok u) = 0
