-- The walk as the code makes it: what has been found on the way, and what is left to walk.
use Rattle.std.specs.Prelude.{◌≡◌, ℕ, ◌+◌, ◌*◌, ◌<◌, ◌≤◌, true, false, not, ◌||◌, List, [], ◌∷◌, Option, Some, None}
use Rattle.sheet.specs.Types.{Fields, arity}
use Rattle.sheet.specs.Head.{head_at, labelled}
use Rattle.sheet.specs.Read.{walk_from}
use Rattle.sheet.specs.Refusals.{Met, met, linked, record_right, label_right}
use Rattle.sheet.specs.declared.Head.{Head}
use Rattle.sheet.specs.declared.limits.TheConstants.{MOST_RECORDS}
use Rattle.refusals.specs.declared.Progress.{Progress}

-- past a record, in one of kind up
abbrev pub pass_head : Head → ℕ → Progress → Progress
pass_head h up p =
    record {
      due = p.due + 1;
      at = p.at + labelled h;
      figure = p.figure || not (record_right h up);
      label = p.label || not (label_right h up p.at);
    }

-- past records
abbrev pub pass_all : List ℕ → Progress → List Met → Progress
pass_all s p [] = p
pass_all s p (r ∷ rs) = pass_all s (pass_head (head_at s r.number) r.up p) rs

-- what holds on the way: no number outgrows its limit
pub record WalkReady (n : ℕ) (p : Progress) (k : ℕ) : Type 0 where
  pub few : n ≤ MOST_RECORDS
  pub some : 0 < p.due
  pub inside : p.due ≤ n
  pub short : p.at ≤ 510 * p.due
  pub counted : k ≤ p.due

-- how far a walk came
abbrev pub WalkGrows : ℕ → Progress → Option (Progress × ℕ) → Type 0
WalkGrows n p (Some (q, k)) = WalkReady n q k × (p.due ≤ q.due)
WalkGrows n p None = Unit

-- what a walk along t says
abbrev pub WalkSays : List ℕ → ℕ → ℕ → Progress → ℕ → Fields → Option (Progress × ℕ) → Type 0
WalkSays s up link p k t (Some (q, j)) = (linked s link p.due t ≡ true) × ((q ≡ pass_all s p (met up p.due t)) × (j ≡ k + arity t))
WalkSays s up link p k t None = linked s link p.due t ≡ false

-- what a walk along the chain that a link leads to comes to: what it found and how many records the chain has; or None
-- where a link leads elsewhere or a number of parts is wrong
pub record Walks (s : List ℕ) (n up link : ℕ) (p : Progress) (k : ℕ) (o : Option (Progress × ℕ)) : Type 0 where
  pub grows : WalkGrows n p o
  pub says : (f : ℕ) → n ≤ p.due + f → WalkSays s up link p k (walk_from f s n link p.due) o
