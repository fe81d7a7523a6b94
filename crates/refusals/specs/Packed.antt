-- What the numbers say that a walk carries.
use Rattle.std.specs.Prelude.{◌≡◌, Bool, true, not, cond, ◌&&◌, List, ℕ, ◌+◌, ◌*◌, ◌-◌, ◌/◌, ◌%◌, ◌<◌, ◌≤◌, eqb, ltb, leb, Option, Some, None, IfSome}
use Rattle.sheet.specs.Kind.{is_decimal}
use Rattle.sheet.specs.Head.{labelled, quad_at}
use Rattle.sheet.specs.Refusals.{figure_right, record_right, label_right}
use Rattle.sheet.specs.declared.Head.{Head}
use Rattle.sheet.specs.declared.kind.TheConstants as Kind
use Rattle.refusals.specs.Walk.{pass_head, WalkReady, Walks}
use Rattle.refusals.specs.declared.Progress.{Progress}
use Rattle.refusals.specs.declared.walk.Walked.{Walked}

-- what was found, at + 2³² · figure + 2³³ · label, before the record that is due
abbrev pub progress_of : ℕ → ℕ → Progress
progress_of due found =
    record { due = due; at = found % 4294967296; figure = eqb (found / 4294967296 % 2) 1; label = eqb (found / 8589934592 % 2) 1 }

-- how a walk ended
abbrev pub walked_of : Option Walked → Option (Progress × ℕ)
walked_of None = None
walked_of (Some w) = Some (progress_of w.due w.found, w.count)

-- no flag but the first, no size, and the figures are right
unfoldable pub light : Head → Bool
light h = eqb h.bytes_4_7 0 && (ltb h.flags 2 && figure_right h.kind h.figure h.scale)

-- a Timestamp with a zone, without a name and not nullable, of a right unit and with no other figure
pub record Stamped (h : Head) : Type 0 where
  pub kind : h.kind ≡ Kind.TIMESTAMP
  pub flags : h.flags ≡ 4
  pub unit : h.figure ≤ 3
  pub scale : h.scale ≡ 0
  pub nameless : h.name ≡ 0
  pub short : h.name_len ≡ 0
  pub last : h.byte_15 ≡ 0
  pub zone : h.bytes_4_7 < 16777216

-- nothing is wrong with a record, which has r label bytes
pub record PassesBy (h : Head) (up o r : ℕ) : Type 0 where
  pub few : r ≤ 510
  pub figures : record_right h up ≡ true
  pub placed : label_right h up o ≡ true
  pub all : r ≡ labelled h

-- a Decimal128 of up to 38 digits, and a scale of 0 up to the precision
abbrev pub usual_decimal : ℕ → ℕ → ℕ → Bool
usual_decimal k p s = eqb k Kind.DECIMAL128 && (leb s p && (ltb 0 p && leb p 38))

-- the numbers of 32 bits of a record that says nothing but a kind that has no parts, at most a usual decimal's figures,
-- and its links
abbrev pub plain : ℕ → ℕ → ℕ → Bool
plain a b d =
    eqb (b + d) 0
    && cond (ltb a Kind.LIST) (not (is_decimal a)) (usual_decimal (a % 65536) (a / 65536 % 256) (a / 16777216))

-- record r is such a record, and its links are the number given
pub record PlainAt (s : List ℕ) (r links : ℕ) : Type 0 where
  pub says : plain (quad_at s (16 * r)) (quad_at s (16 * r + 4)) (quad_at s (16 * r + 12)) ≡ true
  pub leads : quad_at s (16 * r + 8) ≡ links

-- past a record: what was found becomes r
pub record Passed (h : Head) (up found r : ℕ) : Type 0 where
  pub past : (due : ℕ) → progress_of (due + 1) r ≡ pass_head h up (progress_of due found)
  pub few : r % 4294967296 ≤ found % 4294967296 + 510
  pub small : r < 17179869184

-- the records from r to e - 1 are plain and each leads to the following one, but that the link of the last is the one
-- given
pub record Row (s : List ℕ) (n r e link : ℕ) : Type 0 where
  pub some : r ≤ e
  pub inside : e ≤ n
  pub on : (o : Option (Progress × ℕ)) (up found : ℕ) → WalkReady n (progress_of r found) 0
      → Walks s n up link (progress_of e found) (e - r) o → Walks s n up r (progress_of r found) 0 o

-- what a walk tells
pub record WalkTells (s : List ℕ) (n up link : ℕ) (p : Progress) (k : ℕ) (o : Option Walked) : Type 0 where
  pub walks : Walks s n up link p k (walked_of o)
  pub small : IfSome o (λ w. w.found < 17179869184)
