-- The zone of two Timestamps as a part of a slice.
use Rattle.std.specs.Prelude.{ℕ, ◌-◌, Bool, true, false, cond, not, List, take, drop}
use Rattle.buffers.specs.declared.zone.ZonePlace.{ZonePlace}

-- the bytes that a side is read from
abbrev pub side : Bool → List ℕ → List ℕ → List ℕ
side true sheet candidate = candidate
side false sheet candidate = sheet

-- what stands at a place
abbrev pub part_of : List ℕ → ZonePlace → List ℕ
part_of s p = take (p.upto - p.from) (drop p.from s)

-- "The zone is that of the left, if it has one, and else that of the right"
abbrev pub choice : List ℕ → List ℕ → Bool → ZonePlace → ZonePlace → List ℕ
choice sheet candidate swap l r = cond l.present (part_of (side swap sheet candidate) l) (part_of (side (not swap) sheet candidate) r)
