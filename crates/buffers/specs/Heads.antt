-- What the heads of two records tell of the zone of their types.
use Rattle.std.specs.Prelude.{ℕ, ◌+◌, ◌*◌, min, cond, List}
use Rattle.sheet.specs.Head.{zoned_in, zone_at, zone_len}
use Rattle.sheet.specs.Read.{label_at}
use Rattle.sheet.specs.declared.Head.{Head}
use Rattle.buffers.specs.declared.zone.ZonePlace.{ZonePlace}

-- where the zone of a record stands in a slice of a length, as far as it lies inside
abbrev pub place_of : Head → ℕ → ℕ → ZonePlace
place_of h n length =
    record {
      present = zoned_in h;
      from = min (16 * n + zone_at h) length;
      upto = min (min (16 * n + zone_at h) length + zone_len h) length;
    }

-- the bytes of the zone of two records, the left's if it has one, else the right's
abbrev pub either_zone : List ℕ → List ℕ → ℕ → Head → Head → List ℕ
either_zone a b n x y = cond (zoned_in x) (label_at a n (zone_at x) (zone_len x)) (label_at b n (zone_at y) (zone_len y))
