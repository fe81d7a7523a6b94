-- What is known of a sheet that is not torn.
use Rattle.std.specs.Prelude.{◌≡◌, ℕ, ◌+◌, ◌*◌, ◌≤◌, false, List, length}
use Rattle.sheet.specs.Read.{records_of, labels_of}
use Rattle.sheet.specs.Refusals.{torn}
use Rattle.sheet.specs.declared.limits.TheConstants.{RECORD_BYTES, MOST_RECORDS, MOST_LABEL_BYTES}

-- a sheet that is not torn, and the n and m of its header
pub record FramedBy (s : List ℕ) (n m : ℕ) : Type 0 where
  pub whole : torn s ≡ false
  pub records : n ≡ records_of s
  pub labels : m ≡ labels_of s
  pub some : 1 ≤ n
  pub few : n ≤ MOST_RECORDS
  pub short : m ≤ MOST_LABEL_BYTES
  pub long : length s ≡ RECORD_BYTES * n + m
