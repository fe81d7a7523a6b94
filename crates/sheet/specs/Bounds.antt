-- What a head that was read from bytes fits in.
use Rattle.std.specs.Prelude.{◌≡◌, List, ℕ, ◌<◌, ◌≤◌, length, take}
use Rattle.sheet.specs.declared.Head.{Head}

pub record Bounded (h : Head) : Type 0 where
  pub quad : h.bytes_4_7 < 4294967296
  pub first : h.first < 65536
  pub next : h.next < 65536
  pub name : h.name < 65536
  pub name_len : h.name_len < 256

-- u was put at the front of a buffer that was w and is v
pub record Filled (u w v : List ℕ) (r : ℕ) : Type 0 where
  pub all : r ≡ length u
  pub long : length v ≡ length w
  pub inside : r ≤ length v
  pub front : take r v ≡ u
