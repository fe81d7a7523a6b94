-- The listed types of bytes.
use Rattle.std.specs.Prelude.{ℕ, zero, suc, ◌+◌, ◌*◌, cond, ◌&&◌, List, take, drop, ltb, eqb}
use Rattle.sheet.specs.Types.{Zone, absent, present, Shape, Fields, end, field, count}
use Rattle.sheet.specs.Head.{word, head_at, nullable_in, sorted_in, zoned_in, size_in, zone_at, zone_len}
use Rattle.sheet.specs.declared.Head.{Head}

-- the header's n and m
abbrev pub records_of : List ℕ → ℕ
records_of s = word s 0

abbrev pub labels_of : List ℕ → ℕ
labels_of s = word s 2

-- the label of len bytes at an offset, which counts from the end of n records
abbrev pub label_at : List ℕ → ℕ → ℕ → ℕ → List ℕ
label_at s n at len = take len (drop (16 * n + at) s)

abbrev pub zone_of : List ℕ → ℕ → Head → Zone
zone_of s n h = cond (zoned_in h) (present (label_at s n (zone_at h) (zone_len h))) absent

abbrev pub shape_of : List ℕ → ℕ → Head → Shape
shape_of s n h =
    record { kind = h.kind; figure = h.figure; scale = h.scale; size = size_in h; sorted = sorted_in h; zone = zone_of s n h }

abbrev pub field_of : List ℕ → ℕ → Head → Fields → Fields → Fields
field_of s n h parts rest = field (label_at s n h.name h.name_len) (nullable_in h) (shape_of s n h) parts rest

-- "The walk takes a record, next its parts, and then the record that follows it in its chain."
-- "It has to meet the records 1, 2, and so on up to n − 1 in exactly this order."
-- The chain that a link leads to where record r is the next to be met. A link that leads elsewhere ends it here, and is
-- found by `bad_chain` of Refusals. The first argument bounds the steps.
unfoldable pub walk_from : ℕ → List ℕ → ℕ → ℕ → ℕ → Fields
walk_from zero s n link r = end
walk_from (suc f) s n link r =
    let h = head_at s r in
    let parts = walk_from f s n h.first (r + 1) in
    let rest = walk_from f s n h.next (r + 1 + count parts) in
    let chain = field_of s n h parts rest in
    cond (eqb link r && ltb r n) chain end

-- "The listed types are the chain that begins at record 1, and where n is 1 there are none."
abbrev pub start : ℕ → ℕ
start n = cond (ltb 1 n) 1 0

unfoldable pub read : List ℕ → Fields
read s = walk_from (records_of s) s (records_of s) (start (records_of s)) 1
