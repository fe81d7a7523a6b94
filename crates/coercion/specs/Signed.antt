-- The decimal rule in signed numbers.
use Rattle.std.specs.Prelude.{ℕ, ◌-◌, cond, ltb, ℤ, pos, negsuc, ◌+ℤ◌, ◌-ℤ◌}
use Rattle.std.specs.Int.Signed.{lt_z}

-- "A scale is a signed number of 8 bits"
abbrev pub signed : ℕ → ℤ
signed b = cond (ltb b 128) (pos b) (negsuc (255 - b))

abbrev pub max_z : ℤ → ℤ → ℤ
max_z a b = cond (lt_z a b) b a

abbrev pub min_z : ℤ → ℤ → ℤ
min_z a b = cond (lt_z b a) b a

-- "The scale is the greater of the two scales", of two scale bytes
abbrev pub scale_z : ℕ → ℕ → ℤ
scale_z s t = max_z (signed s) (signed t)

-- "The precision is that scale plus the greater of the two whole parts, p − s", of two precisions, each with its
-- scale byte
abbrev pub precision_z : ℕ → ℕ → ℕ → ℕ → ℤ
precision_z p s q t = scale_z s t +ℤ max_z (pos p -ℤ signed s) (pos q -ℤ signed t)

-- "Precision and scale are held to the cap of the width"
abbrev pub held_z : ℕ → ℕ → ℕ → ℕ → ℕ → ℤ
held_z most p s q t = min_z (pos most) (precision_z p s q t)
