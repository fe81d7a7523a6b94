-- The decimal rule for two decimals of one width, with scales plus 128 and in signed numbers.
use Rattle.std.specs.Prelude.{◌≡◌, ℕ, ◌+◌, ◌-◌, ◌<◌, min, max, true, pos}
use Rattle.sheet.specs.Kind.{cap}
use Rattle.sheet.specs.Refusals.{biased, figure_right}
use Rattle.coercion.specs.declared.Figures.{Figures}
use Rattle.coercion.specs.Numbers.{ahead}
use Rattle.coercion.specs.Signed.{signed, max_z, held_z}

-- a decimal, of a width's kind, with its precision and its scale byte
abbrev pub decimal_of : ℕ → ℕ → ℕ → Figures
decimal_of w p s = record { kind = w; figure = p; scale = s }

-- What the rule says of the common type f of decimals (p,s) and (q,t) of width w.
pub record Wider (w p s q t : ℕ) (f : Figures) : Type 0 where
  pub width : f.kind ≡ w
  -- "The scale is the greater of the two scales", plus 128
  pub scale : biased f.scale ≡ max (biased s) (biased t)
  -- "The precision is that scale plus the greater of the two whole parts, p − s", held to the cap
  pub precision : f.figure ≡ min (cap w) (max (ahead p (biased s)) (ahead q (biased t)) + max (biased s) (biased t) - 256)
  -- over the cap
  pub over : cap w < max (ahead p (biased s)) (ahead q (biased t)) + max (biased s) (biased t) - 256 → f.figure ≡ cap w
  -- both in signed numbers
  pub signed_scale : signed f.scale ≡ max_z (signed s) (signed t)
  pub signed_precision : pos f.figure ≡ held_z (cap w) p s q t
  -- a sheet may carry it
  pub right : figure_right w f.figure f.scale ≡ true
  pub byte : f.scale < 256
