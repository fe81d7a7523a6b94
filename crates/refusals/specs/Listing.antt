-- What is seen after the types of a sheet were listed.
use Rattle.std.specs.Prelude.{ℕ, cond, List, [], ◌∷◌, eqb, Result, Ok, Err}
use Rattle.sheet.specs.Types.{Fields, end, field, arity}
use Rattle.sheet.specs.Read.{read}
use Rattle.sheet.specs.Refusals.{refusal, number_of}
use Rattle.sheet.specs.declared.Refusal.{Refusal}

-- the kinds of the listed types
unfoldable pub kinds : Fields → List ℕ
kinds end = []
kinds (field name nullable shape parts rest) = shape.kind ∷ kinds rest

-- bytes laid over the front of a buffer, as far as it has room
unfoldable pub over : List ℕ → List ℕ → List ℕ
over [] w = w
over (b ∷ bs) [] = []
over (b ∷ bs) (x ∷ w) = b ∷ over bs w

-- the refusal number, 0 for an accepted sheet; how many types it lists; every byte of the output
pub record Seen : Type 0 where
  pub number : ℕ
  pub types : ℕ
  pub output : List ℕ

-- a refused sheet lists nothing, and the output stays as it was
unfoldable pub listing : List ℕ → List ℕ → Seen
listing s w =
    cond (eqb (refusal s) 0)
    (record { number = 0; types = arity (read s); output = over (kinds (read s)) w })
    (record { number = refusal s; types = 0; output = w })

-- what is seen where the code reports an answer and leaves an output
abbrev pub seen_in : Result ℕ Refusal → List ℕ → Seen
seen_in (Err r) w = record { number = number_of r; types = 0; output = w }
seen_in (Ok k) w = record { number = 0; types = k; output = w }
