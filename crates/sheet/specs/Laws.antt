-- The laws of sheets, each as one statement, which a function of src/laws.rt promises.
use Rattle.std.specs.Prelude.{◌≡◌, ℕ, ◌<◌, ◌≤◌, true, List, ◌∷◌}
use Rattle.sheet.specs.Types.{Fields}
use Rattle.sheet.specs.Encode.{encode}
use Rattle.sheet.specs.Read.{read}
use Rattle.sheet.specs.Refusals.{Condition, conditions, refusal}
use Rattle.sheet.specs.Carried.{Carried}
use Rattle.sheet.specs.Holds.{Plain}

-- encoding what is read from accepted bytes gives them back
abbrev pub AcceptedEncode : Type 0
AcceptedEncode = (s : List ℕ) → Plain s → refusal s ≡ 0 → encode (read s) ≡ s

-- reading the encoding of types that may be carried gives them back
abbrev pub CarriedRead : Type 0
CarriedRead = (t : Fields) → Carried t → read (encode t) ≡ t

-- the encoding of types that may be carried is accepted
abbrev pub CarriedAccepted : Type 0
CarriedAccepted = (t : Fields) → Carried t → refusal (encode t) ≡ 0

-- the types of an accepted sheet may be carried
abbrev pub AcceptedCarried : Type 0
AcceptedCarried = (s : List ℕ) → Plain s → refusal s ≡ 0 → Carried (read s)

-- "two accepted sheets that list the same types are the same bytes"
abbrev pub AcceptedSame : Type 0
AcceptedSame = (s s' : List ℕ) → Plain s → Plain s' → refusal s ≡ 0 → refusal s' ≡ 0 → read s ≡ read s' → s ≡ s'

-- a condition of a list is met, and k is its number
pub data Applies : List Condition → ℕ → Type 0 where
  here : {c : Condition} {cs : List Condition} → c.met ≡ true → Applies (c ∷ cs) c.number
  later : {c : Condition} {cs : List Condition} {k : ℕ} → Applies cs k → Applies (c ∷ cs) k

-- "Where several conditions are met, the lowest number that applies is given.": the refusal number of bytes is that of
-- a condition that is met, and where conditions are met it is not 0 and not above the number of any
abbrev pub Lowest : Type 0
Lowest = (s : List ℕ) → (0 < refusal s → Applies (conditions s) (refusal s)) × ((k : ℕ) → Applies (conditions s) k → (0 < refusal s) × (refusal s ≤ k))
