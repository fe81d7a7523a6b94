-- What the search for two equal names in one Struct goes by.
use Rattle.std.specs.Prelude.{◌≡◌, ℕ, zero, suc, ◌+◌, ◌<◌, ◌≤◌, Bool, true, false, ◌&&◌, List, eqb, length, get_or, Option, None, Some, Result, Ok, Err, OnErr}
use Rattle.sheet.specs.Types.{Fields, end, field}
use Rattle.sheet.specs.Head.{head_at}
use Rattle.sheet.specs.Read.{label_at}
use Rattle.sheet.specs.Names.{repeats, mixed}
use Rattle.sheet.specs.Holds.{Leads}
use Rattle.sheet.specs.declared.kind.TheConstants as Kind
use Rattle.refusals.specs.declared.repeated_names.Unsure.{Unsure}

-- two equal ones among several, by their places; or none, where all differ; or neither is known
abbrev pub Pair : Type 0
Pair = Result (Option (ℕ × ℕ)) Unsure

-- the name of record r
abbrev pub record_name : List ℕ → ℕ → ℕ → List ℕ
record_name s n r = label_at s n (head_at s r).name (head_at s r).name_len

-- the name of the record at place i of several
abbrev pub name_at : List ℕ → ℕ → List ℕ → ℕ → List ℕ
name_at s n recs i = record_name s n (get_or recs i 0)

-- the record at place i of the chain that a link leads to
unfoldable pub placed : List ℕ → ℕ → ℕ → ℕ
placed s link zero = link
placed s link (suc i) = (head_at s (placed s link i)).next

-- the first of the places below k at which x stands, if there is one
abbrev pub First : {A : Type 0} → (ℕ → A) → A → ℕ → Option ℕ → Type 0
First f x k (Some r) = (r < k) × (((i : ℕ) → i < r → f i ≡ x → ⊥) × (f r ≡ x))
First f x k None = (i : ℕ) → i < k → f i ≡ x → ⊥

-- what is said of the first k of several holds
abbrev pub FindsEqual : {A : Type 0} → (ℕ → A) → ℕ → Pair → Type 0
FindsEqual f k (Ok (Some p)) = (p.0 < p.1) × ((p.1 < k) × (f p.0 ≡ f p.1))
FindsEqual f k (Ok None) = (a b : ℕ) → a < b → b < k → f a ≡ f b → ⊥
FindsEqual f k (Err _) = Unit

-- b says whether two of the first k of several are equal
abbrev pub HasEqual : {A : Type 0} → (ℕ → A) → ℕ → Bool → Type 0
HasEqual f k b = (b ≡ false → FindsEqual f k (Ok None)) × (b ≡ true → FindsEqual f k (Ok None) → ⊥)

-- the names of a chain from place i on are those of f, k in all
abbrev pub Spells : (ℕ → List ℕ) → ℕ → ℕ → Fields → Type 0
Spells f k i end = i ≡ k
Spells f k i (field name nullable shape parts rest) = (name ≡ f i) × Spells f k (i + 1) rest

-- recs begins with the k records of the chain that a link leads to, where it has room for more
pub record ListedRecords (s : List ℕ) (n floor link : ℕ) (recs : List ℕ) (k : ℕ) : Type 0 where
  pub room : k ≤ length recs
  pub whole : k < length recs → (r o : ℕ) (t : Fields) → Leads s n floor link r o t → Spells (name_at s n recs) k 0 t

-- whether a chain repeats a name, as far as it is known
abbrev pub Known : Pair → Bool → Type 0
Known (Ok (Some _)) w = true ≡ w
Known (Ok None) w = false ≡ w
Known (Err _) w = Unit

-- it is known of the chain that a link leads to, unless it has more than most names
pub record Compared (s : List ℕ) (n floor link most : ℕ) (p : Pair) : Type 0 where
  pub known : (r o : ℕ) (t : Fields) → Leads s n floor link r o t → Known p (repeats t)
  pub short : OnErr p (most < n)

-- b says whether the chain that a link leads to repeats a name
abbrev pub Repeats : List ℕ → ℕ → ℕ → ℕ → Bool → Type 0
Repeats s n floor link b = (r o : ℕ) (t : Fields) → Leads s n floor link r o t → b ≡ repeats t

-- the number of a name
abbrev pub name_number : List ℕ → ℕ
name_number name = mixed 0 name

-- the numbers of the names of the first k of several records
pub record Numbered (s : List ℕ) (n : ℕ) (recs : List ℕ) (k : ℕ) (numbers : List ℕ) : Type 0 where
  pub each : (i : ℕ) → i < k → get_or numbers i 0 ≡ name_number (name_at s n recs i)

-- b says whether record r is a Struct with two fields of one name
abbrev pub StructRepeats : List ℕ → ℕ → ℕ → Bool → Type 0
StructRepeats s n r b = (k o : ℕ) (t : Fields) → Leads s n r (head_at s r).first k o t → b ≡ (eqb (head_at s r).kind Kind.STRUCT && repeats t)
