-- What a list of types is asked before it is folded. Assumes nothing.
use mathlib.Core.Path.{◌≡◌, refl, ap, sym, ◌∙◌}
use mathlib.Core.Bool.{Bool, true, false, cond, not, ◌&&◌, ◌||◌, or-false, or_assoc}
use mathlib.Core.List.{List, [], ◌∷◌}
use Prim.Native.Nat.{ℕ, zero, suc, ◌+◌, ◌*◌, ◌<◌, ◌≤◌}
use native.Mathlib.Omega.{arith}
use lib.Bits.{bit_or}
use lib.Count.{ones, ones_in}
use lib.Dec.{ltb, eqb, leb-zero}
use borrow.Author.Tests.{eqb-true, lt-ltb, lt-leb}
use Rattle.sheet.specs.Booleans.{between}
use Rattle.sheet.specs.Types.{Shape, Fields, end, field}
use Rattle.sheet.specs.Head.{head_at}
use Rattle.sheet.specs.declared.Head.{Head}
use Rattle.sheet.proofs.Booleans.{and_fst, and_snd}
use Rattle.coercion.specs.Data.{DataType, types_of}
use Rattle.coercion.specs.Rules.{is_null}
use Rattle.coercion.specs.Same.{equal}
use Rattle.coercion.specs.Answers.{Category, array, boolean, numeric, dateTime, composite, unknown, notSupported, own_category, category_of, is_category, has_category, as_number, categories_in, categories_fit, all_equal}
use Rattle.coercion.specs.Meaning.{category_bit, is_supported}
use Rattle.resolution.proofs.CoreKinds.{CoreFound}
use Rattle.buffers.specs.Differ.{DifferTypes}
use Rattle.buffers.specs.Typed.{Typed}
use Rattle.buffers.specs.declared.Space.{Space}
use Rattle.buffers.proofs.Differing.{type_same}
use Rattle.buffers.proofs.Sources.{link_inside}
use Rattle.buffers.proofs.Chained.{held_next}
use Rattle.merge.proofs.Merging.{typed_differs, chain_some}
use Rattle.resolution.specs.Reached.{ListedTypes, category_bits, seen_bits}

-- the answer to a question on whatever types stand at a link past floor
abbrev pub Tells : {A : Type 0} → (List DataType → A) → Space → List ℕ → ℕ → ℕ → A → Type 0
Tells F space s floor link a = (ts : Fields) → ListedTypes space s floor link ts → a ≡ F (types_of ts)

-- what the types that are left tell of G is what all of them tell of F
abbrev pub Onward : {A : Type 0} → (List DataType → A) → (List DataType → A) → Space → List ℕ → ℕ → ℕ → ℕ → ℕ → Type 0
Onward {A} F G space s floor link last at = (a : A) → Tells G space s last at a → Tells F space s floor link a

-- the first of the listed types
pub listed_typed : {space : Space} {s : List ℕ} {floor link : ℕ} {name : List ℕ} {nullable : Bool} {shape : Shape} {parts rest : Fields}
    → ListedTypes space s floor link (field name nullable shape parts rest) → Typed space s link (record { shape = shape; parts = parts })
listed_typed l =
    record { name = _; nullable = _; rest = _; chain = record { floor = _; at = l.at; label = l.label; up = 0; held = l.held } }

-- those behind it
pub listed_next : {space : Space} {s : List ℕ} {floor link : ℕ} {name : List ℕ} {nullable : Bool} {shape : Shape} {parts rest : Fields}
    → ListedTypes space s floor link (field name nullable shape parts rest) → (h : Head) → h ≡ head_at s link → ListedTypes space s link h.next rest
listed_next l h e = record { at = _; label = _; held = held_next l.held h e }

module _ {A : Type 0} (F : List DataType → A) (space : Space) (s : List ℕ) (floor link : ℕ) (a : A) where
  pub tells_none : link ≤ floor → a ≡ F [] → Tells F space s floor link a
  unfolding types_of
  tells_none h e end l = e
  tells_none h e (field name nullable shape parts rest) l = absurd (omega (arith, l.held.source.leads.is, l.held.source.leads.above))

  module _ (past : floor < link) where
    pub tells_past : space.n ≤ link → Tells F space s floor link a
    tells_past h end l = absurd (omega (arith, l.held.source.leads.is))
    tells_past h (field name nullable shape parts rest) l = absurd (omega (arith, link_inside l.held.source))

    pub tells_first : ((t : DataType) (ts : List DataType) → Typed space s link t → a ≡ F (t ∷ ts)) → Tells F space s floor link a
    unfolding types_of
    tells_first f end l = absurd (omega (arith, l.held.source.leads.is))
    tells_first f (field name nullable shape parts rest) l = f _ (types_of rest) (listed_typed l)

    pub tells_next : (h : Head) → h ≡ head_at s link → (G : List DataType → A) → Tells G space s link h.next a
        → ((t : DataType) (ts : List DataType) → Typed space s link t → G ts ≡ F (t ∷ ts)) → Tells F space s floor link a
    unfolding types_of
    tells_next h e G g f end l = absurd (omega (arith, l.held.source.leads.is))
    tells_next h e G g f (field name nullable shape parts rest) l = g rest (listed_next l h e) ∙ f _ (types_of rest) (listed_typed l)

-- whether two types are the same, by the record at which they first differ
pub differ_equal : {space : Space} {s t : List ℕ} {link other d : ℕ} → DifferTypes s space.n link t space.n other true d → (x c : DataType) → Typed space s link x
    → Typed space t other c → eqb d 0 ≡ equal x c
differ_equal {link = link} f x c a b = ap (λ (e : ℕ). eqb e 0) (typed_differs true f a b) ∙ type_same true link x c (chain_some a.chain)

-- whether the types are all the same as a first
pub equal_none : (space : Space) (s : List ℕ) (floor link : ℕ) → link ≤ floor → (t : DataType) → Tells (all_equal t) space s floor link true
equal_none space s floor link h t = tells_none (all_equal t) space s floor link true h refl

module _ (space : Space) (s : List ℕ) (first floor link : ℕ) (past : floor < link) {e : Bool}
    (same : (u t : DataType) → Typed space s link u → Typed space s first t → e ≡ equal u t) (t : DataType) (x : Typed space s first t) where
  pub equal_on : (h : Head) → h ≡ head_at s link → (b : Bool) → e ≡ true → Tells (all_equal t) space s link h.next b → Tells (all_equal t) space s floor link b
  equal_on h eh b z k =
      tells_next (all_equal t) space s floor link b past h eh (all_equal t) k (λ u us y. rw (sym (same u t y x) ∙ z))

  pub equal_not : e ≡ false → Tells (all_equal t) space s floor link false
  equal_not z = tells_first (all_equal t) space s floor link false past (λ u us y. rw (sym (same u t y x) ∙ z))

-- the category of a type, by the kind that was found for it
abbrev category : DataType → Category
category t = category_of t.shape t.parts

found_category : {space : Space} {s : List ℕ} {link : ℕ} {t : DataType} (k : ℕ) → CoreFound s space.n link k → Typed space s link t → own_category k ≡ category t
found_category k f x = f _ _ _ _ _ _ _ _ x.chain.held.source.leads

-- Null is of the category Unknown, so that to leave it out changes nothing
null_unknown : (shape : Shape) (parts : Fields) → shape.kind ≡ 1 → category_of shape parts ≡ unknown
unfolding category_of between
null_unknown shape end h = rw h
null_unknown shape (field n b s p end) h = rw h
null_unknown shape (field n b s p (field n₂ b₂ s₂ p₂ rest)) h = rw h

not_null : (c : Category) (t : DataType) → is_category c unknown ≡ false → not (is_null t) && is_category c (category t) ≡ is_category c (category t)
not_null c t h = go (is_null t) refl
  where
    go : (b : Bool) → is_null t ≡ b → not b && is_category c (category t) ≡ is_category c (category t)
    go true e = sym (ap (is_category c) (null_unknown t.shape t.parts (eqb-true _ _ e)) ∙ h)
    go false e = refl

-- a list has a category if its first type has it or those behind it have
has_next : (c : Category) (t : DataType) (ts : List DataType) → is_category c unknown ≡ false → has_category c (t ∷ ts) ≡ (is_category c (category t) || has_category c ts)
unfolding has_category
has_next c t ts h = ap (λ (b : Bool). b || has_category c ts) (not_null c t h)

none_supported : (c : Category) → is_category notSupported c ≡ not (is_supported c)
none_supported array = refl
none_supported boolean = refl
none_supported numeric = refl
none_supported dateTime = refl
none_supported composite = refl
none_supported unknown = refl
none_supported notSupported = refl

-- whether a type has no category
module _ (space : Space) (s : List ℕ) (floor link : ℕ) (past : floor < link) (k : ℕ) (f : CoreFound s space.n link k) {e : Bool} (es : e ≡ is_supported (own_category k)) where
  first_is : {b : Bool} (t : DataType) (ts : List DataType) → e ≡ b → Typed space s link t → has_category notSupported (t ∷ ts) ≡ (not b || has_category notSupported ts)
  first_is t ts z x =
      has_next notSupported t ts refl
      ∙ ap (λ (b : Bool). b || has_category notSupported ts) (none_supported (category t) ∙ ap not (ap is_supported (sym (found_category k f x)) ∙ sym es ∙ z))

  -- a type of a category adds its bit
  pub seen_on : (bits : ℕ) (h : Head) → h ≡ head_at s link → (more : ℕ) → more ≡ bit_or bits (category_bit (own_category k)) → e ≡ true → (r : ℕ)
      → Tells (seen_bits more) space s link h.next r → Tells (seen_bits bits) space s floor link r
  unfolding seen_bits category_bits
  seen_on bits h eh more em z r g =
      tells_next (seen_bits bits) space s floor link r past h eh (seen_bits more) g
      (λ t ts x.
      ap (λ (m : ℕ). cond (has_category notSupported ts) 255 (category_bits m ts)) (em ∙ ap (λ (c : Category). bit_or bits (category_bit c)) (found_category k f x))
      ∙ ap (λ (b : Bool). cond b 255 (category_bits bits (t ∷ ts))) (sym (first_is t ts z x)))

  -- one of none says all
  pub seen_here : (bits : ℕ) → e ≡ false → Tells (seen_bits bits) space s floor link 255
  unfolding seen_bits
  seen_here bits z =
      tells_first (seen_bits bits) space s floor link 255 past (λ t ts x. ap (λ (b : Bool). cond b 255 (category_bits bits (t ∷ ts))) (sym (first_is t ts z x)))

pub seen_none : (space : Space) (s : List ℕ) (floor link bits : ℕ) → link ≤ floor → Tells (seen_bits bits) space s floor link bits
unfolding seen_bits category_bits has_category
seen_none space s floor link bits h = tells_none (seen_bits bits) space s floor link bits h refl

-- a fact of each flag, and of each five flags, by one computed test
abbrev every : (Bool → Bool) → Bool
every f = f true && f false

each : (f : Bool → Bool) → every f ≡ true → (b : Bool) → f b ≡ true
each f h true = and_fst (f true) (f false) h
each f h false = and_snd (f true) (f false) h

abbrev every_five : (Bool → Bool → Bool → Bool → Bool → Bool) → Bool
every_five f = every (λ a. every (λ b. every (λ c. every (λ d. every (λ e. f a b c d e)))))

each_five : (f : Bool → Bool → Bool → Bool → Bool → Bool) → every_five f ≡ true → (a b c d e : Bool) → f a b c d e ≡ true
each_five f h a b c d =
    each (λ e. f a b c d e)
    (each (λ d. every (λ e. f a b c d e))
    (each (λ c. every (λ d. every (λ e. f a b c d e)))
    (each (λ b. every (λ c. every (λ d. every (λ e. f a b c d e))))
    (each (λ a. every (λ b. every (λ c. every (λ d. every (λ e. f a b c d e))))) h a) b) c) d)

-- the five categories as bits, and how many there are
abbrev packed : Bool → Bool → Bool → Bool → Bool → ℕ
packed a b c d e = as_number a + (2 * as_number b + (4 * as_number c + (8 * as_number d + 16 * as_number e)))

abbrev total : Bool → Bool → Bool → Bool → Bool → ℕ
total a b c d e = as_number a + (as_number b + (as_number c + (as_number d + as_number e)))

abbrev joined : Category → Bool → Bool → Bool → Bool → Bool → ℕ
joined x a b c d e = packed (a || is_category array x) (b || is_category boolean x) (c || is_category numeric x) (d || is_category dateTime x) (e || is_category composite x)

abbrev joins : Category → Bool → Bool → Bool → Bool → Bool → Bool
joins x a b c d e = eqb (bit_or (packed a b c d e) (category_bit x)) (joined x a b c d e)

pack_join : (x : Category) (a b c d e : Bool) → bit_or (packed a b c d e) (category_bit x) ≡ joined x a b c d e
pack_join x a b c d e = eqb-true _ _ (each_five (joins x) (go x) a b c d e)
  where
    go : (x : Category) → every_five (joins x) ≡ true
    go array = refl
    go boolean = refl
    go numeric = refl
    go dateTime = refl
    go composite = refl
    go unknown = refl
    go notSupported = refl

pack_ones : (a b c d e : Bool) → ones (packed a b c d e) ≡ total a b c d e
unfolding ones ones_in
pack_ones a b c d e = eqb-true _ _ (each_five (λ a b c d e. eqb (ones (packed a b c d e)) (total a b c d e)) refl a b c d e)

packed_same : {a b c d e a' b' c' d' e' : Bool} → a ≡ a' → b ≡ b' → c ≡ c' → d ≡ d' → e ≡ e' → packed a b c d e ≡ packed a' b' c' d' e'
packed_same p q r s t = rw (p, q, r, s, t)

-- the bits of a list are the categories that it has, with those that were seen before
or_next : (c : Category) (a : Bool) (t : DataType) (ts : List DataType) → is_category c unknown ≡ false
    → (a || is_category c (category t) || has_category c ts) ≡ (a || has_category c (t ∷ ts))
or_next c a t ts h = or_assoc a (is_category c (category t)) (has_category c ts) ∙ ap (λ (b : Bool). a || b) (sym (has_next c t ts h))

bits_are : (a b c d e : Bool) (ts : List DataType)
    → category_bits (packed a b c d e) ts
    ≡ packed (a || has_category array ts) (b || has_category boolean ts) (c || has_category numeric ts) (d || has_category dateTime ts) (e || has_category composite ts)
unfolding category_bits has_category
bits_are a b c d e [] = packed_same (sym (or-false a)) (sym (or-false b)) (sym (or-false c)) (sym (or-false d)) (sym (or-false e))
bits_are a b c d e (t ∷ ts) =
    ap (λ (m : ℕ). category_bits m ts) (pack_join (category t) a b c d e)
    ∙ bits_are (a || is_category array (category t)) (b || is_category boolean (category t)) (c || is_category numeric (category t)) (d || is_category dateTime (category t))
    (e || is_category composite (category t)) ts
    ∙ packed_same (or_next array a t ts refl) (or_next boolean b t ts refl) (or_next numeric c t ts refl) (or_next dateTime d t ts refl) (or_next composite e t ts refl)

ones_are : (ts : List DataType) → ones (category_bits 0 ts) ≡ categories_in ts
unfolding categories_in
ones_are ts =
    ap ones (bits_are false false false false false ts)
    ∙ pack_ones (has_category array ts) (has_category boolean ts) (has_category numeric ts) (has_category dateTime ts) (has_category composite ts)

one_at_most : (n : ℕ) → not (ltb 1 n) ≡ between 0 1 n
unfolding between
one_at_most zero = refl
one_at_most (suc zero) = refl
one_at_most (suc (suc n)) = rw (lt-ltb 1 (suc (suc n)) (omega arith), lt-leb (suc (suc n)) 1 (omega arith), leb-zero (suc (suc n)))

-- whether the categories allow an answer
fit_bits : (ts : List DataType) → not (ltb 1 (ones (seen_bits 0 ts))) ≡ categories_fit ts
unfolding seen_bits ones ones_in
fit_bits ts = go (has_category notSupported ts)
  where
    go : (u : Bool) → not (ltb 1 (ones (cond u 255 (category_bits 0 ts)))) ≡ cond u false (between 0 1 (categories_in ts))
    go true = refl
    go false = ap (λ (x : ℕ). not (ltb 1 x)) (ones_are ts) ∙ one_at_most (categories_in ts)

pub fitting : (space : Space) (s : List ℕ) (link bits : ℕ) → Tells (seen_bits 0) space s 0 link bits → (m : Bool) → m ≡ ltb 1 (ones bits) → Tells categories_fit space s 0 link (not m)
fitting space s link bits g m em ts l = ap not (em ∙ ap (λ (x : ℕ). ltb 1 (ones x)) (g ts l)) ∙ fit_bits (types_of ts)
