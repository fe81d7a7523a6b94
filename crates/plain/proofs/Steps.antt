-- The returns of the rules for types without parts. Assumes nothing.
use mathlib.Core.Path.{◌≡◌, refl, ap, ap₂, sym, subst, ◌∙◌}
use mathlib.Core.Bool.{Bool, true, false, ◌&&◌}
use Rattle.std.specs.Prelude.{Option}
use Prim.Native.Nat.{ℕ, ◌<◌}
use native.Mathlib.Omega.{arith}
use lib.Dec.{eqb}
use borrow.Author.Tests.{ne_eqb}
use Rattle.sheet.specs.declared.kind.TheConstants as Kind
use Rattle.sheet.specs.Kind.{is_kind, is_string, is_date, is_time}
use Rattle.sheet.specs.Types.{Zone, absent, present}
use Rattle.sheet.specs.Booleans.{between}
use Rattle.sheet.specs.declared.Head.{Head}
use Rattle.sheet.proofs.Booleans.{never}
use Rattle.coercion.specs.declared.Figures.{Figures}
use Rattle.coercion.specs.Data.{DataType, as_type, is_list_question}
use Rattle.coercion.specs.Times.{is_time_with_valid_unit, zone_coercion, temporal_coercion, temporal_coercion_nonstrict_timezone}
use Rattle.coercion.specs.Rules.{time_of_string, string_temporal_coercion}
use Rattle.coercion.specs.Answers.{of_kind_type}
use Rattle.coercion.proofs.Maybe.{cond_is}
use Rattle.coercion.proofs.Ranked.{kind_from}
use Rattle.coercion.specs.declared.Question.{Question}
use Rattle.plain.proofs.Moments.{left_string, right_string, no_string}
use Rattle.plain.specs.Plain.{string_time}
use Rattle.plain.specs.Steps.{Reads, Figured, KeepsZone}

-- a kind is below 64
pub kind_low : {h : Figures} {t : DataType} → Figured h t → h.kind < 64
unfolding is_kind
kind_low {h} {t} a = omega (arith, a.kind, (kind_from 1 38 t.shape.kind a.known).1)

-- the figures of a head
pub reads_figured : {h : Head} {t : DataType} {f : Figures} → f ≡ record { kind = h.kind; figure = h.figure; scale = h.scale } → Reads h t → Figured f t
reads_figured {t = t} e a =
    subst (λ (f : Figures). Figured f t) (sym e) (record { kind = a.kind; figure = a.figure; scale = a.scale; known = a.known; bare = a.bare })

-- a rule that looks at kinds
pub kinds_read : (rule : ℕ → ℕ → Option ℕ) {o : Option DataType} {f : Option ℕ} {k j a b : ℕ} → o ≡ of_kind_type f → f ≡ rule k j → a ≡ k → b ≡ j
    → o ≡ of_kind_type (rule a b)
kinds_read rule e f p q = e ∙ ap of_kind_type (f ∙ sym (ap₂ rule p q))

-- times that are not both Timestamps
pub times_read : (l r : DataType) {k j : ℕ} → l.shape.kind ≡ k → r.shape.kind ≡ j → eqb k Kind.TIMESTAMP && eqb j Kind.TIMESTAMP ≡ false
    → temporal_coercion_nonstrict_timezone l r ≡ as_type (temporal_coercion k j)
unfolding temporal_coercion_nonstrict_timezone
times_read l r p q h = rw (p, q, h)

-- only a Timestamp has a zone
no_zone : {h : Figures} {t : DataType} (lo hi : ℕ) → Figured h t → 22 < lo → between lo hi t.shape.kind ≡ true → t.shape.zone ≡ absent
no_zone {h} {t} lo hi a b e = let p = kind_from lo hi t.shape.kind e in a.bare (ne_eqb t.shape.kind 22 (λ e. omega arith))

zone_left : (z : Zone) → zone_coercion z absent ≡ z
zone_left absent = refl
zone_left (present z) = refl

-- a time that a string becomes keeps its zone
time_zone : (l r t : DataType) → t.shape.zone ≡ zone_coercion l.shape.zone r.shape.zone → KeepsZone l r (time_of_string t)
time_zone l r t h =
    let P = KeepsZone l r in
    cond_is P (is_date t.shape.kind) _ _ h
    (cond_is P (is_time t.shape.kind) _ _ (cond_is P (is_time_with_valid_unit t.shape.kind t.shape.figure) _ _ h tt)
    (cond_is P (eqb t.shape.kind Kind.TIMESTAMP) _ _ h tt))

-- and the string has none
pub string_zone : {x y : Figures} (l r : DataType) → Figured x l → Figured y r → KeepsZone l r (string_temporal_coercion l r)
string_zone l r p q = go (is_string l.shape.kind) refl (is_string r.shape.kind) refl
  where
    go : (a : Bool) → is_string l.shape.kind ≡ a → (b : Bool) → is_string r.shape.kind ≡ b → KeepsZone l r (string_temporal_coercion l r)
    go true e b f = rw (left_string l r e) (time_zone l r r (rw (no_zone 25 27 p (omega arith) e)))
    go false e true f = rw (right_string l r e f) (time_zone l r l (rw (no_zone 25 27 q (omega arith) f) (sym (zone_left l.shape.zone))))
    go false e false f = rw (no_string l r e f) tt

pub time_paired : (q : Question) (l r : DataType) → is_list_question q ≡ false → string_time q l r ≡ string_temporal_coercion l r
time_paired Question.List l r h = never (sym h)
time_paired Question.Union l r h = refl
time_paired Question.Compare l r h = refl
