-- What a call answers, from the answer on types, and back. Assumes nothing.
use mathlib.Core.Path.{◌≡◌, refl, ap, sym, ◌∙◌}
use mathlib.Core.HLevel.{Discrete, hedberg}
use mathlib.Core.Bool.{Bool, true, false}
use mathlib.Core.List.{List, is_set}
use Rattle.std.specs.Prelude.{Some}
use Prim.Native.Nat.{ℕ, ◌+◌, ◌/◌, ◌%◌, ◌<◌}
use native.Mathlib.Nat.{ℕ_set}
use native.Mathlib.Decide.{ℕ_discrete}
use native.Mathlib.Omega.{arith}
use lib.ListN.{length, take, drop, get_or}
use lib.Seq.{take-append_seam}
use Rattle.sheet.specs.Types.{Zone, absent, present, Fields, end, field, count, labels}
use Rattle.sheet.specs.Encode.{records, encode, flags_of, quad_of}
use Rattle.sheet.specs.Read.{read}
use Rattle.coercion.specs.Data.{DataType, single, types_of, plain, for_list}
use Rattle.coercion.specs.Answers.{answer_of, type_union_resolution}
use Rattle.coercion.specs.declared.Figures.{Figures}
use Rattle.coercion.specs.declared.Question.{Question}
use Rattle.answers.specs.Call.{Call, Reply, refused, nothing, written, Outcome, settled, rules_of, answer, outcome}
use Rattle.answers.specs.LeastType.{Asks, Answers}

abbrev pub reply_number : Reply → ℕ
reply_number (refused n) = n
reply_number nothing = 0
reply_number (written n) = n

abbrev pub reply_kind : Reply → ℕ
reply_kind (refused n) = 1
reply_kind nothing = 2
reply_kind (written n) = 3

reply_discrete : Discrete Reply
reply_discrete = go
  where
    same : {n m : ℕ} (make : ℕ → Reply) → ((n m : ℕ) → make n ≡ make m → n ≡ m) → Dec (n ≡ m) → Dec (make n ≡ make m)
    same make back (yes e) = yes (ap make e)
    same {n} {m} make back (no ne) = no (λ e. ne (back n m e))

    go : (a b : Reply) → Dec (a ≡ b)
    go (refused n) (refused m) = same refused (λ n m e. ap reply_number e) (ℕ_discrete n m)
    go (refused n) nothing = no (λ e. let q : ◌≡◌ {A = ℕ} 1 2 = ap reply_kind e in omega arith)
    go (refused n) (written m) = no (λ e. let q : ◌≡◌ {A = ℕ} 1 3 = ap reply_kind e in omega arith)
    go nothing (refused m) = no (λ e. let q : ◌≡◌ {A = ℕ} 2 1 = ap reply_kind e in omega arith)
    go nothing nothing = yes refl
    go nothing (written m) = no (λ e. let q : ◌≡◌ {A = ℕ} 2 3 = ap reply_kind e in omega arith)
    go (written n) (refused m) = no (λ e. let q : ◌≡◌ {A = ℕ} 3 1 = ap reply_kind e in omega arith)
    go (written n) nothing = no (λ e. let q : ◌≡◌ {A = ℕ} 3 2 = ap reply_kind e in omega arith)
    go (written n) (written m) = same written (λ n m e. ap reply_number e) (ℕ_discrete n m)

-- that a call answers a type has one proof
pub answers_prop : (c : Call) (t : DataType) → IsProp (Answers c t)
answers_prop c t a b =
    λ i. record { reply = hedberg reply_discrete _ _ a.reply b.reply i; bytes = is_set ℕ_set _ _ a.bytes b.bytes i }

-- the outcome of a list call whose types have an answer
pub outcome_of : (c : Call) (ts : List DataType) (t : DataType) → Asks c ts → type_union_resolution (for_list (rules_of c)) ts ≡ Some t → outcome c ≡ settled c (Some t)
unfolding outcome
outcome_of c ts t a h =
    let e : answer c ≡ Some t =
    ap (λ (q : Question). answer_of q (record { question = q; mask = c.mask }) (types_of (read c.sheet))) a.question
    ∙ ap (type_union_resolution (for_list (rules_of c))) a.reads ∙ h in
    rw a.unrefused (ap (settled c) e)

-- a call answers what its types have for an answer
pub answers_of : (c : Call) (ts : List DataType) (t : DataType) → Asks c ts → type_union_resolution (for_list (rules_of c)) ts ≡ Some t → Answers c t
answers_of c ts t a h =
    let e = outcome_of c ts t a h in
    record {
      reply = ap (λ (o : Outcome). o.reply) e;
      bytes =
          ap (λ (o : Outcome). take (length (encode (single t))) o.output) e
          ∙ take-append_seam (encode (single t)) (drop (length (encode (single t))) c.output);
    }

no_count : (p : Fields) → count p ≡ 0 → p ≡ end
unfolding count
no_count end h = refl
no_count (field name nullable shape parts rest) h = absurd (omega arith)

no_flags : (b : Bool) (z : Zone) → flags_of false b z ≡ 0 → (b ≡ false) × (z ≡ absent)
no_flags false absent h = (refl, refl)
no_flags true absent h = absurd (omega arith)
no_flags false (present z) h = absurd (omega arith)
no_flags true (present z) h = absurd (omega arith)

byte_zero : (x : ℕ) → x < 256 → x % 256 ≡ 0 → x ≡ 0
byte_zero x h e = omega arith

quad_zero : (q : ℕ) → q % 256 ≡ 0 → q / 256 % 256 ≡ 0 → q / 65536 % 256 ≡ 0 → q / 16777216 ≡ 0 → q ≡ 0
quad_zero q a b c d =
    let f : q / 65536 ≡ 0 = byte_zero (q / 65536) (omega arith) c in
    let g : q / 256 ≡ 0 = byte_zero (q / 256) (omega arith) b in
    byte_zero q (omega arith) a

-- the bytes of a type of figures alone are those of no other type, of a sheet or not
pub single_back : (a : DataType) (g : Figures) → encode (single a) ≡ encode (single (plain g)) → a ≡ plain g
unfolding encode records count labels
single_back a g e =
    let byte : (i : ℕ) → get_or (encode (single a)) i 0 ≡ get_or (encode (single (plain g))) i 0 = λ i. ap (λ (s : List ℕ). get_or s i 0) e in
    let n₀ : (1 + (1 + (count a.parts + 0))) % 256 ≡ 2 = byte 0 in
    let n₁ : (1 + (1 + (count a.parts + 0))) / 256 ≡ 0 = byte 1 in
    let parts : a.parts ≡ end = no_count a.parts (omega arith) in
    let kind : a.shape.kind ≡ g.kind = byte 16 in
    let flags = no_flags a.shape.sorted a.shape.zone (byte 17) in
    let figure : a.shape.figure ≡ g.figure = byte 18 in
    let scale : a.shape.scale ≡ g.scale = byte 19 in
    let quad : quad_of 0 a.shape.size a.shape.zone ≡ a.shape.size = ap (quad_of 0 a.shape.size) flags.1 in
    let q₀ : quad_of 0 a.shape.size a.shape.zone % 256 ≡ 0 = byte 20 in
    let q₁ : quad_of 0 a.shape.size a.shape.zone / 256 % 256 ≡ 0 = byte 21 in
    let q₂ : quad_of 0 a.shape.size a.shape.zone / 65536 % 256 ≡ 0 = byte 22 in
    let q₃ : quad_of 0 a.shape.size a.shape.zone / 16777216 ≡ 0 = byte 23 in
    let size : a.shape.size ≡ 0 = sym quad ∙ quad_zero _ q₀ q₁ q₂ q₃ in
    λ i. record {
      shape = record { kind = kind i; figure = figure i; scale = scale i; size = size i; sorted = flags.0 i; zone = flags.1 i };
      parts = parts i;
    }

-- so a call that answers a type of figures alone answers no other
pub answers_one : (c : Call) (g : Figures) (a : DataType) → Answers c (plain g) → Answers c a → a ≡ plain g
answers_one c g a own other =
    let n : length (encode (single a)) ≡ length (encode (single (plain g))) = ap reply_number (sym other.reply ∙ own.reply) in
    single_back a g (sym other.bytes ∙ ap (λ (k : ℕ). take k (outcome c).output) n ∙ own.bytes)
