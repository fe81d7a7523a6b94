-- The marked cases, as one table of calls: bytes in, bytes out. Assumes nothing.
use mathlib.Core.Path.{◌≡◌, refl, ap, sym, ◌∙◌}
use mathlib.Core.Bool.{Bool, true, false, cond, ◌||◌}
use mathlib.Core.List.{List, [], ◌∷◌, map, Memᴰ}
use Rattle.std.specs.Prelude.{Option, None, Some}
use Prim.Native.Nat.{ℕ, ◌+◌, ◌*◌}
use native.Mathlib.Omega.{arith}
use lib.Dec.{ltb, eqb}
use borrow.Author.Tests.{le-ltb, eqb-true, eq-eqb}
use lib.ListN.{length, take, drop, replicate}
use lib.Seq.{take_at}
use Rattle.sheet.specs.Booleans.{all_of, one_of, between}
use Rattle.sheet.specs.Kind.{is_kind, is_decimal, cap, sized, last_unit, parts_right, names_parts}
use Rattle.sheet.specs.Types.{arity, count, labels}
use Rattle.sheet.specs.Head.{head_at}
use Rattle.sheet.specs.Names.{same_bytes, has_name, repeats, names_differ}
use Rattle.sheet.specs.Encode.{records, encode}
use Rattle.sheet.specs.Read.{walk_from, read}
use Rattle.sheet.specs.Refusals as Sheet
use Rattle.coercion.specs.Data.{DataType, single, types_of, first_of}
use Rattle.coercion.specs.Numbers as Numbers
use Rattle.coercion.specs.Times as Times
use Rattle.coercion.specs.Strings as Strings
use Rattle.coercion.specs.Rules as Rules
use Rattle.coercion.specs.Same as Same
use Rattle.coercion.specs.Wrappers as Wrappers
use Rattle.coercion.specs.Nested as Nested
use Rattle.coercion.specs.Answers as Answers
use Rattle.answers.specs.Call.{bad_mask, bad_pair, bad_space, refusal, refused, nothing, written, Outcome, outcome, settled, answer}
use Rattle.answers.specs.Marked.{Entry, table, full_mask, call_with, seen, expected, Enough, MarkedCases, MarkedSpelled}

-- lent memory to compute with: three bytes more than are needed, filled
abbrev output₀ : Entry → List ℕ
output₀ e = replicate (length e.sheet + 3) 170

abbrev work₀ : Entry → List ℕ
work₀ e = replicate (2 * length e.sheet + 3) 85

-- each call of the table does what is expected
computed : map (λ e. outcome (call_with e (output₀ e) (work₀ e))) table ≡ map (λ e. expected e (output₀ e) (work₀ e)) table
unfolding all_of one_of between is_kind is_decimal cap sized last_unit parts_right names_parts arity count labels head_at same_bytes has_name repeats
    names_differ records encode walk_from read Sheet.torn Sheet.bad_kind Sheet.linked Sheet.bad_chain Sheet.met Sheet.decimal_right Sheet.figure_right
    Sheet.size_right Sheet.figures_right Sheet.record_right Sheet.any_wrong Sheet.bad_figure Sheet.label_right Sheet.misplaced Sheet.bad_label types_of
    first_of Numbers.get_wider_decimal_type Numbers.get_wider_decimal_type_cross_variant Numbers.coerce_numeric_type_to_decimal Numbers.get_common_decimal_type
    Numbers.decimal_coercion Numbers.numerical_coercion Numbers.binary_numeric_coercion Times.temporal_coercion Times.temporal_coercion_nonstrict_timezone
    Times.is_time_with_valid_unit Strings.string_coercion Strings.binary_coercion Rules.null_coercion Rules.string_numeric_coercion
    Rules.string_numeric_union_coercion Rules.string_temporal_coercion Same.same_zone Same.same_shape Same.same_fields Same.same_type Wrappers.wrapper_coercion
    Nested.join_fields Nested.fields_have_same_names Nested.with_name Nested.by_name Nested.partners Nested.struct_coercion Nested.list_coercion
    Nested.map_coercion Answers.coerce_in Answers.coercion Answers.category_of Answers.has_category
    Answers.categories_in Answers.fold_from Answers.fold_types Answers.type_union_resolution bad_mask bad_pair bad_space refusal outcome
computed = refl

-- what two functions say of a list alike, they say alike of each entry
at_each : {A B : Type 0} (f g : A → B) (as' : List A) → map f as' ≡ map g as' → (a : A) → Memᴰ a as' → f a ≡ g a
at_each f g [] e a x'' = elim x'' [ ]
at_each f g (x ∷ xs) e a (Memᴰ.head p) = let q : f x ≡ g x = cc in cc
at_each f g (x ∷ xs) e a (Memᴰ.tail m) = let q : map f xs ≡ map g xs = cc in at_each f g xs q a m

-- the lowest number of eight conditions
abbrev lowest : Bool → Bool → Bool → Bool → Bool → Bool → Bool → Bool → ℕ
lowest a b c d e f g x = cond a 1 (cond b 2 (cond c 3 (cond d 4 (cond e 5 (cond f 6 (cond g 7 (cond x 8 0)))))))

-- the refusals do not look at lent memory apart from its lengths
refusal_lent : (e : Entry) (o w o' w' : List ℕ) → Enough e.sheet o' w' → refusal (call_with e o w) ≡ 0 → refusal (call_with e o' w') ≡ 0
unfolding refusal bad_space
refusal_lent e o w o' w' n h =
    go (Sheet.torn e.sheet) (Sheet.bad_kind e.sheet) (Sheet.bad_chain e.sheet) (Sheet.bad_figure e.sheet) (Sheet.bad_label e.sheet)
    (bad_mask full_mask) (bad_pair e.question e.sheet) (ltb (length o) (length e.sheet) || ltb (length w) (2 * length e.sheet))
    (ltb (length o') (length e.sheet) || ltb (length w') (2 * length e.sheet))
    (rw (le-ltb (length o') (length e.sheet) n.output) (le-ltb (length w') (2 * length e.sheet) n.work)) h
  where
    go : (a b c d e f g x y : Bool) → y ≡ false
        → lowest a b c d e f g x ≡ 0 → lowest a b c d e f g y ≡ 0
    go true b c d e f g x y i h = absurd (omega arith)
    go false true c d e f g x y i h = absurd (omega arith)
    go false false true d e f g x y i h = absurd (omega arith)
    go false false false true e f g x y i h = absurd (omega arith)
    go false false false false true f g x y i h = absurd (omega arith)
    go false false false false false true g x y i h = absurd (omega arith)
    go false false false false false false true x y i h = absurd (omega arith)
    go false false false false false false false x y i h = rw i

-- an answer that was seen in one output and work space is seen in each
settled_lent : (e : Entry) (o w o' w' : List ℕ) (a : Option DataType) (b : Option (List ℕ)) → settled (call_with e o w) a ≡ seen e.sheet o w b
    → settled (call_with e o' w') a ≡ seen e.sheet o' w' b
settled_lent e o w o' w' None None h = refl
settled_lent e o w o' w' None (Some bytes) h =
    let i : nothing ≡ written (length bytes) = ap (λ (u : Outcome). u.reply) h in
    let z : ◌≡◌ {A = ℕ} 0 1 = cc in absurd (omega arith)
settled_lent e o w o' w' (Some t) None h =
    let i : written (length (encode (single t))) ≡ nothing = ap (λ (u : Outcome). u.reply) h in
    let z : ◌≡◌ {A = ℕ} 0 1 = cc in absurd (omega arith)
settled_lent e o w o' w' (Some t) (Some bytes) h =
    let x = encode (single t) in
    let i : written (length x) ≡ written (length bytes) = ap (λ (u : Outcome). u.reply) h in
    let n : length x ≡ length bytes = cc in
    let f = sym (take_at x (drop (length x) o) (length bytes) n) ∙ ap (λ (u : Outcome). take (length bytes) u.output) h
    ∙ take_at bytes (drop (length bytes) o) (length bytes) refl in
    ap (λ (y : List ℕ). seen e.sheet o' w' (Some y)) f

outcome_lent : (e : Entry) (o w o' w' : List ℕ) → Enough e.sheet o' w' → outcome (call_with e o w) ≡ expected e o w
    → outcome (call_with e o' w') ≡ expected e o' w'
unfolding outcome
outcome_lent e o w o' w' n h = go (eqb (refusal (call_with e o w)) 0) refl
  where
    shut : (k : ℕ) (b : Option (List ℕ)) → refused k ≡ (seen e.sheet o w b).reply → ⊥
    shut k None i = let z : ◌≡◌ {A = ℕ} 0 1 = cc in omega arith
    shut k (Some bytes) i = let z : ◌≡◌ {A = ℕ} 0 1 = cc in omega arith

    go : (t : Bool) → eqb (refusal (call_with e o w)) 0 ≡ t → outcome (call_with e o' w') ≡ expected e o' w'
    go true x =
        let z = refusal_lent e o w o' w' n (eqb-true (refusal (call_with e o w)) 0 x) in
        rw (eq-eqb (refusal (call_with e o' w')) 0 z) (settled_lent e o w o' w' (answer (call_with e o w)) e.answer (rw x at h))
    go false x = absurd (shut (refusal (call_with e o w)) e.answer (ap (λ (u : Outcome). u.reply) (rw x at h)))

pub marked : MarkedCases
marked e m output work n =
    outcome_lent e (output₀ e) (work₀ e) output work n
    (at_each (λ e. outcome (call_with e (output₀ e) (work₀ e))) (λ e. expected e (output₀ e) (work₀ e)) table computed e m)

pub spelled : MarkedSpelled
unfolding count labels records encode
spelled = refl
