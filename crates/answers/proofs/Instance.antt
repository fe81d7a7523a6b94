-- The least-type theorem at two lists whose calls are computed. Assumes nothing.
use mathlib.Core.Path.{◌≡◌, refl}
use mathlib.Core.Bool.{Bool, true, ◌&&◌}
use mathlib.Core.List.Permᴰ
use mathlib.Core.List.{List, [], ◌∷◌, Perm, flatten}
use Prim.Native.Nat.{ℕ}
use native.Mathlib.Omega.{arith}
use lib.ListN.{length, take}
use lib.Dec.{ltb}
use borrow.Author.Tests.{ltb-true}
use Rattle.sheet.specs.Booleans.{all_of, one_of, between}
use Rattle.sheet.specs.Kind.{is_kind, is_decimal, cap, sized, last_unit, parts_right, names_parts}
use Rattle.sheet.specs.Types.{arity, count, labels}
use Rattle.sheet.specs.Head.{head_at}
use Rattle.sheet.specs.Encode.{records, encode}
use Rattle.sheet.specs.Read.{walk_from, read}
use Rattle.sheet.specs.Names.{repeats, names_differ}
use Rattle.sheet.specs.Refusals.{torn, bad_kind, linked, bad_chain, met, decimal_right, figure_right, size_right, figures_right, record_right, any_wrong, bad_figure, label_right, misplaced, bad_label}
use Rattle.sheet.proofs.Booleans.{and_fst, and_snd}
use Rattle.coercion.specs.Data.{DataType, single, types_of, plain, of_kind, first_of}
use Rattle.coercion.specs.Same.{same_zone, same_shape, same_fields, same_type}
use Rattle.coercion.specs.declared.Figures.{Figures}
use Rattle.coercion.specs.Numbers.{decimal, get_wider_decimal_type, decimal_coercion, numerical_coercion, binary_numeric_coercion}
use Rattle.coercion.specs.Strings.{string_coercion, binary_coercion}
use Rattle.coercion.specs.Times.{temporal_coercion, temporal_coercion_nonstrict_timezone}
use Rattle.coercion.specs.Rules.{null_coercion, string_numeric_coercion}
use Rattle.coercion.specs.Nested.{list_coercion, map_coercion}
use Rattle.coercion.specs.Answers.{coerce_in, coercion, category_of, has_category, categories_in, fold_from, fold_types, type_union_resolution}
use Rattle.coercion.specs.Families.{integer, decimal_of, here, null, member, null_type}
use Rattle.answers.specs.Call.{bad_mask, bad_pair, bad_space, refusal, written, outcome}
use Rattle.answers.specs.LeastType.{Calls, call, NonEmpty, Settles}
use Rattle.answers.specs.Premises.{int8, int16, int64, uint8, uint32, whole, tenth, call_on, Ran, some_integers, IntegersRun, some_decimals, DecimalsRun}
use Rattle.answers.proofs.Answering.{answers_one}
use Rattle.answers.proofs.Asking.{Bytes, bytes_plain}

abbrev all_small : List ℕ → Bool
all_small [] = true
all_small (b ∷ bs) = ltb b 256 && all_small bs

small_bytes : (s : List ℕ) → all_small s ≡ true → Bytes s
small_bytes [] h = tt
small_bytes (b ∷ bs) h = (ltb-true b 256 (and_fst (ltb b 256) (all_small bs) h), small_bytes bs (and_snd (ltb b 256) (all_small bs) h))

ran : (mask : ℕ) (ts : List DataType) (t : DataType) → all_small (call_on mask ts).sheet ≡ true → refusal (call_on mask ts) ≡ 0
    → types_of (read (call_on mask ts).sheet) ≡ ts → (outcome (call_on mask ts)).reply ≡ written (length (encode (single t)))
    → take (length (encode (single t))) (outcome (call_on mask ts)).output ≡ encode (single t) → Ran mask ts t
ran mask ts t small unrefused reads reply bytes =
    record {
      asks = record { question = refl; bytes = bytes_plain (call_on mask ts).sheet (small_bytes (call_on mask ts).sheet small); unrefused = unrefused; reads = reads };
      answers = record { reply = reply; bytes = bytes };
    }

-- that the first two calls ran, in every order and cutting of which the theorem speaks, fixes its type by the last
settled_type : {types : List DataType} (order : List DataType) (cut : List (List DataType)) {answers : List DataType} (another : List DataType) {mask : ℕ}
    (g : Figures) → Perm types order → flatten cut ≡ order → NonEmpty cut → Calls cut answers → Perm answers another → Ran mask another (plain g)
    → (t : DataType) → Settles types t → t ≡ plain g
settled_type order cut another {mask} g p e n calls q last t s =
    answers_one (call_on mask another) g t last.answers (s.again order p cut e n _ calls another q (call_on mask another) last.asks)

-- each call computed: the two stretches of a list, and the list of their answers, swapped
record Runs : Type 0 where
  integers_first : Ran 0 (uint8 ∷ int8 ∷ []) int16
  integers_second : Ran 549755813886 (uint32 ∷ null_type ∷ []) uint32
  integers_last : Ran 64 (uint32 ∷ int16 ∷ []) int64
  decimals_first : Ran 2 (tenth ∷ whole ∷ []) tenth
  decimals_second : Ran 0 (null_type ∷ []) null_type
  decimals_last : Ran 65536 (null_type ∷ tenth ∷ []) tenth

runs : Runs
unfolding outcome encode records labels count read walk_from head_at types_of refusal torn one_of all_of bad_kind is_kind between bad_chain linked parts_right arity
    bad_figure any_wrong met record_right figures_right figure_right decimal_right is_decimal cap last_unit size_right sized names_parts bad_label misplaced label_right
    names_differ repeats bad_mask bad_pair bad_space type_union_resolution fold_types fold_from coercion coerce_in first_of same_type same_shape same_fields same_zone
    has_category categories_in category_of binary_numeric_coercion decimal_coercion get_wider_decimal_type numerical_coercion list_coercion map_coercion temporal_coercion
    temporal_coercion_nonstrict_timezone string_coercion binary_coercion null_coercion string_numeric_coercion
runs =
    record {
      integers_first = ran 0 (uint8 ∷ int8 ∷ []) int16 refl refl refl refl refl;
      integers_second = ran 549755813886 (uint32 ∷ null_type ∷ []) uint32 refl refl refl refl refl;
      integers_last = ran 64 (uint32 ∷ int16 ∷ []) int64 refl refl refl refl refl;
      decimals_first = ran 2 (tenth ∷ whole ∷ []) tenth refl refl refl refl refl;
      decimals_second = ran 0 (null_type ∷ []) null_type refl refl refl refl refl;
      decimals_last = ran 65536 (null_type ∷ tenth ∷ []) tenth refl refl refl refl refl;
    }

integers_ordered : Perm some_integers (uint8 ∷ int8 ∷ uint32 ∷ null_type ∷ [])
integers_ordered =
    ∣ Permᴰ.trans (Permᴰ.cons refl (Permᴰ.swap refl refl))
    (Permᴰ.trans (Permᴰ.swap refl refl) (Permᴰ.cons refl (Permᴰ.cons refl (Permᴰ.swap refl refl)))) ∣₁

pub integers_run : IntegersRun
unfolding between flatten
integers_run =
    record {
      all_in = (member (integer 3 refl), (null, (member (integer 7 refl), (member (integer 9 refl), tt))));
      some_in = here (integer 3 refl);
      ordered = integers_ordered;
      first = runs.integers_first;
      second = runs.integers_second;
      last = runs.integers_last;
      is =
          settled_type (uint8 ∷ int8 ∷ uint32 ∷ null_type ∷ []) ((uint8 ∷ int8 ∷ []) ∷ (uint32 ∷ null_type ∷ []) ∷ []) (uint32 ∷ int16 ∷ []) (of_kind 6)
          integers_ordered refl tt
          (call (call_on 0 (uint8 ∷ int8 ∷ [])) runs.integers_first.asks runs.integers_first.answers
          (call (call_on 549755813886 (uint32 ∷ null_type ∷ [])) runs.integers_second.asks runs.integers_second.answers Calls.end))
          ∣ Permᴰ.swap refl refl ∣₁ runs.integers_last;
    }

decimals_ordered : Perm some_decimals (tenth ∷ whole ∷ null_type ∷ [])
decimals_ordered = ∣ Permᴰ.trans (Permᴰ.cons refl (Permᴰ.swap refl refl)) (Permᴰ.swap refl refl) ∣₁

pub decimals_run : DecimalsRun
unfolding is_decimal between decimal_right all_of cap flatten
decimals_run =
    record {
      all_in = (member (decimal_of 16 38 0 refl refl (omega arith)), (null, (member (decimal_of 16 38 10 refl refl (omega arith)), tt)));
      some_in = here (decimal_of 16 38 0 refl refl (omega arith));
      ordered = decimals_ordered;
      first = runs.decimals_first;
      second = runs.decimals_second;
      last = runs.decimals_last;
      is =
          settled_type (tenth ∷ whole ∷ null_type ∷ []) ((tenth ∷ whole ∷ []) ∷ (null_type ∷ []) ∷ []) (null_type ∷ tenth ∷ []) (decimal 16 38 138)
          decimals_ordered refl tt
          (call (call_on 2 (tenth ∷ whole ∷ [])) runs.decimals_first.asks runs.decimals_first.answers
          (call (call_on 0 (null_type ∷ [])) runs.decimals_second.asks runs.decimals_second.answers Calls.end))
          ∣ Permᴰ.swap refl refl ∣₁ runs.decimals_last;
    }
