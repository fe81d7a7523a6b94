-- What the least-type theorem asks for can be had: every list of at most 1,023 types of a family can be asked, and
-- each stretch of each cutting of it, and the list of their answers. Assumes nothing.
use mathlib.Core.Path.{◌≡◌, refl, ap, ap₂, sym, subst, ◌∙◌}
use mathlib.Core.Bool.{Bool, true, false, not, ◌&&◌}
use mathlib.Core.List.{List, [], ◌∷◌, ◌++◌, map, flatten}
use Prim.Native.Nat.{ℕ, zero, suc, ◌+◌, ◌*◌, ◌<◌, ◌≤◌}
use native.Mathlib.Omega.{arith}
use lib.ListN.{length, replicate, length-append, length-replicate}
use lib.Dec.{eqb, leb}
use borrow.Author.Tests.{leb-true, le-ltb}
use Rattle.sheet.specs.Booleans.{between}
use Rattle.sheet.specs.Kind.{is_kind}
use Rattle.sheet.specs.Types.{Fields, arity, count, labels}
use Rattle.sheet.specs.Head.{bytes_of}
use Rattle.sheet.specs.Encode.{link_to, head_of, header, records, encode}
use Rattle.sheet.specs.Names.{repeats, names_differ}
use Rattle.sheet.specs.Carried.{FieldsRight, Carried}
use Rattle.sheet.specs.Holds.{Plain}
use Rattle.sheet.specs.Refusals as Sheet
use Rattle.sheet.proofs.Booleans.{and_snd, all_cons, all_nil}
use Rattle.sheet.proofs.Chains.{encode_length}
use Rattle.sheet.proofs.Carrying.{carried_read, carried_accepted}
use Rattle.coercion.specs.Data.{DataType, plain, types_of}
use Rattle.coercion.specs.declared.Figures.{Figures}
use Rattle.coercion.specs.Families.{Family, AllIn}
use Rattle.coercion.proofs.Joins.{all, in_front, in_back, in_cut}
use Rattle.coercion.proofs.Commons.{Settled, settled}
use Rattle.coercion.proofs.Fitting.{Fits, in_fits}
use Rattle.coercion.proofs.PlainRight.{empty_label}
use Rattle.coercion.specs.declared.Question.{Question}
use Rattle.answers.specs.Call.{Call, bad_mask, bad_pair, bad_space, rules_of, refusal}
use Rattle.answers.specs.Terms.{terms_of}
use Rattle.answers.specs.Listed.{listed}
use Rattle.answers.specs.LeastType.{Asks, Calls, call, NonEmpty}
use Rattle.answers.specs.Premises.{EveryListAsked, EveryCutAsked}
use Rattle.answers.proofs.LeastType.{full_rest, stretch_answers}
use Rattle.answers.proofs.Refusing.{accepted_refusal}

-- types of figures alone as a chain
abbrev chain : List Figures → Fields
chain gs = listed (map plain gs)

abbrev AllFit : List Figures → Type 0
AllFit [] = Unit
AllFit (g ∷ gs) = Fits g × AllFit gs

record Drawn (ts : List DataType) : Type 0 where
  figures : List Figures
  fit : AllFit figures
  are : map plain figures ≡ ts

drawn : (f : Family) (ts : List DataType) → AllIn f ts → Drawn ts
drawn f [] a = record { figures = []; fit = tt; are = refl }
drawn f (t ∷ ts) a =
    let h = in_fits f t a.0 in
    let r = drawn f ts a.1 in
    record {
      figures = h.0 ∷ r.figures;
      fit = (h.1.0, r.fit);
      are = ap₂ (λ (x : DataType) (xs : List DataType). x ∷ xs) (sym h.1.1) r.are;
    }

listed_types : (ts : List DataType) → types_of (listed ts) ≡ ts
unfolding types_of
listed_types [] = refl
listed_types (t ∷ ts) = ap (λ (us : List DataType). t ∷ us) (listed_types ts)

chain_count : (gs : List Figures) → count (chain gs) ≡ length (map plain gs)
unfolding count
chain_count [] = refl
chain_count (g ∷ gs) = omega (arith, chain_count gs)

chain_labels : (gs : List Figures) → labels (chain gs) ≡ []
unfolding labels
chain_labels [] = refl
chain_labels (g ∷ gs) = chain_labels gs

chain_right : (gs : List Figures) → AllFit gs → FieldsRight 0 (chain gs)
unfolding arity
chain_right [] a = tt
chain_right (g ∷ gs) a = (
  record {
    known = a.0.known;
    filled = a.0.filled;
    figures = a.0.figures;
    byte = a.0.scale;
    may_be_null = refl;
    may_be_named = refl;
    own_name = empty_label;
    own_zone = empty_label;
  },
  (tt, chain_right gs a.1),
)

no_struct : (b : Bool) → not (b && false) ≡ true
no_struct true = refl
no_struct false = refl

chain_differ : (gs : List Figures) → names_differ (chain gs) ≡ true
unfolding names_differ repeats
chain_differ [] = refl
chain_differ (g ∷ gs) = all_cons _ (no_struct (eqb g.kind 35)) (all_cons _ refl (all_cons _ (chain_differ gs) all_nil))

chain_carried : (gs : List Figures) → AllFit gs → length (map plain gs) ≤ 1023 → Carried (chain gs)
chain_carried gs a h =
    record {
      few = omega (arith, chain_count gs);
      short = omega (arith, ap length (chain_labels gs));
      right = chain_right gs a;
      differ = chain_differ gs;
    }

-- lists of bytes
abbrev pub Bytes : List ℕ → Type 0
Bytes [] = Unit
Bytes (b ∷ bs) = (b < 256) × Bytes bs

pub bytes_plain : (s : List ℕ) → Bytes s → Plain s
bytes_plain [] a i = omega arith
bytes_plain (b ∷ bs) a zero = a.0
bytes_plain (b ∷ bs) a (suc i) = bytes_plain bs a.1 i

bytes_append : (s u : List ℕ) → Bytes s → Bytes u → Bytes (s ++ u)
bytes_append [] u a b = b
bytes_append (x ∷ s) u a b = (a.0, bytes_append s u a.1 b)

kind_small : (k : ℕ) → is_kind k ≡ true → k < 256
unfolding is_kind between
kind_small k h = omega (arith, leb-true k 38 (and_snd (leb 1 k) (leb k 38) h))

link_small : (r : ℕ) (gs : List Figures) → link_to r (chain gs) ≤ r
link_small r [] = omega arith
link_small r (g ∷ gs) = omega arith

records_bytes : (r o : ℕ) (gs : List Figures) → AllFit gs → r + length (map plain gs) ≤ 1024 → Bytes (records r o (chain gs))
unfolding records count labels
records_bytes r o [] a h = tt
records_bytes r o (g ∷ gs) a h =
    let z : 0 < 256 = omega arith in
    let n = link_to (r + 1 + 0) (chain gs) in
    let b : n ≤ r + 1 + 0 = link_small (r + 1 + 0) gs in
    bytes_append (bytes_of (head_of o [] false (plain g).shape 0 n)) (records (r + 1 + 0) (o + 0 + 0) (chain gs)) (
      kind_small g.kind a.0.known,
      (z, (a.0.figure, (a.0.scale, (z, (z, (z, (z, (z, (z, (omega arith, (omega arith, (z, (z, (z, (z, tt))))))))))))))),
    )
    (records_bytes (r + 1 + 0) (o + 0 + 0) gs a.1 (omega arith))

chain_bytes : (gs : List Figures) → AllFit gs → length (map plain gs) ≤ 1023 → Bytes (encode (chain gs))
unfolding encode
chain_bytes gs a h =
    let z : 0 < 256 = omega arith in
    let n = 1 + count (chain gs) in
    let m = length (labels (chain gs)) in
    let e = chain_count gs in
    let d : m ≡ 0 = ap length (chain_labels gs) in
    bytes_append (header n m) (records 1 0 (chain gs) ++ labels (chain gs))
    (omega arith, (omega arith, (omega arith, (omega arith, (z, (z, (z, (z, (z, (z, (z, (z, (z, (z, (z, (z, tt))))))))))))))))
    (bytes_append (records 1 0 (chain gs)) (labels (chain gs)) (records_bytes 1 0 gs a (omega arith)) (subst Bytes (sym (chain_labels gs)) tt))

-- a sheet that is accepted, a good mask, a list question and space
unrefused : (c : Call) → c.question ≡ Question.List → Sheet.refusal c.sheet ≡ 0 → bad_mask c.mask ≡ false
    → length c.sheet ≤ length c.output → 2 * length c.sheet ≤ length c.work → refusal c ≡ 0
unfolding bad_pair bad_space refusal
unrefused c q h m o w =
    accepted_refusal (terms_of (rules_of c)) c.sheet c.output c.work h
    ∙ rw (m, q, le-ltb (length c.output) (length c.sheet) o, le-ltb (length c.work) (2 * length c.sheet) w)

pub asked : EveryListAsked
asked f ts a h mask m output work o w =
    let d = drawn f ts a in
    let gs = d.figures in
    let e : length (map plain gs) ≡ length ts = ap length d.are in
    let c = chain_carried gs d.fit (omega arith) in
    let s = encode (chain gs) in
    let n : length s ≡ 16 * (1 + length ts) + 0 = encode_length (chain gs) ∙ ap₂ (λ (x y : ℕ). 16 * (1 + x) + y) (chain_count gs ∙ e) (ap length (chain_labels gs)) in
    let call : Call = record { question = Question.List; sheet = s; mask = mask; output = output; work = work } in
    record {
      call = call;
      asks =
          record {
            question = refl;
            bytes = bytes_plain s (chain_bytes gs d.fit (omega arith));
            unrefused = unrefused call refl (carried_accepted (chain gs) c) m (omega arith) (omega arith);
            reads = ap types_of (carried_read (chain gs) c) ∙ listed_types (map plain gs) ∙ d.are;
          };
      masked = refl;
      output_is = refl;
      work_is = refl;
    }

-- one such call
some_call : (f : Family) (ts : List DataType) → AllIn f ts → length ts ≤ 1023 → (c : Call) × Asks c ts
unfolding bad_mask
some_call f ts a h =
    let n = 16 * (1 + length ts) in
    let w = 32 * (1 + length ts) in
    let k = asked f ts a h 0 refl (replicate n 0) (replicate w 0) (omega (arith, length-replicate {A = ℕ} n 0)) (omega (arith, length-replicate {A = ℕ} w 0)) in
    (k.call, k.asks)

cut_length : (css : List (List DataType)) → NonEmpty css → length (map all css) ≤ length (flatten css)
unfolding flatten
cut_length [] n = omega arith
cut_length ([] ∷ css) n = absurd n
cut_length ((t ∷ ts) ∷ css) n = omega (arith, cut_length css n, length-append ts (flatten css))

module _ (f : Family) (s : Settled f) where
  -- calls on the stretches
  stretch_calls : (css : List (List DataType)) → NonEmpty css → AllIn f (flatten css) → length (flatten css) ≤ 1023 → Calls css (map all css)
  unfolding flatten
  stretch_calls [] n a h = Calls.end
  stretch_calls (ts ∷ css) n a h =
      let e = length-append ts (flatten css) in
      let own = in_front f s.laws ts (flatten css) a in
      let k = some_call f ts own (omega arith) in
      call k.0 k.1 (stretch_answers f s k.0 ts css n own k.1)
      (stretch_calls css (full_rest ts css n) (in_back f s.laws ts (flatten css) a) (omega arith))

pub every_cut : EveryCutAsked
every_cut f types a some_one css e n h =
    let s = settled f types some_one in
    let own : AllIn f (flatten css) = subst (AllIn f) (sym e) a in
    let k : length (flatten css) ≡ length types = ap length e in
    let l = some_call f (map all css) (in_cut f s.laws css own) (omega (arith, cut_length css n)) in
    record { answers = map all css; calls = stretch_calls f s css n own (omega arith); last = l.0; asks = l.1 }
