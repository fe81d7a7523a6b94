-- The walks down the wrappers of one type and of two, step by step. Assumes nothing.
use mathlib.Core.Path.{◌≡◌, refl, ap, ap₂, sym, subst, ◌∙◌}
use mathlib.Core.Bool.{Bool, true, false, cond, not, ◌&&◌, ◌||◌}
use mathlib.Core.List.{List, [], ◌∷◌}
use mathlib.Core.Logic.{⊎_elim}
use Prim.Native.Nat.{ℕ, ◌+◌, ◌-◌, ◌<◌, ◌≤◌}
use native.Mathlib.Omega.{arith}
use lib.Dec.{eqb}
use borrow.Author.Tests.{eq-eqb, ne_eqb, eqb-true}
use Rattle.sheet.specs.Head.{head_at}
use Rattle.sheet.proofs.Booleans.{and_fst, and_snd}
use Rattle.coercion.specs.Data.{DataType, size, may_become}
use Rattle.buffers.specs.Writes.{side}
use Rattle.buffers.specs.Typed.{Typed}
use Rattle.buffers.specs.declared.Space.{Space}
use Rattle.plain.proofs.Steps.{kind_low, reads_figured}
use Rattle.buffers.proofs.Fielding.{typed_reads}
use Rattle.sheet.specs.Kind.{is_wrapper}
use Rattle.wrappers.specs.Ways.{wrappers_of, core_kind, allows, meets, may_merge, hint_of, wrappers_may, Hint, without}
use Rattle.std.specs.Prelude.{Option, None, IfSome, unwrap_or}
use Rattle.std.specs.Bool.{then_some}
use Rattle.wrappers.specs.Walks.{Core, Tells, TellsBoth, Learns, chosen_kind, kind_in, hint_in, Chosen}
use Rattle.wrappers.specs.declared.walk.Choice.{Choice}
use Rattle.wrappers.proofs.Cores.{wrapper_is, one_of_two, bare_wrappers, bare_core, wrap_wrappers, wrap_core}
use Rattle.wrappers.proofs.Values.{side_twice, kind_of_lem, kind_is, Value, value_of}
use Rattle.wrappers.proofs.Hints.{met, may_hint, Crossing, cross_is, cross_on, left_crossing, right_crossing, same_on}

-- what the walks tell
abbrev allowed : ℕ → DataType → Bool
allowed mask x = allows mask (wrappers_of x.shape x.parts)

-- the kind of a wrapper
pub wrapper_low : (k : ℕ) {w : Bool} → w ≡ is_wrapper k → w ≡ true → k < 64
wrapper_low k e z = ⊎_elim (λ i. omega arith) (λ i. omega arith) (wrapper_is k (sym e ∙ z))

-- the record at a link, and whether it is a wrapper
module _ {s : List ℕ} {l k : ℕ} {w : Bool} (ek : k ≡ (head_at s l).kind) (ew : w ≡ is_wrapper k) where
  typed_wrapper : {space : Space} {x : DataType} → Typed space s l x → is_wrapper x.shape.kind ≡ w
  typed_wrapper a = ap (λ (i : ℕ). is_wrapper i) (kind_of_lem ek a) ∙ sym ew

  bare : {space : Space} {x : DataType} → w ≡ false → Typed space s l x → wrappers_of x.shape x.parts ≡ []
  bare {x = x} z a = bare_wrappers x.shape x.parts (typed_wrapper a ∙ z)

  -- a wrapper comes off
  module _ (z : w ≡ true) {v : ℕ} (ev : v ≡ (head_at s (head_at s l).first).next) where
    below : {space : Space} {x : DataType} → Typed space s l x → Value space s v x
    below a = value_of (sym ew ∙ z) (kind_of_lem ek a) ev a

    off : {space : Space} {x : DataType} (a : Typed space s l x) → wrappers_of x.shape x.parts ≡ k ∷ wrappers_of (below a).type.shape (below a).type.parts
    off {x = x} a =
        wrap_wrappers x.shape x.parts (below a).type (typed_wrapper a ∙ z) (below a).is
        ∙ ap (λ (i : ℕ). i ∷ wrappers_of (below a).type.shape (below a).type.parts) (kind_of_lem ek a)

    pub core_down : {left r : ℕ} → ¬ (left ≡ 0) → Core (left - 1) s v r → Core left s l r
    core_down n c =
        record {
          is =
              λ space x a h.
              let u = below a in
              c.is space u.type u.typed (omega (arith, u.smaller)) ∙ sym (wrap_core x.shape x.parts u.type (typed_wrapper a ∙ z) u.is);
          low = c.low;
        }

  pub core_found : {left : ℕ} → w ≡ false → k < 64 → Core left s l k
  core_found z h = record { is = λ space x a q. sym (bare_core x.shape x.parts (typed_wrapper a ∙ z) ∙ kind_of_lem ek a); low = h }

  pub core_strange : {left : ℕ} → 64 ≤ k → Core left s l 0
  core_strange h = record { is = λ space x a q. absurd (omega (arith, kind_low (reads_figured refl (typed_reads a refl)))); low = omega arith }

pub core_spent : (left : ℕ) (s : List ℕ) (l : ℕ) → left ≡ 0 → Core left s l 0
core_spent left s l e = record { is = λ space x a h. absurd (omega arith); low = omega arith }

-- whether Null may become a wrapper
module _ (mask left : ℕ) where
  pub allows_spent : (s : List ℕ) (l : ℕ) → left ≡ 0 → Tells (allowed mask) left s l false
  allows_spent s l e = record { is = λ space x a h. absurd (omega arith) }

  module _ {s : List ℕ} {l k : ℕ} {w : Bool} (ek : k ≡ (head_at s l).kind) (ew : w ≡ is_wrapper k) where
    pub allows_none : w ≡ false → Tells (allowed mask) left s l false
    allows_none z = record { is = λ space x a h. rw (bare ek ew z a) refl }

    module _ (z : w ≡ true) {m : Bool} (em : m ≡ may_become mask k) {v : ℕ} (ev : v ≡ (head_at s (head_at s l).first).next) where
      pub allows_now : m ≡ true → Tells (allowed mask) left s l true
      allows_now y = record { is = λ space x a h. rw (off ek ew z ev a) (rw (sym em ∙ y) refl) }

      pub allows_down : {b : Bool} → m ≡ false → ¬ (left ≡ 0) → Tells (allowed mask) (left - 1) s v b → Tells (allowed mask) left s l b
      allows_down y n c =
          record {
            is =
                λ space x a h.
                let u = below ek ew z ev a in
                rw (off ek ew z ev a) (rw (sym em ∙ y) (c.is space u.type u.typed (omega (arith, u.smaller))));
          }

-- the wrappers about a value and those about Null
module _ (mask left : ℕ) (swap : Bool) (s w : List ℕ) {l r k j : ℕ} {p q : Bool}
    (ek : k ≡ (head_at (side swap s w) l).kind) (ej : j ≡ (head_at (side (not swap) s w) r).kind) (ep : p ≡ is_wrapper k) (eq : q ≡ is_wrapper j) where
  pub meets_alone : {b : Bool} → q ≡ false → Tells (allowed mask) left (side swap s w) l b → TellsBoth (met mask) (left + 1) swap s w l r b
  unfolding meets
  meets_alone z c = record { is = λ space x y a d h. c.is space x a (omega arith) ∙ sym (rw (bare ej eq z d) refl) }

  module _ (z : q ≡ true) {v : ℕ} (ev : v ≡ (head_at (side (not swap) s w) (head_at (side (not swap) s w) r).first).next) where
    pub meets_bare : p ≡ false → TellsBoth (met mask) (left + 1) swap s w l r false
    unfolding meets
    meets_bare y = record { is = λ space x y₂ a d h. rw (bare ek ep y a) (rw (off ej eq z ev d) refl) }

    pub meets_off : {b : Bool} → p ≡ true → ¬ (k ≡ j) → ¬ (left ≡ 0) → TellsBoth (met mask) (left - 1 + 1) swap s w l v b → TellsBoth (met mask) (left + 1) swap s w l r b
    unfolding meets
    meets_off y n more c =
        record {
          is =
              λ space x y₂ a d h.
              let o = below ej eq z ev d in
              c.is space x o.type a o.typed (omega (arith, o.smaller)) ∙ sym (rw (off ek ep y refl a) (rw (off ej eq z ev d) (rw (ne_eqb k j n) refl)));
        }

    pub meets_both : {b : Bool} {u : ℕ} → u ≡ (head_at (side swap s w) (head_at (side swap s w) l).first).next → k ≡ j → ¬ (left ≡ 0) → TellsBoth (met mask) (left - 1 + 1) swap s w u v b
        → TellsBoth (met mask) (left + 1) swap s w l r b
    unfolding meets
    meets_both eu e more c =
        let y : p ≡ true = ep ∙ ap (λ (i : ℕ). is_wrapper i) e ∙ sym eq ∙ z in
        record {
          is =
              λ space x y₂ a d h.
              let i = below ek ep y eu a in
              let o = below ej eq z ev d in
              c.is space i.type o.type i.typed o.typed (omega (arith, i.smaller, o.smaller))
              ∙ sym (rw (off ek ep y eu a) (rw (off ej eq z ev d) (rw (eq-eqb k j e) refl)));
        }

module _ (mask left : ℕ) (swap : Bool) (s w : List ℕ) (l r : ℕ) where
  pub meets_spent : left ≡ 0 → TellsBoth (met mask) (left + 1) swap s w l r false
  meets_spent e = record { is = λ space x y a d h. absurd (omega arith) }

  -- the walk, where it is needed
  module _ {needed : Bool} where
    pub meets_needed : {b : Bool} → needed ≡ true → TellsBoth (met mask) (left + 1) swap s w l r b → TellsBoth (λ x y. cond needed (met mask x y) true) (left + 1) swap s w l r b
    meets_needed z c = record { is = λ space x y a d h. rw z (c.is space x y a d h) }

    pub meets_spared : needed ≡ false → TellsBoth (λ x y. cond needed (met mask x y) true) (left + 1) swap s w l r true
    meets_spared z = record { is = λ space x y a d h. rw z refl }

  -- what the wrappers answer
  module _ {hint : ℕ} where
    pub wrappers_left : {b : Bool} → hint ≡ 2 → TellsBoth (met mask) (left + 1) swap s w l r b → TellsBoth (wrappers_may hint mask) (left + 1) swap s w l r b
    wrappers_left e c = record { is = λ space x y a d h. rw (eq-eqb hint 2 e) (c.is space x y a d h) }

    pub wrappers_right : {b : Bool} → ¬ (hint ≡ 2) → hint ≡ 3 → TellsBoth (met mask) (left + 1) (not swap) s w r l b → TellsBoth (wrappers_may hint mask) (left + 1) swap s w l r b
    wrappers_right n e c =
        record { is = λ space x y a d h. rw (ne_eqb hint 2 n, eq-eqb hint 3 e) (c.is space y x d (subst (λ (u : List ℕ). Typed space u l x) (sym (side_twice swap s w)) a) (omega arith)) }

    pub wrappers_all : ¬ (hint ≡ 2) → ¬ (hint ≡ 3) → TellsBoth (wrappers_may hint mask) (left + 1) swap s w l r true
    wrappers_all n m = record { is = λ space x y a d h. rw (ne_eqb hint 2 n, ne_eqb hint 3 m) refl }

  -- what the cores leave to be asked
  module _ (hint : ℕ) where
    pub learns_known : ¬ (hint ≡ 0) → Learns hint mask (left + 1) swap s w l r hint
    learns_known n = record { is = λ space x y a d h f. rw (f n).1 (f n).0 }

    module _ {k j h : ℕ} (ck : Core left (side swap s w) l k) (cj : Core left (side (not swap) s w) r j) (eh : h ≡ hint_of mask k j) {b : Bool}
        (c : TellsBoth (wrappers_may h mask) (left + 1) swap s w l r b) where
      module _ {space : Space} {x y : DataType} (a : Typed space (side swap s w) l x) (d : Typed space (side (not swap) s w) r y) (q : size x + size y ≤ left + 1) where
        cores : h ≡ hint_of mask (core_kind x.shape x.parts) (core_kind y.shape y.parts)
        cores = eh ∙ ap₂ (hint_of mask) (ck.is space x a (omega arith)) (cj.is space y d (omega arith))

        told : may_merge mask x y ≡ b
        told = may_hint mask x y ∙ ap (λ (i : ℕ). wrappers_may i mask x y) (sym cores) ∙ sym (c.is space x y a d q)

      learns_if : (z : Bool) → b ≡ z → Learns hint mask (left + 1) swap s w l r (unwrap_or (then_some z h) 0)
      learns_if true e = record { is = λ space x y a d q f. rw (told a d q ∙ e) (cores a d q) }
      learns_if false e = record { is = λ space x y a d q f. rw (told a d q ∙ e) refl }

      pub learns_told : {o : Option ℕ} → o ≡ then_some b h → Learns hint mask (left + 1) swap s w l r (unwrap_or o 0)
      learns_told e = rw e (learns_if b refl)

-- what is known below a wrapper of one kind, on either side or on both
module _ (hint mask left : ℕ) (swap : Bool) (s w : List ℕ) (l r : ℕ) {k j : ℕ} (ek : k ≡ (head_at (side swap s w) l).kind) (ej : j ≡ (head_at (side (not swap) s w) r).kind) where
  module _ {space : Space} {x y : DataType} (a : Typed space (side swap s w) l x) (d : Typed space (side (not swap) s w) r y) (f : Hint hint mask x y) where
    on : (i : ℕ) → is_wrapper i ≡ true → (z : Bool) → eqb k j ≡ z → (o : Bool) → eqb k i ≡ o → Hint (cond z hint 0) mask (without i x) (without i y)
    on i wi true e true p =
        let q = sym (eqb-true k j e) ∙ eqb-true k i p in
        let u = value_of wi (kind_of_lem ek a ∙ eqb-true k i p) refl a in
        let v = value_of wi (kind_of_lem ej d ∙ q) refl d in
        same_on mask hint x y u.type v.type i wi (kind_is ek i a ∙ p) (kind_is ej i d ∙ eq-eqb j i q) u.is v.is f
    on i wi true e false p = rw (kind_is ek i a ∙ p, kind_is ej i d ∙ ap (λ (n : ℕ). eqb n i) (sym (eqb-true k j e)) ∙ p) f
    on i wi false e o p = λ n. absurd (n refl)

-- the wrapper whose rule is asked
module _ (hint mask left : ℕ) (swap : Bool) (s w : List ℕ) (l r : ℕ) {k j : ℕ} (ek : k ≡ (head_at (side swap s w) l).kind) (ej : j ≡ (head_at (side (not swap) s w) r).kind)
    (b : Bool) {t : Option Choice} where
  -- a Dictionary and run ends
  module _ {h : ℕ} (g : (kind_in t ≡ cond (eqb h 0) 0 (cond b 37 38)) × (hint_in t ≡ h)) (wraps : IfSome t (λ u. is_wrapper u.kind ≡ true)) (c : Learns hint mask (left + 1) swap s w l r h) where
    crossed : ((space : Space) (x y : DataType) → Typed space (side swap s w) l x → Typed space (side (not swap) s w) r y → size x + size y ≤ left + 1
        → h ≡ cond (may_merge mask x y) (hint_of mask (core_kind x.shape x.parts) (core_kind y.shape y.parts)) 0 → Crossing mask x y b)
        → Chosen hint mask (left + 1) swap s w l r t
    crossed e =
        record {
          is = λ space x y a d q f. g.0 ∙ cross_is mask x y (c.is space x y a d q f) (e space x y a d q (c.is space x y a d q f));
          on = λ space x y a d q f. rw (g.0, g.1) (cross_on mask x y (c.is space x y a d q f) (e space x y a d q (c.is space x y a d q f)));
          wrapper = wraps;
        }

    pub way_left : {v : ℕ} → (eqb k 37 && eqb j 38) ≡ true → v ≡ (head_at (side swap s w) (head_at (side swap s w) l).first).next
        → TellsBoth (λ x y. cond (eqb h 2) (met mask x y) true) (left + 1) swap s w v r b → Chosen hint mask (left + 1) swap s w l r t
    way_left z ev m =
        let p = and_fst (eqb k 37) (eqb j 38) z in
        let q = and_snd (eqb k 37) (eqb j 38) z in
        crossed
        (λ space x y a d n eh.
        let u = value_of (ap (λ (i : ℕ). is_wrapper i) (eqb-true k 37 p)) (kind_of_lem ek a) ev a in
        let o = value_of (ap (λ (i : ℕ). is_wrapper i) (eqb-true j 38 q)) (kind_of_lem ej d) refl d in
        left_crossing mask x y eh u.type o.type u.is o.is (kind_is ek 37 a ∙ p) (kind_is ej 38 d ∙ q)
        (m.is space u.type y u.typed d (omega (arith, u.smaller))))

    pub way_right : {v : ℕ} → (eqb k 38 && eqb j 37) ≡ true → v ≡ (head_at (side (not swap) s w) (head_at (side (not swap) s w) r).first).next
        → TellsBoth (λ x y. cond (eqb h 3) (met mask x y) true) (left + 1) (not swap) s w v l b → Chosen hint mask (left + 1) swap s w l r t
    way_right z ev m =
        let p = and_fst (eqb k 38) (eqb j 37) z in
        let q = and_snd (eqb k 38) (eqb j 37) z in
        crossed
        (λ space x y a d n eh.
        let u = value_of (ap (λ (i : ℕ). is_wrapper i) (eqb-true k 38 p)) (kind_of_lem ek a) refl a in
        let o = value_of (ap (λ (i : ℕ). is_wrapper i) (eqb-true j 37 q)) (kind_of_lem ej d) ev d in
        right_crossing mask x y eh u.type o.type u.is o.is (kind_is ek 38 a ∙ p) (kind_is ej 37 d ∙ q)
        (m.is space o.type x o.typed (subst (λ (v : List ℕ). Typed space v l x) (sym (side_twice swap s w)) a) (omega (arith, o.smaller))))

  -- all other pairs
  module _ (ei : kind_in t ≡ cond b 37 38) (eh : hint_in t ≡ cond (eqb k j) hint 0) where
    pub way_straight : IfSome t (λ u. is_wrapper u.kind ≡ true) → (eqb k 37 && eqb j 38) ≡ false → (eqb k 38 && eqb j 37) ≡ false → b ≡ (eqb k 37 || eqb j 37) → Chosen hint mask (left + 1) swap s w l r t
    unfolding chosen_kind
    way_straight wraps z n e =
        record {
          is =
              λ space x y a d q f.
              ei
              ∙ rw (ap₂ ◌||◌ (ap₂ ◌&&◌ (kind_is ek 37 a) (kind_is ej 38 d) ∙ z) (ap₂ ◌&&◌ (kind_is ek 38 a) (kind_is ej 37 d) ∙ n))
              (rw (ap₂ ◌||◌ (kind_is ek 37 a) (kind_is ej 37 d) ∙ sym e) refl);
          on = λ space x y a d q f. rw (ei, eh) (on hint mask left swap s w l r ek ej a d f (cond b 37 38) (one_of_two b) (eqb k j) refl (eqb k (cond b 37 38)) refl);
          wrapper = wraps;
        }

-- a Dictionary and run ends that can have no common type
module _ (hint mask left : ℕ) (swap : Bool) (s w : List ℕ) (l r : ℕ) {k j : ℕ} (ek : k ≡ (head_at (side swap s w) l).kind) (ej : j ≡ (head_at (side (not swap) s w) r).kind)
    {t : Option Choice} (e : t ≡ None) (c : Learns hint mask (left + 1) swap s w l r 0) where
  pub none_left : (eqb k 37 && eqb j 38) ≡ true → Chosen hint mask (left + 1) swap s w l r t
  none_left z =
      subst (λ (o : Option Choice). Chosen hint mask (left + 1) swap s w l r o) (sym e)
      (way_left hint mask left swap s w l r ek ej true {t = None} (refl, refl) tt c z refl (meets_spared mask left swap s w _ r refl))

  pub none_right : (eqb k 38 && eqb j 37) ≡ true → Chosen hint mask (left + 1) swap s w l r t
  none_right z =
      subst (λ (o : Option Choice). Chosen hint mask (left + 1) swap s w l r o) (sym e)
      (way_right hint mask left swap s w l r ek ej true {t = None} (refl, refl) tt c z refl (meets_spared mask left (not swap) s w _ l refl))

-- the wrapper that is asked
pub asked_turn : (h i : ℕ) (b : Bool) → 0 < h → i ≡ cond b 37 38 → i ≡ cond (eqb h 0) 0 (cond b 37 38)
asked_turn h i b lt e = rw (ne_eqb h 0 (λ z. omega (arith, z))) e

pub is_asked : {i : ℕ} (b : Bool) → i ≡ cond b 37 38 → is_wrapper i ≡ true
is_asked b e = ap (λ (k : ℕ). is_wrapper k) e ∙ one_of_two b
