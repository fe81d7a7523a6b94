-- What is known of where two chains differ, for the name of the first row and for the rows behind it. Assumes nothing.
use mathlib.Core.Path.{◌≡◌, ap, sym, refl, ◌∙◌}
use mathlib.Core.Bool.{Bool, true}
use mathlib.Core.List.{List}
use Rattle.std.specs.Prelude.{Option, None, Some}
use Prim.Native.Nat.{ℕ, ◌+◌, ◌<◌}
use native.Mathlib.Omega.{arith}
use borrow.Author.Tests.{ltb-true}
use Rattle.sheet.specs.Types.{Shape, Fields, end, field, count}
use Rattle.sheet.specs.Head.{head_at}
use Rattle.sheet.specs.Encode.{link_to}
use Rattle.sheet.specs.Names.{same_bytes}
use Rattle.sheet.specs.declared.Head.{Head}
use Rattle.sheet.proofs.Booleans.{never}
use Rattle.buffers.specs.Differ.{fields_differ, RowsKnown, known_past}
use Rattle.buffers.specs.Typed.{Chain}
use Rattle.buffers.specs.declared.Space.{Space}
use Rattle.buffers.proofs.Sources.{source_next, link_is}
use Rattle.buffers.proofs.Differing.{from_link, row_same, row_named}

-- where the record that follows begins
pub next_at_lem : {space : Space} {s : List ℕ} {link : ℕ} {name : List ℕ} {nullable : Bool} {shape : Shape} {parts rest : Fields}
    → Chain space s link (field name nullable shape parts rest) → (h : Head) → h ≡ head_at s link → h.next ≡ link_to (link + 1 + count parts) rest
next_at_lem {parts = parts} {rest = rest} c h e =
    (source_next c.held.source h e).leads.is ∙ ap (λ (r : ℕ). link_to (r + 1 + count parts) rest) (sym (link_is c.held.source))

-- what is known of two chains of which the first begins at record l
module _ (known : Option ℕ) {l : ℕ} (name : List ℕ) (nullable : Bool) (shape : Shape) (parts rest : Fields) (start : 0 < l) (past : known_past known l ≡ true) where
  -- the second is not at its end, and its first field has the name of the other
  pub known_some : RowsKnown known true l (field name nullable shape parts rest) end → ⊥
  unfolding fields_differ
  known_some k = go known past k
    where
      go : (o : Option ℕ) → known_past o l ≡ true → RowsKnown o true l (field name nullable shape parts rest) end → ⊥
      go None h k = never h
      go (Some d) h k = absurd (omega (arith, ltb-true l d h, k d refl start (omega (arith, ltb-true l d h))))

  pub known_name : (name' : List ℕ) (nullable' : Bool) (shape' : Shape) (parts' rest' : Fields)
      → RowsKnown known true l (field name nullable shape parts rest) (field name' nullable' shape' parts' rest') → same_bytes name name' ≡ true
  known_name name' nullable' shape' parts' rest' k = go known past k
    where
      go : (o : Option ℕ) → known_past o l ≡ true → RowsKnown o true l (field name nullable shape parts rest) (field name' nullable' shape' parts' rest') → same_bytes name name' ≡ true
      go None h k = never h
      go (Some d) h k =
          let lt = ltb-true l d h in
          row_named true l d name nullable shape parts rest name' nullable' shape' parts' rest' (k d refl start (omega (arith, lt))) lt

-- the record of a row is not the header, and the next stands behind its parts
pub row_begins : {space : Space} {s : List ℕ} {l : ℕ} (name : List ℕ) (nullable : Bool) (shape : Shape) (parts rest : Fields) → Chain space s l (field name nullable shape parts rest) → 0 < l
row_begins name nullable shape parts rest a = omega (arith, a.held.source.leads.is, a.held.source.leads.above)

pub row_follows : {next at : ℕ} (r : Fields) → next ≡ link_to at r → ¬ (next ≡ 0) → next ≡ at
row_follows end e z = absurd (z e)
row_follows (field n c sh p q) e z = e

-- the rows behind one at l, of which something may be known, where the record next follows it
pub behind_known : (known : Option ℕ) (named : Bool) {space : Space} {s : List ℕ} {l : ℕ} (name : List ℕ) (nullable : Bool) (shape : Shape) (parts rest : Fields)
    → Chain space s l (field name nullable shape parts rest) → (next : ℕ) → next ≡ link_to (l + 1 + count parts) rest → (n : List ℕ) (c : Bool) (sh : Shape) (p q : Fields)
    → RowsKnown known named l (field name nullable shape parts rest) (field n c sh p q) → RowsKnown known named next rest q
behind_known known named {l = l} name nullable shape parts rest a next en n c sh p q k d f pos le =
    let i = row_follows rest en (λ z. omega arith) in
    from_link named 0 (l + 1 + count parts) rest q en
    ∙ (row_same named l d name nullable shape parts rest n c sh p q (k d f (row_begins name nullable shape parts rest a) (omega arith)) (omega arith) (omega arith)).1
