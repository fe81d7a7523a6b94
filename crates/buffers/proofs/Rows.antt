-- A chain at a link: its first row, and those behind it. Assumes nothing.
use mathlib.Core.Path.{◌≡◌, subst}
use mathlib.Core.Bool.{Bool}
use mathlib.Core.List.{List}
use Prim.Native.Nat.{ℕ}
use Rattle.sheet.specs.Types.{Shape, Fields, end, field}
use Rattle.sheet.specs.Head.{head_at, nullable_in}
use Rattle.sheet.specs.Read.{label_at}
use Rattle.sheet.specs.declared.Head.{Head}
use Rattle.buffers.specs.Target.{type_of}
use Rattle.buffers.specs.Typed.{Chain, Typed}
use Rattle.buffers.specs.declared.Space.{Space}
use Rattle.buffers.proofs.Sources.{read_name, read_nullable}
use Rattle.buffers.proofs.Chained.{held_end, held_next}

-- a chain at a link that is 0, and at another
pub chain_end : {space : Space} {s : List ℕ} {link : ℕ} {t : Fields} → link ≡ 0 → Chain space s link t → t ≡ end
chain_end {t = t} z c = held_end t z c.held

pub chain_link : {space : Space} {s : List ℕ} {link : ℕ} {t : Fields} → t ≡ end → Chain space s link t → link ≡ 0
chain_link {t = end} e c = c.held.source.leads.is
chain_link {space} {s} {link} {t = field name nullable shape parts rest} e c = (subst (λ (x : Fields). Chain space s link x) e c).held.source.leads.is

module _ {space : Space} {s : List ℕ} {link : ℕ} {name : List ℕ} {nullable : Bool} {shape : Shape} {parts rest : Fields}
    (c : Chain space s link (field name nullable shape parts rest)) where
  pub chain_typed : Typed space s link (type_of shape parts)
  chain_typed = record { name = name; nullable = nullable; rest = rest; chain = c }

  pub chain_next : (h : Head) → h ≡ head_at s link → Chain space s h.next rest
  chain_next h e = record { floor = link; at = _; label = _; up = c.up; held = held_next c.held h e }

  pub chain_nullable : (h : Head) → h ≡ head_at s link → nullable_in h ≡ nullable
  chain_nullable h e = read_nullable c.held.source h e

  pub chain_name : (h : Head) → h ≡ head_at s link → label_at s space.n h.name h.name_len ≡ name
  chain_name h e = read_name c.held.source h e
