use Rattle.std.proofs.Common.{sym, ap, ◌∙◌, true, ℕ}
use Rattle.std.specs.Int.Bits.{bit_or}
use Rattle.plain.proofs.Valuing.{same_plain_types}
use Rattle.plain.proofs.Taking.{bit_moved}
use Rattle.plain.proofs.taken.taken_kinds.Goals as goal

pub returns-then-is_bare : goal.returns-then-is_bare
returns-then-is_bare c =
    rw (sym (c.if-eq.ensures ∙ same_plain_types c.args.last c.args.next true), sym c.if-is_bare.ensures)
    (ap (λ (b : ℕ). bit_or c.args.kinds b) (bit_moved c.args.x.kind c.requires))

pub returns-else-is_bare : goal.returns-else-is_bare
returns-else-is_bare c =
    rw (sym (c.if-eq.ensures ∙ same_plain_types c.args.last c.args.next true), sym c.if-is_bare.ensures)

pub returns-else-eq : goal.returns-else-eq
returns-else-eq c =
    rw (sym (c.if-eq.ensures ∙ same_plain_types c.args.last c.args.next true))
