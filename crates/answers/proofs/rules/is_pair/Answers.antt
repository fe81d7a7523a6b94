use Rattle.answers.proofs.Refusing.{pair_one, pair_two}
use Rattle.answers.proofs.rules.is_pair.Goals as goal

pub returns-then-second-ne0 : goal.returns-then-second-ne0
returns-then-second-ne0 c =
    pair_two
    _
    c.args.space
    (λ i. (c.type_inv.sheet i).fits)
    c.requires
    (rw (c.listed.ensures.0, c.listed.ensures.1) at c.next-second.ensures.1)
    c.if-second-ne0.true
    (rw (c.next-second.ensures.0, c.listed.ensures.0) at c.next.ensures.1)

pub returns-else-second-ne0 : goal.returns-else-second-ne0
returns-else-second-ne0 c =
    pair_one
    _
    c.args.space
    (λ i. (c.type_inv.sheet i).fits)
    c.requires
    (rw (c.listed.ensures.0, c.listed.ensures.1) at c.next-second.ensures.1)
    c.if-second-ne0.false
