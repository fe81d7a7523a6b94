use Rattle.std.proofs.Common.{sym, ◌∙◌}
use Rattle.resolution.proofs.Folding.{pair_one, pair_many, pair_on}
use Rattle.resolution.proofs.PlainTypes.{steps_joined}
use Rattle.resolution.proofs.resolver.Resolver.pair.Goals as goal

pub returns-then-next-eq0 : goal.returns-then-next-eq0
returns-then-next-eq0 c =
    pair_one c.args.self.now.rules _ c.requires.1 _ c.head_at-x.ensures.0 c.if-next-eq0.true

pub returns-then-y-ne0 : goal.returns-then-y-ne0
returns-then-y-ne0 c =
    pair_many c.args.self.now.rules _ c.requires.1 _ c.head_at-x.ensures.0 c.if-next-eq0.false _ c.head_at-y.ensures.0 c.if-y-ne0.true

pub returns-then-is_plain-2 : goal.returns-then-is_plain-2
returns-then-is_plain-2 c =
    pair_on c.args.self.now.rules _ c.requires.1 _ c.head_at-x.ensures.0 c.if-next-eq0.false _ c.head_at-y.ensures.0 c.if-y-ne0.false _ _
    (steps_joined _ _ _ _ c.head_at-x.ensures.0 c.head_at-y.ensures.0 c.plain_type_of.ensures.0 c.plain_type_of-then-is_plain-2.ensures.0 (sym c.is_plain.ensures ∙ c.if-is_plain.true) (sym c.is_plain-then-is_plain.ensures ∙ c.if-is_plain-2.true) c.common_type-joint.ensures c.lay_joint.ensures)

pub returns : goal.returns
returns c =
    pair_on c.args.self.now.rules _ c.requires.1 _ c.head_at-x.ensures.0 c.if-next-eq0.false _ c.head_at-y.ensures.0 c.if-y-ne0.false _ _ c.merge_pair.ensures
