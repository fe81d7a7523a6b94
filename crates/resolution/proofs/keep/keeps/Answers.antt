use mathlib.Core.Path.{ap, sym, ◌∙◌}
use Rattle.resolution.specs.Keeps.{gives_way}
use Rattle.resolution.proofs.Keeping.{keeps_alone, keeps_under, keeps_zoned}
use Rattle.resolution.proofs.keep.keeps.Goals as goal

pub returns-then-not-gives_way : goal.returns-then-not-gives_way
returns-then-not-gives_way c =
    λ z at t y a d. keeps_under c.args.rules _ _ _ c.head_at-x.ensures.0 c.head_at-v.ensures.0 c.head_at-wrapped.ensures.0 at.core t y a d (sym c.is_plain.ensures ∙ c.if-is_plain.true) (sym c.is_plain-then-is_plain.ensures ∙ c.if-is_plain-2.true) c.plain_type_of-new.ensures.0 c.plain_type_of-old.ensures.0 c.if-wrapped.true (ap (gives_way _) (at.inner y d) ∙ sym c.gives_way.ensures ∙ c.if-not-gives_way.true) (c.is_common.ensures z)

pub returns-else-wrapped : goal.returns-else-wrapped
returns-else-wrapped c =
    λ z at t y a d. keeps_alone c.args.rules _ _ _ c.head_at-x.ensures.0 c.head_at-v.ensures.0 c.head_at-wrapped.ensures.0 at.core t y a d (sym c.is_plain.ensures ∙ c.if-is_plain.true) (sym c.is_plain-then-is_plain.ensures ∙ c.if-is_plain-2.true) c.plain_type_of-new.ensures.0 c.plain_type_of-old.ensures.0 c.if-wrapped.false (c.is_common-else-wrapped.ensures z)

pub returns-then-wrapped-2 : goal.returns-then-wrapped-2
returns-then-wrapped-2 c =
    λ z at t y a d. keeps_zoned c.args.rules _ _ _ c.head_at-x.ensures.0 c.head_at-v.ensures.0 c.head_at-wrapped.ensures.0 at.core t y a d c.if-wrapped-2.true (sym c.stays_zoned.ensures ∙ z)
