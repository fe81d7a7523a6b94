use Rattle.std.proofs.Common.{sym, ◌∙◌, true}
use Rattle.std.proofs.lemmas.Option.{same_Some}
use borrow.Author.Tests.{eq-eqb}
use Rattle.merge.proofs.Merging.{typed_differs}
use Rattle.resolution.proofs.Keeping.{equal_kept}
use Rattle.resolution.proofs.Shifting.{on_candidate}
use Rattle.resolution.proofs.Listing.{differ_equal}
use Rattle.resolution.proofs.Folding.{steps_kept}
use Rattle.resolution.proofs.resolver.Resolver.step_whole.Goals as goal

pub returns-then-known-eq0 : goal.returns-then-known-eq0
returns-then-known-eq0 c =
    steps_kept c.requires.room.1 (on_candidate c.args.self.now.space c.args.work.now c.requires.room.0 c.requires.room.1 (λ x c' a b. equal_kept c.args.self.now.rules x c' (sym (differ_equal c.differ_type-known.ensures x c' a b) ∙ eq-eqb _ 0 c.if-known-eq0.true)))

pub step-requires-clause-compared : goal.step-requires-clause-compared
step-requires-clause-compared c =
    record { is = on_candidate c.args.self.now.space c.args.work.now c.requires.room.0 c.requires.room.1 (λ x c' a b i h. sym (typed_differs true c.differ_type-known.ensures a b) ∙ same_Some _ i h) }
