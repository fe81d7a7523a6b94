use mathlib.Core.Bool.{true, false}
use Prim.Native.Nat.{◌-◌}
use mathlib.Core.Path.{refl}
use borrow.Author.Rules.{rules}
use Rattle.std.proofs.lemmas.Iterator.{cases_from_any, YieldsList-from_range}
use Rattle.refusals.specs.RepeatedNames.{StructRepeats}
use Rattle.refusals.proofs.Finding.{row_tells}
use Rattle.refusals.proofs.repeated_names.names_repeat.Goals as goal

pub returns : goal.returns
returns c =
    row_tells c.args.sheet.now c.args.n c.any.result
    (cases_from_any _ _ c.any.result (λ j. StructRepeats c.args.sheet.now c.args.n j true) (λ j. StructRepeats c.args.sheet.now c.args.n j false) c.any.ensures.ran (YieldsList-from_range 1 c.args.n (c.args.n - 1) refl refl) (λ j q k. search rules) (λ j q k. search rules))
