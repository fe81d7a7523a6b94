use mathlib.Core.Path.{sym, ◌∙◌}
use Rattle.sheet.proofs.Bytewise.{same_equal}
use Rattle.refusals.proofs.records.Records.by_number.Goals as goal

pub returns-in-Some : goal.returns-in-Some
returns-in-Some c =
    let e = c.in-Some.ensures in (e.0, (e.1.0, same_equal _ _ (sym c.have_one_name.ensures ∙ c.if-have_one_name.true)))
