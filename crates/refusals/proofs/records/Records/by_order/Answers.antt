use mathlib.Core.Path.{◌≡◌}
use borrow.Author.Rules.{rules}
use Rattle.std.specs.Ordering.{is_lt}
use Rattle.std.proofs.lemmas.Cmp.{nat_list_cmp_total}
use Rattle.std.proofs.lemmas.Fn.{always_returns_same}
use Rattle.std.proofs.lemmas.List.Sorted.{ranks_by}
use Rattle.refusals.specs.RepeatedNames.{record_name}
use Rattle.refusals.proofs.Ordering.{by_name, neighbours_tell}
use Rattle.refusals.proofs.records.Records.by_order.Goals as goal

pub returns : goal.returns
returns c =
    neighbours_tell c.args.self.sheet.now c.args.self.n c.args.recs.now c.sort_unstable_by.new.self c.neighbours_agree.result c.sort_unstable_by.ensures.permutation
    (c.sort_unstable_by.ensures.sorted (λ a b. is_lt (by_name c.args.self.sheet.now c.args.self.n a b)) (ranks_by nat_list_cmp_total (record_name c.args.self.sheet.now c.args.self.n)) (always_returns_same _ (λ a r. is_lt r ≡ is_lt (by_name c.args.self.sheet.now c.args.self.n a.0.now a.1.0.now)) _ (λ a r f' k. search rules)))
    c.neighbours_agree.ensures
