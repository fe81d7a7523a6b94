use mathlib.Core.Path.{ap, ◌∙◌}
use mathlib.Core.List.{List}
use Prim.Native.Nat.{ℕ}
use lib.Seq.{take-length}
use Rattle.sheet.specs.Names.{same_bytes}
use Rattle.sheet.specs.Read.{label_at}
use Rattle.partners.proofs.search.is_named.Goals as goal

pub returns : goal.returns
returns c =
    c.same_label.ensures ∙ ap (λ (u : List ℕ). same_bytes u (label_at c.args.t.now c.args.n c.args.h.name c.args.h.name_len)) (take-length c.args.want.now)
