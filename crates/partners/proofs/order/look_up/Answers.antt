use borrow.Author.Rules.{rules}
use mathlib.Core.Path.{◌≡◌, refl, ap, sym, ◌∙◌}
use lib.ListN.{get_or}
use Prim.Native.Nat.{ℕ}
use Rattle.std.specs.Cmp.Lexicographic.{slice_cmp}
use Rattle.std.specs.declared.cmp.Ordering.{Ordering}
use Rattle.std.specs.Ordering.{nat_cmp}
use Rattle.std.proofs.lemmas.Fn.{always_returns_same}
use Rattle.std.proofs.lemmas.List.Elements.{All-get_or}
use Rattle.std.proofs.lemmas.Map.Lookups.{exact_bytes}
use Rattle.sheet.specs.Head.{head_at}
use Rattle.sheet.specs.Names.{same_bytes}
use Rattle.sheet.proofs.Bytewise.{same_self}
use Rattle.partners.specs.Naming.{Member, name_of}
use Rattle.partners.proofs.Naming.{within_here}
use Rattle.partners.proofs.order.look_up.Goals as goal

pub returns-in-Ok : goal.returns-in-Ok
returns-in-Ok c =
    let m = All-get_or (Member c.args.n c.args.t.now c.args.r) _ c.in-Ok.k 0 c.in-Ok.ensures.bound c.requires.1 in
    let by_name : ℕ → Ordering = λ j. slice_cmp nat_cmp (name_of c.args.t.now c.args.n j) c.args.want.now in
    let e = exact_bytes _ _ (c.in-Ok.ensures.position by_name (always_returns_same _ (λ a r. r ≡ by_name a.0.now) _ (λ a r f' k. search rules)) 0) in
    rw c.from.ensures (m.0, within_here _ _ _ _ (head_at c.args.t.now (get_or c.args.recs.now c.in-Ok.k 0)) refl c.if-recs-k-gt0.true m.1 c.args.want.now (sym (ap (same_bytes c.args.want.now) e ∙ same_self c.args.want.now)))
