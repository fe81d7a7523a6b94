use mathlib.Core.Path.{sym, ◌∙◌}
use mathlib.Core.List.{List}
use Prim.Native.Nat.{ℕ}
use native.Mathlib.Omega.{arith}
use borrow.Author.Tests.{eq-eqb}
use Rattle.sheet.specs.Head.{word, quad_at}
use Rattle.sheet.proofs.Bytewise.{same_done}
use Rattle.sheet.proofs.Agreeing.{apart, byte_decides, words_decide, quads_decide}
use Rattle.sheet.proofs.label.same_short.Goals as goal

pub returns-then-quad_at : goal.returns-then-quad_at
returns-then-quad_at c =
    quads_decide c.args.a.now c.args.b.now c.type_inv.a c.type_inv.b c.requires.0 (omega arith) (omega arith) c.quad_at.ensures.0 c.quad_at-then-n-ge4.ensures.0 c.if-quad_at.true c.quad_at-then-quad_at.ensures.0 c.quad_at-then-quad_at-2.ensures.0

pub returns-else-quad_at : goal.returns-else-quad_at
returns-else-quad_at c =
    apart (λ (l : List ℕ). quad_at l 0) _ _ c.quad_at.ensures.0 c.quad_at-then-n-ge4.ensures.0 c.if-quad_at.false

pub returns-then-word_at : goal.returns-then-word_at
returns-then-word_at c =
    words_decide c.args.a.now c.args.b.now c.type_inv.a c.type_inv.b c.requires.0 (omega arith) (omega arith) c.word_at.ensures.0 c.word_at-then-n-ge2.ensures.0 c.if-word_at.true c.word_at-then-word_at.ensures.0 c.word_at-then-word_at-2.ensures.0

pub returns-else-word_at : goal.returns-else-word_at
returns-else-word_at c =
    apart (λ (l : List ℕ). word l 0) _ _ c.word_at.ensures.0 c.word_at-then-n-ge2.ensures.0 c.if-word_at.false

pub returns-then-n-eq0 : goal.returns-then-n-eq0
returns-then-n-eq0 c =
    eq-eqb _ _ c.if-n-eq0.true ∙ sym (same_done c.args.a.now c.args.b.now 0 (omega arith) (omega (arith, c.requires.0)))

pub returns-else-n-eq0 : goal.returns-else-n-eq0
returns-else-n-eq0 c =
    byte_decides c.args.a.now c.args.b.now c.type_inv.a c.type_inv.b c.requires.0 (omega arith)
