use mathlib.Core.Path.{refl, ◌∙◌}
use native.Mathlib.Omega.{arith}
use mathlib.Core.Bool.{true}
use lib.ListN.{length-set, get_or}
use borrow.Author.Rules.{rules}
use Rattle.refusals.proofs.Marking.{marked_more, unmet, unfound, differ_more}
use Rattle.refusals.proofs.name_numbers.equal_numbers.Goals.{else-marks-q-via-then-marks-q+in-None-1, else-marks-q-via-else-marks-q}
use Rattle.refusals.proofs.name_numbers.equal_numbers.Goals as goal

pub loop-i-preserved : goal.loop-i-preserved
loop-i-preserved c = (
  length-set c.loop-i.marks c.key-q.result true ∙ c.loop-i.invariant.0,
  (
    marked_more c.args.xs.now c.loop-i.marks c.loop-i.i c.key-q.result (omega arith) c.key-q.ensures.0 c.loop-i.invariant.1.0,
    differ_more (λ j. get_or c.args.xs.now j 0) c.loop-i.i _ refl
        (elim c.else-marks-q.branch [
          | else-marks-q-via-then-marks-q+in-None-1 w ↦ unfound c.args.xs.now _ c.loop-i.i w.place_of.result (omega arith) w.place_of.ensures (search rules)
          | else-marks-q-via-else-marks-q w ↦ unmet c.args.xs.now c.loop-i.marks c.loop-i.i _ c.key-q.result c.key-q.ensures.0 c.loop-i.invariant.1.0 w.if-marks-q.false
        ]) c.loop-i.invariant.1.1,
  ),
)
