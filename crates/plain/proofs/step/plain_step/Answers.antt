use native.Mathlib.Omega.{arith}
use Rattle.coercion.specs.Strings.{string_coercion, binary_coercion}
use Rattle.plain.proofs.Steps.{kinds_read}
use Rattle.plain.proofs.Picking.{spoken}
use Rattle.plain.proofs.step.plain_step.Goals as goal

pub returns-then-m : goal.returns-then-m
returns-then-m c = λ l r p q. spoken c.args.rules l r p q 0 (grind arith) (c.numeric.ensures l r p q)

pub returns-then-k-eq-NULL : goal.returns-then-k-eq-NULL
returns-then-k-eq-NULL c = λ l r p q. spoken c.args.rules l r p q 3 (grind arith) (c.null.ensures l r p q)

pub returns-then-t : goal.returns-then-t
returns-then-t c = λ l r p q. spoken c.args.rules l r p q 2 (grind arith) (kinds_read string_coercion (c.of_found.ensures l r) c.string_coercion.ensures p.kind q.kind)

pub returns-then-m-2 : goal.returns-then-m-2
returns-then-m-2 c = λ l r p q. spoken c.args.rules l r p q 4 (grind arith) (c.string_number.ensures l r p q)

pub returns-then-timed : goal.returns-then-timed
returns-then-timed c = λ l r p q. spoken c.args.rules l r p q 5 (grind arith) (c.string_time.ensures l r p q)

pub returns-then-timed-2 : goal.returns-then-timed-2
returns-then-timed-2 c = λ l r p q. spoken c.args.rules l r p q 1 (grind arith) (c.temporal.ensures l r p q)

pub returns : goal.returns
returns c = λ l r p q. spoken c.args.rules l r p q 6 (grind arith) (kinds_read binary_coercion (c.of_found-2.ensures l r) c.binary_coercion.ensures p.kind q.kind)
