use native.Mathlib.Omega.{arith}
use Rattle.std.specs.Prelude.{Ok, Err}
use Rattle.std.proofs.lemmas.Result.{err_from_is_err_and}
use Rattle.buffers.proofs.Frames.{kept_trans, kept_wider}
use Rattle.buffers.proofs.Chained.{chain_none, chain_past, chain_on, chain_stop, chain_parts_stop, chain_last, chain_plain, left_on}
use Rattle.buffers.proofs.sides.Sides.+copy_fields.Goals as goal

pub returns-then-self-place : goal.returns-then-self-place
returns-then-self-place t c =
    c.loop-link.invariant.whole (Err _) _ (chain_past (c.args.self.now.space) (c.args.self.now.sheet.now) (c.args.self.now.swap) (c.loop-link.link) (c.loop-link.place) _ (c.loop-link-test.true) (c.if-self-place.true))

pub returns-in_err-place : goal.returns-in_err-place
returns-in_err-place t c =
    let p = err_from_is_err_and c.from_residual.result c.from_residual.ensures.1 in
    rw (p.1, p.2) (c.loop-link.invariant.whole (Err _) _ (chain_stop (c.args.self.now.space) (c.args.self.now.sheet.now) (c.args.self.now.swap) (c.loop-link.link) (c.loop-link.place) _ (c.loop-link.invariant.room) _ (c.head-h.ensures.0) (c.loop-link-test.true) _ _ (c.in_err-place.ensures)))

pub loop-link-preserved-then-h-eq0 : goal.loop-link-preserved-then-h-eq0
loop-link-preserved-then-h-eq0 t c =
    let rec = c.in_ok-place.ensures in left_on (c.loop-link.invariant) rec.kept rec.grows.0 rec.grows.1.0 (chain_last (c.args.self.now.space) (c.args.self.now.sheet.now) (c.args.self.now.swap) (c.loop-link.link) (c.loop-link.place) _ (c.loop-link.invariant.room) _ (c.head-h.ensures.0) (c.loop-link-test.true) _ _ rec (c.if-h-eq0.true))

pub loop-link-preserved-then-h-eq0-2 : goal.loop-link-preserved-then-h-eq0-2
loop-link-preserved-then-h-eq0-2 t c =
    let rec = c.in_ok-place.ensures in left_on (c.loop-link.invariant) rec.kept rec.grows.0 rec.grows.1.0 (chain_plain (c.args.self.now.space) (c.args.self.now.sheet.now) (c.args.self.now.swap) (c.loop-link.link) (c.loop-link.place) _ (c.loop-link.invariant.room) _ (c.head-h.ensures.0) (c.loop-link-test.true) _ _ rec (c.if-h-eq0-2.true))

pub returns-in_err-place-2 : goal.returns-in_err-place-2
returns-in_err-place-2 t c =
    let p = err_from_is_err_and c.from_residual-in_err-place-2.result c.from_residual-in_err-place-2.ensures.1 in
    rw (p.1, p.2) (c.loop-link.invariant.whole (Err _) _ (chain_parts_stop (c.args.self.now.space) (c.args.self.now.sheet.now) (c.args.self.now.swap) (c.loop-link.link) (c.loop-link.place) _ (c.loop-link.invariant.room) _ (c.head-h.ensures.0) (c.loop-link-test.true) _ _ (c.in_ok-place.ensures) _ _ (c.in_err-place-2.ensures)))

pub loop-link-preserved : goal.loop-link-preserved
loop-link-preserved t c =
    let rec = c.in_ok-place.ensures in let b = c.in_ok-place-2.ensures in left_on (c.loop-link.invariant) (kept_trans rec.kept (kept_wider _ _ rec.grows.1.0 rec.grows.1.1 b.kept)) b.grows.0 (omega (arith, rec.grows.1.0, b.grows.1.0)) (chain_on (c.args.self.now.space) (c.args.self.now.sheet.now) (c.args.self.now.swap) (c.loop-link.link) (c.loop-link.place) _ (c.loop-link.invariant.room) _ (c.head-h.ensures.0) (c.loop-link-test.true) _ _ rec _ _ b)

pub returns : goal.returns
returns t c =
    c.loop-link.invariant.whole (Ok _) _ (chain_none (c.args.self.now.space) (c.args.self.now.sheet.now) (c.args.self.now.swap) (c.loop-link.link) (c.loop-link.place) _ (c.loop-link.invariant.inside) (c.loop-link-test.false))
