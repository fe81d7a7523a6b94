use Rattle.std.specs.Prelude.{Ok}
use Rattle.std.proofs.lemmas.Result.{err_from_is_err_and}
use Rattle.buffers.proofs.Chained.{chain_none}
use Rattle.buffers.proofs.Laying.{type_stop, type_copied}
use Rattle.buffers.proofs.sides.Sides.copy_type.Goals as goal

pub returns-in_err-d : goal.returns-in_err-d
returns-in_err-d c =
    let p = err_from_is_err_and c.from_residual.result c.from_residual.ensures.1 in
    rw (p.1, p.2) (type_stop (c.args.self.now.space) (c.args.self.now.sheet.now) (c.args.work.now) (c.args.self.now.swap) (c.args.link) (c.args.g) (c.requires.0) _ (c.head-h.ensures.0) _ _ (c.in_err-d.ensures))

pub returns-then-h-eq0 : goal.returns-then-h-eq0
returns-then-h-eq0 c =
    let x = c.in_ok-d.ensures in type_copied (c.args.self.now.space) (c.args.self.now.sheet.now) (c.args.work.now) (c.args.self.now.swap) (c.args.link) (c.args.g) (c.requires.0) _ (c.head-h.ensures.0) _ _ x _ (Ok _) (chain_none (c.args.self.now.space) (c.args.self.now.sheet.now) (c.args.self.now.swap) _ _ _ x.passes.0 (c.if-h-eq0.true))

pub returns : goal.returns
returns c =
    type_copied (c.args.self.now.space) (c.args.self.now.sheet.now) (c.args.work.now) (c.args.self.now.swap) (c.args.link) (c.args.g) (c.requires.0) _ (c.head-h.ensures.0) _ _ (c.in_ok-d.ensures) _ (c.copy_fields.result) (c.copy_fields.ensures)
