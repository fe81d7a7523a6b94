use mathlib.Core.Path.{refl}
use Rattle.std.proofs.lemmas.Result.{err_from_is_err_and}
use Rattle.buffers.specs.Writes.{side}
use Rattle.buffers.proofs.Spanning.{heads_moved, span_stop, span_bare, span_done}
use Rattle.buffers.proofs.sides.Sides.copy_items.Goals as goal

pub returns-in_err-d : goal.returns-in_err-d
returns-in_err-d c =
    let p = err_from_is_err_and c.from_residual.result c.from_residual.ensures.1 in
    rw (p.1, p.2) (span_stop c.args.self.now.space c.args.self.now.sheet.now c.args.self.now.swap c.args.link c.args.end c.args.to c.args.work.now c.requires.room.0 c.requires.room.1 c.requires.fits.0 c.requires.fits.1.0 _ refl c.requires.fits.1.1 _ _ (heads_moved c.args.self.now.space (side c.args.self.now.swap c.args.self.now.sheet.now c.args.work.now) c.args.work.now _ c.args.link _ c.args.to c.requires.room.0 c.requires.fits.1.1 c.put_label.ensures _ _ c.in_err-d.ensures))

pub returns-then-d-to : goal.returns-then-d-to
returns-then-d-to c =
    span_bare c.args.self.now.space c.args.self.now.sheet.now c.args.self.now.swap c.args.link c.args.end c.args.to c.args.work.now c.requires.room.0 c.requires.room.1 c.requires.fits.0 c.requires.fits.1.0 _ refl c.requires.fits.1.1 _ _ (heads_moved c.args.self.now.space (side c.args.self.now.swap c.args.self.now.sheet.now c.args.work.now) c.args.work.now _ c.args.link _ c.args.to c.requires.room.0 c.requires.fits.1.1 c.put_label.ensures _ _ c.in_ok-d.ensures) c.if-d-to.true

pub returns : goal.returns
returns c =
    span_done c.args.self.now.space c.args.self.now.sheet.now c.args.self.now.swap c.args.link c.args.end c.args.to c.args.work.now c.requires.room.0 c.requires.room.1 c.requires.fits.0 c.requires.fits.1.0 _ refl c.requires.fits.1.1 _ _ (heads_moved c.args.self.now.space (side c.args.self.now.swap c.args.self.now.sheet.now c.args.work.now) c.args.work.now _ c.args.link _ c.args.to c.requires.room.0 c.requires.fits.1.1 c.put_label.ensures _ _ c.in_ok-d.ensures) c.if-d-to.false _ c.labels_from-from.ensures _ c.put_label-2.ensures
