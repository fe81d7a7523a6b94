use Rattle.sheet.proofs.Mixing.{mixed_done}
use Rattle.sheet.proofs.label.mix.Goals as goal

pub returns : goal.returns
returns c =
    (mixed_done c.args.name.now c.as_chunks.result.1.now c.loop-byte.k c.loop-byte.byte-index c.as_chunks.ensures.back c.loop-byte-test.false c.loop-byte.invariant, c.loop-byte.auto.k-fits.fits)
