use mathlib.Core.Bool.{not}
use Rattle.buffers.specs.Writes.{side}
use Rattle.partners.specs.Partners.{key_of}
use Rattle.partners.specs.Naming.{Walked}
use Rattle.partners.proofs.Noting.{notes_true}
use Rattle.partners.proofs.names.struct_feed.Goals as goal

pub returns-clause-table_stays : goal.returns-clause-table_stays
returns-clause-table_stays c =
    let m : Walked c.args.sides.now.space.n (side c.args.sides.now.swap c.args.sides.now.sheet.now c.args.work.now) (side (not c.args.sides.now.swap) c.args.sides.now.sheet.now c.args.work.now) c.args.known c.args.by_name c.args.floor c.args.l c.args.r (key_of c.args.sides.now.swap 0)
    c.args.table.now c.feed_along.new.table c.feed_along.result =
    rw (← c.slices.ensures.0, ← c.slices.ensures.1, ← c.key_of-key.ensures) c.feed_along.ensures in
    (m.long, notes_true _ c.args.sides.now.swap _ _ _ _ m.notes)
