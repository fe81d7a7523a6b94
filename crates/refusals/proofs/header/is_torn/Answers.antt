use mathlib.Core.Path.{sym}
use Rattle.refusals.proofs.Scans.{torn_short, torn_length, torn_rest}
use Rattle.refusals.proofs.header.is_torn.Goals as goal

pub returns-then-s-lt-RECORD_BYTES : goal.returns-then-s-lt-RECORD_BYTES
returns-then-s-lt-RECORD_BYTES c =
    sym (torn_short _ c.if-s-lt-RECORD_BYTES.true)

pub returns-then-s-n : goal.returns-then-s-n
returns-then-s-n c =
    sym (torn_length _ _ _ c.word_at-n.ensures.0 c.word_at-m.ensures.0 c.if-s-n.true)

pub returns : goal.returns
returns c =
    torn_rest _ _ _ c.word_at-n.ensures.0 c.word_at-m.ensures.0 c.if-s-lt-RECORD_BYTES.false c.if-s-n.false c.is_rest_zero.ensures
