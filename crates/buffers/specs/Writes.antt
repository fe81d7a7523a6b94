-- What is written into the work space, and where a side is read.
pub use Rattle.sheet.specs.Writes.{Put}
-- the buffer that a side is read from: the candidate stands in the work space, the other type in the sheet
pub use Rattle.buffers.specs.Zones.{side}
