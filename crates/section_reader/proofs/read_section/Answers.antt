-- `section_reader::read_section` meets its contract: the size, then the bytes.
use Rattle.section_reader.proofs.Ending.{section-lent, section_over, section_sized}
use Rattle.section_reader.proofs.read_section.Goals as goal

pub returns-then-s-gt-MOST_BYTES : goal.returns-then-s-gt-MOST_BYTES
returns-then-s-gt-MOST_BYTES c = search section_over

pub counted_at-requires : goal.counted_at-requires
counted_at-requires c = search section-lent

pub returns : goal.returns
returns c = search section_sized
