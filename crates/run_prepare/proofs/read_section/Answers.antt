-- `run_prepare::read_section` meets its contract: the sections of an accepted body are accepted.
use borrow.Author.Rules.{rules}
use Rattle.run_prepare.proofs.Ways.{section_exits, may_type}
use Rattle.run_prepare.proofs.read_section.Goals as goal

pub enum_known-judged : goal.enum_known-judged
enum_known-judged c = search (section_exits, rules)

pub enum_known-judged-in-Ok-1 : goal.enum_known-judged-in-Ok-1
enum_known-judged-in-Ok-1 c = search (section_exits, rules)

pub overflow_cast-count : goal.overflow_cast-count
overflow_cast-count c = search (section_exits, rules)

pub read_type-requires : goal.read_type-requires
read_type-requires c = search (may_type, section_exits, rules)

pub returns-in-Err : goal.returns-in-Err
returns-in-Err c = search (section_exits, rules)

pub returns-in-Ok : goal.returns-in-Ok
returns-in-Ok c = search (section_exits, rules)
