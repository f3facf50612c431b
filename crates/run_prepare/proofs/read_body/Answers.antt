-- `run_prepare::read_body` meets its contract: what was accepted is read again.
use borrow.Author.Rules.{rules}
use Rattle.run_prepare.proofs.Ways.{body_read, body_exits}
use Rattle.run_prepare.proofs.read_body.Goals as goal

pub start-started-requires : goal.start-started-requires
start-started-requires c = search (body_exits, rules)

pub enum_known-started : goal.enum_known-started
enum_known-started c = search (body_exits, rules)

pub enum_known-started-in-Ok-1 : goal.enum_known-started-in-Ok-1
enum_known-started-in-Ok-1 c = search (body_exits, rules)

pub all_default-requires : goal.all_default-requires
all_default-requires c = search (body_exits, rules)

pub returns-then-not-all_default : goal.returns-then-not-all_default
returns-then-not-all_default c = search (body_exits, rules)

pub fill_ends-requires : goal.fill_ends-requires
fill_ends-requires c = search (body_exits, rules)

pub returns-then-not-fill_ends : goal.returns-then-not-fill_ends
returns-then-not-fill_ends c = search (body_exits, rules)

pub returns-in-Err : goal.returns-in-Err
returns-in-Err c = search (body_exits, rules)

pub returns-else-not-fill_ends : goal.returns-else-not-fill_ends
returns-else-not-fill_ends c = search (body_read, body_exits, rules)
