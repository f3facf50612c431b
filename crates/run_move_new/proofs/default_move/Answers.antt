-- `run_move_new::default_move` meets its contract.
use borrow.Author.Rules.{rules}
use Rattle.run_move_new.proofs.Makers.{make_exits}
use Rattle.run_move_new.proofs.default_move.Goals as goal

pub enum_told-1 : goal.enum_told-1
enum_told-1 c = search (make_exits, rules)

pub enum_known-shape : goal.enum_known-shape
enum_known-shape c = search (make_exits, rules)

pub all_default-requires : goal.all_default-requires
all_default-requires c = search (make_exits, rules)

pub returns-then-not-all_default : goal.returns-then-not-all_default
returns-then-not-all_default c = search (make_exits, rules)

pub room_for-requires : goal.room_for-requires
room_for-requires c = search (make_exits, rules)

pub overflow_cast-result : goal.overflow_cast-result
overflow_cast-result c = search (make_exits, rules)

pub returns-then-room_for : goal.returns-then-room_for
returns-then-room_for c = search (make_exits, rules)

pub returns-in-Func : goal.returns-in-Func
returns-in-Func c = search (make_exits, rules)

pub returns-else-room_for : goal.returns-else-room_for
returns-else-room_for c = search (make_exits, rules)
