-- `body_judge::judge_typed` meets its contract.
use borrow.Author.Rules.{rules}
use Rattle.body_judge.proofs.Typing.{typed_exits}
use Rattle.body_judge.proofs.judge_typed.Goals as goal

pub enum_told-1 : goal.enum_told-1
enum_told-1 c = search (typed_exits, rules)

pub enum_known-shape : goal.enum_known-shape
enum_known-shape c = search (typed_exits, rules)

pub start-started-requires : goal.start-started-requires
start-started-requires c = search (typed_exits, rules)

pub enum_known-started : goal.enum_known-started
enum_known-started c = search (typed_exits, rules)

pub enum_known-started-in-Ok-1 : goal.enum_known-started-in-Ok-1
enum_known-started-in-Ok-1 c = search (typed_exits, rules)

pub judge_all-ended-requires : goal.judge_all-ended-requires
judge_all-ended-requires c = search (typed_exits, rules)

pub finish-requires : goal.finish-requires
finish-requires c = search (typed_exits, rules)

pub returns-in-Struct : goal.returns-in-Struct
returns-in-Struct c = search (typed_exits, rules)

pub returns-in-Err : goal.returns-in-Err
returns-in-Err c = search (typed_exits, rules)

pub returns-in-Ok : goal.returns-in-Ok
returns-in-Ok c = let typing = c.requires.typing in search (typing, typed_exits, rules)
