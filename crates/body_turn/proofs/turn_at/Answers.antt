use borrow.Author.Rules.{rules}
use Rattle.body_turn.proofs.OneTurn.{turn_exits}
use Rattle.body_turn.proofs.turn_at.Goals as goal

pub instruction_at-read-requires : goal.instruction_at-read-requires
instruction_at-read-requires c = search (turn_exits, rules)

pub enum_known-read : goal.enum_known-read
enum_known-read c = search (turn_exits, rules)

pub enum_known-read-in-Ok-1 : goal.enum_known-read-in-Ok-1
enum_known-read-in-Ok-1 c = search (turn_exits, rules)

pub step-stepped-requires : goal.step-stepped-requires
step-stepped-requires c = search (turn_exits, rules)

pub enum_known-stepped : goal.enum_known-stepped
enum_known-stepped c = search (turn_exits, rules)

pub enum_told-1 : goal.enum_told-1
enum_told-1 c = search (turn_exits, rules)

pub enum_known-stepped-in-On-1 : goal.enum_known-stepped-in-On-1
enum_known-stepped-in-On-1 c = search (turn_exits, rules)

pub returns-in-Err : goal.returns-in-Err
returns-in-Err c = search (turn_exits, rules)

pub returns-in-Fault : goal.returns-in-Fault
returns-in-Fault c = search (turn_exits, rules)

pub returns-in-Finished : goal.returns-in-Finished
returns-in-Finished c = search (turn_exits, rules)

pub returns-in-On : goal.returns-in-On
returns-in-On c = search (turn_exits, rules)
