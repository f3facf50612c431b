-- `run_turn::turn_of` meets its contract.
use borrow.Author.Rules.{rules}
use Rattle.run_turn.proofs.Turning.{turn_exits}
use Rattle.run_turn.proofs.turn_of.Goals as goal

pub overflow_add-after : goal.overflow_add-after
overflow_add-after c = search (turn_exits, rules)

pub enum_told-1 : goal.enum_told-1
enum_told-1 c = search (turn_exits, rules)

pub enum_known-stepped : goal.enum_known-stepped
enum_known-stepped c = search (turn_exits, rules)

pub enum_known-stepped-in-Ends-1 : goal.enum_known-stepped-in-Ends-1
enum_known-stepped-in-Ends-1 c = search (turn_exits, rules)

pub enum_known-stepped-in-Goes-1 : goal.enum_known-stepped-in-Goes-1
enum_known-stepped-in-Goes-1 c = search (turn_exits, rules)

pub returns-in-Astray : goal.returns-in-Astray
returns-in-Astray c = search (turn_exits, rules)

pub returns-in-Traps : goal.returns-in-Traps
returns-in-Traps c = search (turn_exits, rules)

pub returns-in-Ends : goal.returns-in-Ends
returns-in-Ends c = search (turn_exits, rules)

pub returns-in-Goes : goal.returns-in-Goes
returns-in-Goes c = search (turn_exits, rules)
