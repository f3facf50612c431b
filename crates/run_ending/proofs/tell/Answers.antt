-- `run_ending::tell` meets its contract.
use borrow.Author.Rules.{rules}
use Rattle.run_ending.proofs.Exits.{ending_exits}
use Rattle.run_ending.proofs.tell.Goals as goal

pub enum_known-ended : goal.enum_known-ended
enum_known-ended c = search (ending_exits, rules)

pub overflow_cast-result : goal.overflow_cast-result
overflow_cast-result c = search (ending_exits, rules)

pub enum_known-ended-in-Trapped-1 : goal.enum_known-ended-in-Trapped-1
enum_known-ended-in-Trapped-1 c = search (ending_exits, rules)

pub enum_known-ended-in-Spent-1 : goal.enum_known-ended-in-Spent-1
enum_known-ended-in-Spent-1 c = search (ending_exits, rules)

pub enum_told-1 : goal.enum_told-1
enum_told-1 c = search (ending_exits, rules)

pub returns-in-Done : goal.returns-in-Done
returns-in-Done c = search (ending_exits, rules)

pub returns-in-Trapped : goal.returns-in-Trapped
returns-in-Trapped c = search (ending_exits, rules)

pub returns-in-Spent : goal.returns-in-Spent
returns-in-Spent c = search (ending_exits, rules)

pub returns-in-Astray : goal.returns-in-Astray
returns-in-Astray c = search (ending_exits, rules)
