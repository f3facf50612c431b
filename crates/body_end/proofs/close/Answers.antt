-- `body_end::close` meets its contract.
use borrow.Author.Rules.{rules}
use Rattle.body_end.proofs.Ending.{end_exits, block_fault, block_left}
use Rattle.body_end.proofs.close.Goals as goal

pub end_with-ended-requires : goal.end_with-ended-requires
end_with-ended-requires c = search (end_exits, rules)

pub enum_known-ended : goal.enum_known-ended
enum_known-ended c = search (end_exits, rules)

pub returns-in-Fault : goal.returns-in-Fault
returns-in-Fault c = search (end_exits, rules)

pub enum_told-1 : goal.enum_told-1
enum_told-1 c = search (end_exits, rules)

pub returns-in-Fine : goal.returns-in-Fine
returns-in-Fine c = search (end_exits, rules)

pub overflow_cast-m : goal.overflow_cast-m
overflow_cast-m c = search (end_exits, rules)

pub overflow_add-m : goal.overflow_add-m
overflow_add-m c = search (end_exits, rules)

pub results_of-list-requires : goal.results_of-list-requires
results_of-list-requires c = search (end_exits, rules)

pub end_with-ended-requires-2 : goal.end_with-ended-requires-2
end_with-ended-requires-2 c = search (end_exits, rules)

pub enum_known-ended-in-Fault-ended-2 : goal.enum_known-ended-in-Fault-ended-2
enum_known-ended-in-Fault-ended-2 c = search (end_exits, rules)

pub enum_told-in-Fine-ended : goal.enum_told-in-Fine-ended
enum_told-in-Fine-ended c = search (end_exits, rules)

pub step_out-requires : goal.step_out-requires
step_out-requires c = search (end_exits, rules)

pub returns-in-Fault-ended : goal.returns-in-Fault-ended
returns-in-Fault-ended c = search (block_fault, block_left)

pub returns-in-Fine-ended : goal.returns-in-Fine-ended
returns-in-Fine-ended c = search (block_fault, block_left)
