-- `body_references::do_descriptor` meets its contract.
use borrow.Author.Rules.{rules}
use Rattle.body_references.proofs.Doing.{do_exits}
use Rattle.body_references.proofs.do_descriptor.Goals as goal

pub overflow_mul-wanted : goal.overflow_mul-wanted
overflow_mul-wanted c = search (do_exits, rules)

pub overflow_add-wanted : goal.overflow_add-wanted
overflow_add-wanted c = search (do_exits, rules)

pub overflow_mul-wanted-2 : goal.overflow_mul-wanted-2
overflow_mul-wanted-2 c = search (do_exits, rules)

pub overflow_add-wanted-2 : goal.overflow_add-wanted-2
overflow_add-wanted-2 c = search (do_exits, rules)

pub overflow_add-wanted-3 : goal.overflow_add-wanted-3
overflow_add-wanted-3 c = search (do_exits, rules)

pub take_one-taken-requires : goal.take_one-taken-requires
take_one-taken-requires c = search (do_exits, rules)

pub enum_known-taken : goal.enum_known-taken
enum_known-taken c = search (do_exits, rules)

pub enum_known-taken-in-Took-1 : goal.enum_known-taken-in-Took-1
enum_known-taken-in-Took-1 c = search (do_exits, rules)

pub descriptor_word-word-requires : goal.descriptor_word-word-requires
descriptor_word-word-requires c = search (do_exits, rules)

pub put_operand-requires : goal.put_operand-requires
put_operand-requires c = search (do_exits, rules)

pub returns-in-Fault : goal.returns-in-Fault
returns-in-Fault c = search (do_exits, rules)

pub returns-in-Took : goal.returns-in-Took
returns-in-Took c = search (do_exits, rules)
