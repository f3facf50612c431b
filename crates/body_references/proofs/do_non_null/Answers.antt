-- `body_references::do_non_null` meets its contract.
use borrow.Author.Rules.{rules}
use Rattle.body_references.proofs.Doing.{do_exits}
use Rattle.body_references.proofs.do_non_null.Goals as goal

pub take_one-taken-requires : goal.take_one-taken-requires
take_one-taken-requires c = search (do_exits, rules)

pub enum_known-taken : goal.enum_known-taken
enum_known-taken c = search (do_exits, rules)

pub enum_known-taken-in-Took-1 : goal.enum_known-taken-in-Took-1
enum_known-taken-in-Took-1 c = search (do_exits, rules)

pub non_null_word-word-requires : goal.non_null_word-word-requires
non_null_word-word-requires c = search (do_exits, rules)

pub put_operand-requires : goal.put_operand-requires
put_operand-requires c = search (do_exits, rules)

pub returns-in-Fault : goal.returns-in-Fault
returns-in-Fault c = search (do_exits, rules)

pub returns-in-Took : goal.returns-in-Took
returns-in-Took c = search (do_exits, rules)
