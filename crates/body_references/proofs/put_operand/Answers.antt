-- `body_references::put_operand` meets its contract.
use borrow.Author.Rules.{rules}
use Rattle.body_references.proofs.Doing.{do_exits}
use Rattle.body_references.proofs.put_operand.Goals as goal

pub overflow_cast-base : goal.overflow_cast-base
overflow_cast-base c = search (do_exits, rules)

pub overflow_add-left : goal.overflow_add-left
overflow_add-left c = search (do_exits, rules)

pub overflow_add-base : goal.overflow_add-base
overflow_add-base c = search (do_exits, rules)

pub returns-then-base-left-gt-MOST_OPERANDS : goal.returns-then-base-left-gt-MOST_OPERANDS
returns-then-base-left-gt-MOST_OPERANDS c = search (do_exits, rules)

pub push-requires : goal.push-requires
push-requires c = search (do_exits, rules)

pub overflow_add-result : goal.overflow_add-result
overflow_add-result c = search (do_exits, rules)

pub returns : goal.returns
returns c = search (do_exits, rules)
