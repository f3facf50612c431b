-- `body_frame_words::put_own` meets its contract.
use borrow.Author.Rules.{rules}
use Rattle.body_frame_words.proofs.Writing.{write_exits}
use Rattle.body_frame_words.proofs.put_own.Goals as goal

pub overflow_mul-row : goal.overflow_mul-row
overflow_mul-row c = search (write_exits, rules)

pub overflow_add-row : goal.overflow_add-row
overflow_add-row c = search (write_exits, rules)

pub flag_of-kind-requires : goal.flag_of-kind-requires
flag_of-kind-requires c = search (write_exits, rules)

pub overflow_cast-put32 : goal.overflow_cast-put32
overflow_cast-put32 c = search (write_exits, rules)

pub overflow_add-row-2 : goal.overflow_add-row-2
overflow_add-row-2 c = search (write_exits, rules)

pub put32-requires : goal.put32-requires
put32-requires c = search (write_exits, rules)

pub overflow_cast-put32-2 : goal.overflow_cast-put32-2
overflow_cast-put32-2 c = search (write_exits, rules)

pub overflow_add-row-3 : goal.overflow_add-row-3
overflow_add-row-3 c = search (write_exits, rules)

pub put32-requires-2 : goal.put32-requires-2
put32-requires-2 c = search (write_exits, rules)

pub overflow_cast-put32-3 : goal.overflow_cast-put32-3
overflow_cast-put32-3 c = search (write_exits, rules)

pub overflow_add-row-4 : goal.overflow_add-row-4
overflow_add-row-4 c = search (write_exits, rules)

pub put32-requires-3 : goal.put32-requires-3
put32-requires-3 c = search (write_exits, rules)

pub returns : goal.returns
returns c = search (write_exits, rules)
