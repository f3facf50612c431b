-- `run_buffers::is_enough` meets its contract.
use borrow.Author.Rules.{rules}
use Rattle.lent_limits.proofs.Enough.{size_exits}
use Rattle.run_buffers.proofs.is_enough.Goals as goal

pub returns-then-counts-lt-COUNTS : goal.returns-then-counts-lt-COUNTS
returns-then-counts-lt-COUNTS c = search (size_exits, rules)

pub returns-then-objects-lt-OBJECTS : goal.returns-then-objects-lt-OBJECTS
returns-then-objects-lt-OBJECTS c = search (size_exits, rules)

pub returns-then-cells-lt-CELLS : goal.returns-then-cells-lt-CELLS
returns-then-cells-lt-CELLS c = search (size_exits, rules)

pub returns-then-locals-lt-LOCALS : goal.returns-then-locals-lt-LOCALS
returns-then-locals-lt-LOCALS c = search (size_exits, rules)

pub returns-then-operands-lt-OPERANDS : goal.returns-then-operands-lt-OPERANDS
returns-then-operands-lt-OPERANDS c = search (size_exits, rules)

pub returns : goal.returns
returns c = search (size_exits, rules)
