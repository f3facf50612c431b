-- `run_buffers::settle` meets its contract.
use borrow.Author.Rules.{rules}
use Rattle.run_buffers.proofs.Settles.{settle_exits}
use Rattle.run_buffers.proofs.settle.Goals as goal

pub put_counts-requires : goal.put_counts-requires
put_counts-requires c = search (settle_exits, rules)

pub settle_heap-requires : goal.settle_heap-requires
settle_heap-requires c = search (settle_exits, rules)

pub settle_values-requires : goal.settle_values-requires
settle_values-requires c = search (settle_exits, rules)

pub settle_blocks-requires : goal.settle_blocks-requires
settle_blocks-requires c = search (settle_exits, rules)

pub returns : goal.returns
returns c = search (settle_exits, rules)
