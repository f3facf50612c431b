use borrow.Author.Rules.{rules}
use Rattle.body_lap.proofs.Between.{between_exits}
use Rattle.body_lap.proofs.progress_of.Goals as goal

pub overflow_cast-depth : goal.overflow_cast-depth
overflow_cast-depth c = search (between_exits, rules)

pub overflow_cast-base : goal.overflow_cast-base
overflow_cast-base c = search (between_exits, rules)

pub overflow_cast-height : goal.overflow_cast-height
overflow_cast-height c = search (between_exits, rules)

pub number_of-dead-requires : goal.number_of-dead-requires
number_of-dead-requires c = search (between_exits, rules)

pub overflow_add-top : goal.overflow_add-top
overflow_add-top c = search (between_exits, rules)

pub returns : goal.returns
returns c = search (between_exits, rules)
