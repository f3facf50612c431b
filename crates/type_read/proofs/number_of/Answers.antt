-- `type_read::number_of` meets its contract: each number type by its byte.
use borrow.Author.Rules.{rules}
use Rattle.type_read.proofs.Vals.{number_of_exits}
use Rattle.type_read.proofs.number_of.Goals as goal

pub returns-in-127 : goal.returns-in-127
returns-in-127 c = search (number_of_exits, rules)

pub returns-in-126 : goal.returns-in-126
returns-in-126 c = search (number_of_exits, rules)

pub returns-in-125 : goal.returns-in-125
returns-in-125 c = search (number_of_exits, rules)

pub returns-in-124 : goal.returns-in-124
returns-in-124 c = search (number_of_exits, rules)

pub returns-in_default : goal.returns-in_default
returns-in_default c = search (number_of_exits, rules)
