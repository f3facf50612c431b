-- `type_reach::supers_in_reach` meets its contract: of two supertypes both are looked at.
use borrow.Author.Rules.{rules}
use Rattle.type_reach.proofs.Naming.{two_supers_in, two_supers_out}
use Rattle.type_reach.proofs.supers_in_reach.Goals as goal

pub returns-then-p-reach : goal.returns-then-p-reach
returns-then-p-reach c = search (two_supers_in, rules)

pub returns-else-p-reach : goal.returns-else-p-reach
returns-else-p-reach c = search (two_supers_out, rules)
