-- `section_decide::decide` meets its contract: depths are put, and the two passes decide over the same types.
use borrow.Author.Rules.{rules}
use Rattle.section_decide.proofs.Deciding.{measured_exits}
use Rattle.section_decide.proofs.decide.Goals as goal

pub put_depths-requires : goal.put_depths-requires
put_depths-requires c = search (measured_exits, rules)

pub decide_deep-requires : goal.decide_deep-requires
decide_deep-requires c = search (measured_exits, rules)

pub returns : goal.returns
returns c = search (measured_exits, rules)
