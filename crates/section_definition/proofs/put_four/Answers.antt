-- `section_definition::put_four` meets its contract: one word behind the other.
use borrow.Author.Rules.{rules}
use Rattle.section_definition.proofs.Writing.{four_exits}
use Rattle.section_definition.proofs.put_four.Goals as goal

pub returns : goal.returns
returns c = search (four_exits, rules)
