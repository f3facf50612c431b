-- `type_numbering::number` meets its contract: ends cleared, then sizes, then starts.
use borrow.Author.Rules.{rules}
use Rattle.type_numbering.proofs.Walked.{numbered-whole}
use Rattle.type_numbering.proofs.number.Goals as goal

pub returns : goal.returns
returns c = search (numbered-whole, rules)
