-- `type_numbering::put_sizes` meets its contract: each turn adds a type to its supertype.
use borrow.Author.Rules.{rules}
use Rattle.type_numbering.proofs.Walked.{sizes_turn}
use Rattle.type_numbering.proofs.put_sizes.Goals as goal

pub loop-k-preserved : goal.loop-k-preserved
loop-k-preserved c = search (sizes_turn, rules)
