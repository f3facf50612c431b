-- `type_numbering::put_starts` meets its contract: each turn gives a type its place.
use borrow.Author.Rules.{rules}
use Rattle.type_numbering.proofs.Walked.{starts-need, starts_turn}
use Rattle.type_numbering.proofs.put_starts.Goals as goal

pub place_one-next-requires : goal.place_one-next-requires
place_one-next-requires c = search (starts-need, rules)

pub loop-x-preserved : goal.loop-x-preserved
loop-x-preserved c = search (starts_turn, rules)
