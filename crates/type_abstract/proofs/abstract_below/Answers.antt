-- `type_abstract::abstract_below` meets its contract. Here the constant table is tested, once and as a whole: `refl` computes that its
-- hundred words are the order of document 01's table; below_at gives the fact of the pair that is asked.
use mathlib.Core.Path.{refl}
use Rattle.scope.specs.Order.{up_table}
use Rattle.type_abstract.proofs.Columns.{below_at}
use Rattle.type_abstract.proofs.abstract_below.Goals as goal

pub returns : goal.returns
unfolding up_table
returns c = below_at _ refl c.row_number-lower.ensures c.row_number-upper.ensures
