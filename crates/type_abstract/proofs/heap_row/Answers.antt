-- `type_abstract::heap_row` meets its contract. Here the constant table is tested, once and as a whole: `refl` computes that its ten
-- rows are those of document 01; row_at gives the fact at the row that is read.
use mathlib.Core.Path.{refl}
use Rattle.type_abstract.specs.Heaps.{coded}
use Rattle.type_abstract.proofs.Table.{row_at}
use Rattle.type_abstract.proofs.heap_row.Goals as goal

pub returns : goal.returns
unfolding coded
returns c = row_at _ refl c.row_number-k.ensures
