-- The proof table: every case of specs/Cases.antt is answered as the papers say. The checker computes the definitions on
-- the papers' bytes.
use mathlib.Core.Path.{◌≡◌, refl}
use mathlib.Core.Bool.{true}
use Rattle.scope.specs.Lists.{every}
use Rattle.scope.proofs.Computes.{computes}
use Rattle.facts_examples.specs.Cases.{table, agrees}

pub table-holds : every agrees table ≡ true
unfolding computes
table-holds = refl
