-- `body_instructions::judge_all` meets its contract. Here the constant table is tested, once and as a whole: `refl` computes that its
-- 256 entries are what the standard's ranges say.
use mathlib.Core.Path.{refl}
use borrow.Author.Rules.{rules}
use Rattle.scope.specs.Numeric.{numeric_of}
use Rattle.body_numeric.specs.Entries.{entry_of}
use Rattle.body_instructions.proofs.judge_all.Goals as goal

pub judge_from-requires : goal.judge_from-requires
unfolding entry_of numeric_of
judge_from-requires c = record { ready = record { tabled = record { is = refl }; begun = search rules }; ranged = search rules }
