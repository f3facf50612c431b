-- What the first pass over the types lets through, and the rows beyond them: each supertype earlier, chains short, words of zero past
-- the end.
use Rattle.std.specs.Prelude.{ℕ, ◌≤◌, ◌≡◌, true, List}
use Rattle.scope.specs.Sizes.{most_steps}
use Rattle.scope.specs.TypeRules.{short_chain}
use Rattle.type_forest.specs.Forest.{Lower}
use Rattle.type_table.specs.View.{word_of, view}
use Rattle.type_numbering.specs.Ranges.{parent_of}

pub record Linked (n : ℕ) (codes rows : List ℕ) : Type 0 where
  pub lower : Lower (parent_of rows codes) n
  pub short : (x : ℕ) → short_chain most_steps (view rows codes) x ≡ true
  pub past : (x k : ℕ) → n ≤ x → word_of rows x k ≡ 0
