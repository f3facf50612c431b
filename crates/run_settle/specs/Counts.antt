-- The counts of a run's state.
use Rattle.std.specs.Prelude.{ℕ, ◌+◌, ◌≤◌, List, [], ◌∷◌, length}
use Rattle.scope.specs.Sizes.{most_operands}
use Rattle.scope.specs.Layout.{counts_size}
use Rattle.run_state.specs.declared.Stage.{Stage}

-- the place, and how many objects, cells, locals, operands and open blocks there are
abbrev pub counts_of : ℕ → Stage → List ℕ
counts_of count st = st.place ∷ st.objects ∷ st.cells ∷ count ∷ (st.base + st.height) ∷ st.depth ∷ []

pub record CountRoom (st : Stage) (counts : List ℕ) : Type 0 where
  pub room : counts_size ≤ length counts
  pub high : st.base + st.height ≤ most_operands
