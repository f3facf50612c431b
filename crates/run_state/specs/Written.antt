-- The state of a run as scope's Memory.antt writes it, where lent memory already holds it: what is left to do is to write the
-- counts, and zero beyond them.
use Rattle.std.specs.Prelude.{ℕ, ◌+◌, ◌*◌, ◌≡◌, [], ◌∷◌, take}
use Rattle.scope.specs.Layout.{value_span, object_span, block_span}
use Rattle.scope.specs.Memory.{StateWords}
use Rattle.run_state.specs.declared.Stage.{Stage}
use Rattle.run_state.specs.Machines.{Words}

pub record StateTold (count : ℕ) (w : Words) (st : Stage) (told : StateWords) : Type 0 where
  pub counts : told.counts ≡ st.place ∷ st.objects ∷ st.cells ∷ count ∷ (st.base + st.height) ∷ st.depth ∷ []
  pub objects : told.objects ≡ take (object_span * st.objects) w.objects
  pub cells : told.cells ≡ take (value_span * st.cells) w.cells
  pub locals : told.locals ≡ take (value_span * count) w.locals
  pub operands : told.operands ≡ take (value_span * (st.base + st.height)) w.operands
  pub blocks : told.blocks ≡ take (block_span * st.depth) w.blocks
