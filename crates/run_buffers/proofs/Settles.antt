-- Each way out: the counts put, and zero beyond what they count; and what is then in the buffers is the state that is told.
use Prim.Native.Nat.{ℕ, ◌*◌, ◌≤◌}
use mathlib.Core.Path.{◌≡◌, sym, ap, ◌∙◌}
use mathlib.Core.List.{List}
use lib.ListN.{length, take}
use Rattle.scope.specs.Layout.{block_span}
use Rattle.scope.specs.Memory.{StateWords, filled}
use Rattle.run_state.specs.declared.Stage.{Stage}
use Rattle.run_state.specs.Machines.{words}
use Rattle.run_state.specs.Written.{StateTold}
use Rattle.run_settle.specs.Counts.{counts_of, CountRoom}
use Rattle.run_settle.specs.Beyond.{HeapRoom, HeapSettled, ValueRoom, ValuesSettled}
use Rattle.run_buffers.specs.States.{state_of, Settling, Settled, Written}

module _ {count : ℕ} {st : Stage} {c o e l p b : List ℕ} (s : Settling count st (state_of c o e l p b)) where
  pub may_count : CountRoom st c
  may_count = record { room = s.counts; high = s.high }

  pub may_heap : HeapRoom st o e
  may_heap = record { objects = s.objects; cells = s.cells }

  pub may_values : ValueRoom count st l p
  may_values = record { locals = s.locals; operands = s.operands; high = s.high }

  pub may_blocks : block_span * st.depth ≤ length b
  may_blocks = s.blocks

  pub settled :
      {c' o' e' l' p' b' : List ℕ} → c' ≡ filled c (counts_of count st) → HeapSettled st o e o' e' → ValuesSettled count st l p l' p'
      → b' ≡ filled b (take (block_span * st.depth) b) → Settled count st (state_of c o e l p b) (state_of c' o' e' l' p' b')
  settled cs h v bs =
      record { counts = cs; objects = h.objects; cells = h.cells; locals = v.locals; operands = v.operands; blocks = bs }

pub ruleset settle_exits = (may_count, may_heap, may_values, may_blocks, settled)

-- the buffers then hold the state that is told

module _ {count : ℕ} {st : Stage} {state state' told : StateWords} where
  pub settled_told :
      Settled count st state state' → StateTold count (words state.objects state.cells state.locals state.operands state.blocks) st told
      → Written told state state'
  settled_told s t =
      record {
        counts = s.counts ∙ ap (filled state.counts) (sym t.counts);
        objects = s.objects ∙ ap (filled state.objects) (sym t.objects);
        cells = s.cells ∙ ap (filled state.cells) (sym t.cells);
        locals = s.locals ∙ ap (filled state.locals) (sym t.locals);
        operands = s.operands ∙ ap (filled state.operands) (sym t.operands);
        blocks = s.blocks ∙ ap (filled state.blocks) (sym t.blocks);
      }
