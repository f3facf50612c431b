-- What a trial run in lent memory comes to: the ending of the written machine's run, and the state that the words then say.
use Rattle.std.specs.Prelude.{ℕ, ◌*◌, ◌≤◌, ◌≡◌, List, [], length}
use Rattle.scope.specs.Layout.{block_span}
use Rattle.scope.specs.Reading.{got}
use Rattle.scope.specs.Instructions.{Instr, instr_at}
use Rattle.scope.specs.Running.{run}
use Rattle.scope.specs.Memory.{state_words}
use Rattle.body_immediates.specs.Coding.{instruction_of}
use Rattle.body_decoded.specs.Decoded.{instr_of}
use Rattle.run_ends.specs.Matching.{code_at}
use Rattle.run_state.specs.declared.Stage.{Stage}
use Rattle.run_state.specs.Machines.{Words, machine_at, program_at, start_stage, Valued, Orderly}
use Rattle.run_state.specs.Written.{StateTold}
use Rattle.run_sound.specs.Sound.{Sound}
use Rattle.run_turn.specs.declared.Ending.{Ending}
use Rattle.run_turn.specs.Endings.{stage_of, ending_at}

-- an instruction can be read at the stage's place, and what is kept of it is it
pub record Readable (s ends : List ℕ) (count : ℕ) (w : Words) (st : Stage) : Type 0 where
  pub orderly : Orderly s ends count w st
  pub more : code_at s st.place ≡ [] → ⊥
  pub back : (i : Instr) (next : ℕ) → instr_at s st.place ≡ got i next → instr_of (instruction_of i) ≡ i

-- memory that a run may start in: no step of the run from there is astray
pub record Runnable (s rows codes ends : List ℕ) (count : ℕ) (w : Words) (results first : ℕ) : Type 0 where
  pub orderly : Orderly s ends count w (start_stage first)
  pub sound : Sound s (program_at rows codes results) (machine_at s count w (start_stage first))

pub record RanFrom (s rows codes : List ℕ) (count : ℕ) (w w' : Words) (results first budget : ℕ) (r : Ending) : Type 0 where
  pub is : ending_at s count w' first r ≡ run (program_at rows codes results) budget 0 (machine_at s count w (start_stage first))
  pub told : StateTold count w' (stage_of first r) (state_words s (machine_at s count w' (stage_of first r)))
  pub valued : Valued count w' (stage_of first r)
  pub low : block_span * (stage_of first r).depth ≤ length w'.blocks
