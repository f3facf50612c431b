-- What it takes to carry out a move in a run's memory, and what it comes to.
use Rattle.std.specs.Prelude.{ℕ, ◌≡◌, List}
use Rattle.scope.specs.Reading.{got}
use Rattle.scope.specs.Instructions.{Op, Instr, op, instr_at}
use Rattle.scope.specs.Machine.{Program, do_op, step}
use Rattle.type_table.specs.View.{view}
use Rattle.body_immediates.specs.declared.Instruction.{Instruction}
use Rattle.body_immediates.specs.Coding.{instruction_of}
use Rattle.body_decoded.specs.Decoded.{instr_of}
use Rattle.body_decoded.specs.Named.{Modest}
use Rattle.run_state.specs.declared.Stage.{Stage}
use Rattle.run_state.specs.declared.Move.{Move}
use Rattle.run_state.specs.declared.Stepped.{Stepped}
use Rattle.run_state.specs.Machines.{Words, machine_at, program_at, Orderly}
use Rattle.run_state.specs.Moved.{moved, Ready, StepIs}

-- moves

pub record Movable (s ends : List ℕ) (count : ℕ) (w : Words) (st : Stage) (it : Move) : Type 0 where
  pub orderly : Orderly s ends count w st
  pub ready : Ready (machine_at s count w st) it

-- a move is carried out as it means
pub record Carried (s codes ends : List ℕ) (count : ℕ) (w w' : Words) (st : Stage) (results : ℕ) (it : Move) (r : Stepped) : Type 0 where
  pub is : (p : Program) → p.results ≡ results → StepIs s ends count w w' (machine_at s count w st) (moved p codes (machine_at s count w st) it) r

-- steps

-- an instruction that stays inside its block, with its type number kept
pub record Inside (s ends : List ℕ) (count : ℕ) (w : Words) (st : Stage) (i : Instruction) : Type 0 where
  pub orderly : Orderly s ends count w st
  pub modest : Modest i
  pub what : Op
  pub is : instr_of i ≡ op what

pub record InsideIs (s rows codes ends : List ℕ) (count : ℕ) (w w' : Words) (st : Stage) (results : ℕ) (i : Instruction) (r : Stepped) : Type 0 where
  pub is : (p : Program) (o : Op) → p.types ≡ view rows codes → p.results ≡ results → instr_of i ≡ op o
      → StepIs s ends count w w' (machine_at s count w st) (do_op p (machine_at s count w st) (machine_at s count w st).operands o) r

-- the instruction at a place, as the code holds it, and the place after it
pub record ReadHere (s : List ℕ) (at : ℕ) (i : Instruction) (next : ℕ) : Type 0 where
  pub instr : Instr
  pub read : instr_at s at ≡ got instr next
  pub kept : i ≡ instruction_of instr
  pub back : instr_of i ≡ instr

pub record Steppable (s ends : List ℕ) (count : ℕ) (w : Words) (st : Stage) (i : Instruction) (next : ℕ) : Type 0 where
  pub orderly : Orderly s ends count w st
  pub here : ReadHere s st.place i next

-- it is the step of the written machine
pub record StepOf (s rows codes ends : List ℕ) (count : ℕ) (w w' : Words) (st : Stage) (results : ℕ) (r : Stepped) : Type 0 where
  pub is : StepIs s ends count w w' (machine_at s count w st) (step (program_at rows codes results) (machine_at s count w st)) r
