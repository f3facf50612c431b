-- What it is to tell the move of an instruction from the words of a run's memory.
use Rattle.std.specs.Prelude.{ℕ, ◌≡◌, List}
use Rattle.scope.specs.Instructions.{Op, op}
use Rattle.scope.specs.Machine.{Machine, Program, do_op}
use Rattle.type_table.specs.View.{view}
use Rattle.body_immediates.specs.declared.Instruction.{Instruction}
use Rattle.body_decoded.specs.Decoded.{instr_of}
use Rattle.run_state.specs.declared.Stage.{Stage}
use Rattle.run_state.specs.declared.Move.{Move}
use Rattle.run_state.specs.Moved.{MoveIs}
use Rattle.run_state.specs.Planned.{Holds}

-- the move of an instruction that neither opens nor closes a block; of those two nothing is said
pub record MoveOf (rows codes objects cells locals operands : List ℕ) (count : ℕ) (st : Stage) (i : Instruction) (r : Move) : Type 0 where
  pub is : (p : Program) (m : Machine) (o : Op)
      → p.types ≡ view rows codes → Holds m objects cells locals operands count st → instr_of i ≡ op o
      → MoveIs p codes m (do_op p m m.operands o) r
