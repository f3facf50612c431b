-- The machine's step is what the rules say: it goes on, ends and traps exactly where they say so, and is stuck where they say
-- nothing. And each trap exactly when. proofs/Laws.antt cites what proves each.
use Rattle.std.specs.Prelude.{ℕ, ◌≡◌, ◌↔◌, List}
use Rattle.scope.specs.Refusals.{trap_unreachable, trap_null, trap_null_descriptor, trap_cast, trap_no_room, trap_other_numeric}
use Rattle.scope.specs.Instructions.{Op, unreachable}
use Rattle.scope.specs.Machine.{Value, Machine, Program, Outcome, goes, ends, traps, stuck, do_op, step}
use Rattle.facts_runs.specs.OtherNumeric.{OtherNumeric}
use Rattle.facts_steps.specs.Trapping.{NullUsed, NullDescriptor, CastFailed, NoRoomLeft}
use Rattle.facts_steps.specs.Rules.{Steps}

abbrev pub StepOf : Program → Machine → Outcome → Type 0
StepOf p m r = Steps p m.heap m.locals m.operands m.blocks m.code r

pub record StepLaws : Type 0 where
  pub goes_on_lem : (p : Program) (m after : Machine) → (step p m ≡ goes after) ↔ StepOf p m (goes after)
  pub is_done_lem : (p : Program) (m after : Machine) → (step p m ≡ ends after) ↔ StepOf p m (ends after)
  pub trapping : (p : Program) (m : Machine) (n : ℕ) → (step p m ≡ traps n) ↔ StepOf p m (traps n)
  pub nowhere : (p : Program) (m : Machine) → (step p m ≡ stuck) ↔ ((r : Outcome) → ¬ StepOf p m r)

-- of an instruction inside its block
pub record TrapLaws : Type 0 where
  pub forty_one : (p : Program) (m : Machine) (o : Op) → (do_op p m m.operands o ≡ traps trap_unreachable) ↔ (o ≡ unreachable)
  pub forty_two : (p : Program) (m : Machine) (o : Op) → (do_op p m m.operands o ≡ traps trap_null) ↔ NullUsed m.operands o
  pub forty_three : (p : Program) (m : Machine) (o : Op) → (do_op p m m.operands o ≡ traps trap_null_descriptor) ↔ NullDescriptor m.operands o
  pub forty_four : (p : Program) (m : Machine) (o : Op) → (do_op p m m.operands o ≡ traps trap_cast) ↔ CastFailed p.types m.heap m.operands o
  pub forty_five : (p : Program) (m : Machine) (o : Op) → (do_op p m m.operands o ≡ traps trap_no_room) ↔ NoRoomLeft p.types m.heap m.operands o
  pub forty_six : (p : Program) (m : Machine) (o : Op) → (do_op p m m.operands o ≡ traps trap_other_numeric) ↔ OtherNumeric o
