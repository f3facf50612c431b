-- What an instruction's act says that comes of the instruction, by document 01's rules.
use Rattle.std.specs.Prelude.{ℕ, cond, List}
use Rattle.scope.specs.Instructions.{block, loop, end}
use Rattle.scope.specs.BodyRules.{Context, Ruled, and_ruled}
use Rattle.scope.specs.Bodies.{State, Next, do_plan, judge_instr}
use Rattle.body_state.specs.State.{planned_of}
use Rattle.body_plans.specs.declared.Act.{Act}
use Rattle.body_plans.specs.declared.Act
use Rattle.body_decoded.specs.Decoded.{block_results}

-- what comes of an instruction, by its act
unfoldable pub act_of : List ℕ → Context → State → Act → Ruled Next
act_of codes c st (Act.TheVariants.Opens is_loop w) =
    judge_instr c st (cond is_loop (loop (block_results w)) (block (block_results w)))
act_of codes c st Act.TheVariants.Closes = judge_instr c st end
act_of codes c st (Act.TheVariants.Does p) = and_ruled (planned_of codes p) (do_plan c st)
