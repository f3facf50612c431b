use Rattle.run_state.specs.Machines.{words}
use Rattle.run_loop.proofs.Looping.{Going}
use Rattle.type_table.specs.View.{both_codes}
use Rattle.run_loop.proofs.run_from.Given as goal

abbrev pub invariant-loop-steps : goal.invariant-loop-steps
invariant-loop-steps l = Going l.s l.rows (both_codes l.shared l.codes) l.ends l.count (words l.initial.objects l.initial.cells l.initial.locals l.initial.operands l.initial.blocks) l.results l.first l.budget (words l.objects l.cells l.locals l.operands l.blocks) l.stage l.steps
