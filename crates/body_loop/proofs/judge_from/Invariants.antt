use Rattle.type_table.specs.View.{both_codes}
use Rattle.body_loop.proofs.Looping.{Going}
use Rattle.body_loop.proofs.judge_from.Given as goal

abbrev pub invariant-loop : goal.invariant-loop
invariant-loop l = Going l.rows (both_codes l.shared l.codes) l.initial.work l.scene l.s l.at l.work l.counter l.state
