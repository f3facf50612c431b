use Rattle.type_table.specs.View.{both_codes}
use Rattle.body_start.specs.Beginning.{ParametersPut}
use Rattle.body_start.proofs.put_parameters.Given as goal

abbrev pub invariant-loop-i : goal.invariant-loop-i
invariant-loop-i l = ParametersPut (both_codes l.shared l.codes) l.initial.work l.work l.first l.i
