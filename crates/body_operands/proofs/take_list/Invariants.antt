use Rattle.type_table.specs.View.{view, both_codes}
use Rattle.body_state.specs.State.{values_of}
use Rattle.body_operands.proofs.Several.{FromTop}
use Rattle.body_operands.proofs.take_list.Given as goal

abbrev pub invariant-loop-i : goal.invariant-loop-i
invariant-loop-i l = FromTop (view l.rows (both_codes l.shared l.codes)) l.dead l.work l.base l.height (values_of (both_codes l.shared l.codes) l.list) l.left l.i
