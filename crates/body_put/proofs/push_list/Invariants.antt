use Prim.Native.Nat.{◌+◌}
use lib.ListN.{take}
use Rattle.scope.specs.Bodies.{on_top}
use Rattle.type_table.specs.View.{both_codes}
use Rattle.body_state.specs.State.{values_of}
use Rattle.body_put.specs.Putting.{Pushed}
use Rattle.body_put.proofs.push_list.Given as goal

abbrev pub invariant-loop-i : goal.invariant-loop-i
invariant-loop-i l = Pushed l.initial.work l.work l.base l.height (l.height + l.i) (on_top (take l.i (values_of (both_codes l.shared l.codes) l.list)))
