use Prim.Native.Nat.{◌+◌}
use Rattle.type_table.specs.View.{both_codes}
use Rattle.body_quick.specs.Runs.{Ran}
use Rattle.body_quick.proofs.go_on.Given as goal

abbrev pub invariant-loop-done : goal.invariant-loop-done
invariant-loop-done l =
    Ran l.rows (both_codes l.shared l.codes) l.initial.work l.work l.scene l.s l.fn.from (record { count = l.fn.from.count + l.done; next = l.next; depth = l.depth; base = l.base; top = l.top; dead = l.dead })
