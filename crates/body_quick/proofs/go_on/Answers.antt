-- `body_quick::go_on` meets its contract: each turn takes one instruction that is told from what the definition still has to judge.
use Prim.Native.Nat.{◌+◌}
use mathlib.Core.Path.{◌≡◌}
use native.Mathlib.Omega.{arith}
use Rattle.body_quick.proofs.Turns.{run_place, run_turn}
use Rattle.body_quick.proofs.go_on.Goals as goal

pub overflow_add-next : goal.overflow_add-next
overflow_add-next c =
    record { fits = omega (arith, run_place c.loop-done.invariant c.told_at-told.ensures c.if-told-eq0.false, c.requires.ready.short) }

pub loop-done-preserved : goal.loop-done-preserved
loop-done-preserved c =
    let one_more : c.args.from.count + (c.loop-done.done + 1) ≡ c.args.from.count + c.loop-done.done + 1 = omega arith in
    rw one_more (run_turn c.loop-done.invariant c.told_at-told.ensures c.if-told-eq0.false)
