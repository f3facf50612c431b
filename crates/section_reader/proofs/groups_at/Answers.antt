-- `section_reader::groups_at` meets its contract: each group is lent the rest of the table and fills it behind those before.
use Prim.Native.Nat.{◌+◌, ◌-◌}
use mathlib.Core.Path.{◌≡◌, refl}
use native.Mathlib.Omega.{arith}
use Rattle.section_reader.proofs.Walking.{walked_count_fits, walked_done, walked_lent, walked_refused, walked_turn}
use Rattle.section_reader.proofs.groups_at.Goals as goal

pub group_at-requires : goal.group_at-requires
group_at-requires c = walked_lent c.loop.invariant (omega arith)

pub returns-in_err-group : goal.returns-in_err-group
returns-in_err-group c = walked_refused c.loop.invariant (omega arith) c.in_err-group.ensures refl c.from_residual.ensures.1

pub overflow_add-first : goal.overflow_add-first
overflow_add-first c = walked_count_fits c.loop.invariant (omega arith) c.in_ok-group.ensures refl

pub loop-preserved : goal.loop-preserved
loop-preserved c =
    let one_less : c.args.n - (c.loop.counter + 1) ≡ c.args.n - c.loop.counter - 1 = omega arith in
    rw one_less (walked_turn c.loop.invariant (omega arith) c.in_ok-group.ensures refl)

pub returns : goal.returns
returns c = walked_done c.loop.invariant (omega arith)
