use borrow.Author.Rules.{rules}
use native.Mathlib.Omega.{arith}
use Rattle.body_quick_read.proofs.Shorts.{short_exits, byte_is_lem}
use Rattle.body_quick_read.proofs.byte.Goals as goal

pub bounds-s-at : goal.bounds-s-at
bounds-s-at c = search (short_exits, rules)

pub overflow_cast-result : goal.overflow_cast-result
overflow_cast-result c = omega (arith, c.type_inv.s c.args.at)

pub returns-then-at-s : goal.returns-then-at-s
returns-then-at-s c = byte_is_lem (search rules) (omega (arith, c.type_inv.s c.args.at))

pub returns-else-at-s : goal.returns-else-at-s
returns-else-at-s c = search (short_exits, rules)
