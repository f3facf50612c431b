-- `body_effects::give_plain` meets its contract.
use borrow.Author.Rules.{rules}
use Rattle.body_effects.proofs.Giving.{give_exits, give_stops}
use Rattle.body_effects.proofs.give_plain.Goals as goal

pub overflow_cast-m : goal.overflow_cast-m
overflow_cast-m c = search (give_exits, rules)

pub overflow_add-m : goal.overflow_add-m
overflow_add-m c = search (give_exits, rules)

pub mark-requires : goal.mark-requires
mark-requires c = search (give_exits, rules)

pub returns-then-stops : goal.returns-then-stops
returns-then-stops c = search give_stops

pub give-given-requires : goal.give-given-requires
give-given-requires c = search (give_exits, rules)

pub enum_told-1 : goal.enum_told-1
enum_told-1 c = search (give_exits, rules)

pub enum_known-given : goal.enum_known-given
enum_known-given c = search (give_exits, rules)

pub mark-requires-in-Some : goal.mark-requires-in-Some
mark-requires-in-Some c = search (give_exits, rules)

pub returns-in-None : goal.returns-in-None
returns-in-None c = search (give_exits, rules)

pub returns-in-Some : goal.returns-in-Some
returns-in-Some c = search (give_exits, rules)
