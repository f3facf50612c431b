use borrow.Author.Rules.{rules}
use Rattle.body_lap.proofs.OneLap.{lap_exits}
use Rattle.body_lap.proofs.lap_of.Goals as goal

pub check_of-check-requires : goal.check_of-check-requires
check_of-check-requires c = search (lap_exits, rules)

pub turn_at-turn-requires : goal.turn_at-turn-requires
turn_at-turn-requires c = search (lap_exits, rules)

pub overflow_add-all : goal.overflow_add-all
overflow_add-all c = search (lap_exits, rules)

pub enum_known-turn : goal.enum_known-turn
enum_known-turn c = search (lap_exits, rules)

pub enum_known-turn-in-Finished-1 : goal.enum_known-turn-in-Finished-1
enum_known-turn-in-Finished-1 c = search (lap_exits, rules)

pub enum_known-turn-in-On-1 : goal.enum_known-turn-in-On-1
enum_known-turn-in-On-1 c = search (lap_exits, rules)

pub progress_of-to-requires : goal.progress_of-to-requires
progress_of-to-requires c = search (lap_exits, rules)

pub returns-in-Refused : goal.returns-in-Refused
returns-in-Refused c = search (lap_exits, rules)

pub returns-in-Finished : goal.returns-in-Finished
returns-in-Finished c = search (lap_exits, rules)

pub returns-in-On : goal.returns-in-On
returns-in-On c = search (lap_exits, rules)
