-- `body_effects::do_planned` meets its contract.
use borrow.Author.Rules.{rules}
use Rattle.body_effects.proofs.Giving.{give_exits}
use Rattle.body_effects.proofs.do_planned.Goals as goal

pub enum_known-planned : goal.enum_known-planned
enum_known-planned c = search (give_exits, rules)

pub enum_told-1 : goal.enum_told-1
enum_told-1 c = search (give_exits, rules)

pub do_non_null-requires : goal.do_non_null-requires
do_non_null-requires c = search (give_exits, rules)

pub enum_known-planned-in-Descriptor-1 : goal.enum_known-planned-in-Descriptor-1
enum_known-planned-in-Descriptor-1 c = search (give_exits, rules)

pub do_descriptor-requires : goal.do_descriptor-requires
do_descriptor-requires c = search (give_exits, rules)

pub enum_known-planned-in-Plain-1 : goal.enum_known-planned-in-Plain-1
enum_known-planned-in-Plain-1 c = search (give_exits, rules)

pub do_plain-requires : goal.do_plain-requires
do_plain-requires c = search (give_exits, rules)

pub returns-in-Fault : goal.returns-in-Fault
returns-in-Fault c = search (give_exits, rules)

pub returns-in-NonNull : goal.returns-in-NonNull
returns-in-NonNull c = search (give_exits, rules)

pub returns-in-Descriptor : goal.returns-in-Descriptor
returns-in-Descriptor c = search (give_exits, rules)

pub returns-in-Plain : goal.returns-in-Plain
returns-in-Plain c = search (give_exits, rules)
