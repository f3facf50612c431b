-- `run_step::carry_out` meets its contract.
use borrow.Author.Rules.{rules}
use Rattle.run_step.proofs.Carrying.{carry_exits}
use Rattle.run_step.proofs.Allocating.{allocate_exits}
use Rattle.run_step.proofs.Departing.{depart_exits}
use Rattle.run_step.proofs.carry_out.Goals as goal

pub enum_told-1 : goal.enum_told-1
enum_told-1 c = search (carry_exits, allocate_exits, depart_exits, rules)

pub enum_known-it : goal.enum_known-it
enum_known-it c = search (carry_exits, allocate_exits, depart_exits, rules)

pub enum_known-it-in-Leaves-1 : goal.enum_known-it-in-Leaves-1
enum_known-it-in-Leaves-1 c = search (carry_exits, allocate_exits, depart_exits, rules)

pub overflow_sub-height : goal.overflow_sub-height
overflow_sub-height c = search (carry_exits, allocate_exits, depart_exits, rules)

pub at_height-later-requires : goal.at_height-later-requires
at_height-later-requires c = search (carry_exits, allocate_exits, depart_exits, rules)

pub enum_known-it-in-Gives-1 : goal.enum_known-it-in-Gives-1
enum_known-it-in-Gives-1 c = search (carry_exits, allocate_exits, depart_exits, rules)

pub overflow_sub-left : goal.overflow_sub-left
overflow_sub-left c = search (carry_exits, allocate_exits, depart_exits, rules)

pub is_full-requires : goal.is_full-requires
is_full-requires c = search (carry_exits, allocate_exits, depart_exits, rules)

pub returns-then-is_full : goal.returns-then-is_full
returns-then-is_full c = search (carry_exits, allocate_exits, depart_exits, rules)

pub push-requires : goal.push-requires
push-requires c = search (carry_exits, allocate_exits, depart_exits, rules)

pub overflow_add-left : goal.overflow_add-left
overflow_add-left c = search (carry_exits, allocate_exits, depart_exits, rules)

pub at_height-later-requires-in-Gives : goal.at_height-later-requires-in-Gives
at_height-later-requires-in-Gives c = search (carry_exits, allocate_exits, depart_exits, rules)

pub enum_known-it-in-SetsLocal-1 : goal.enum_known-it-in-SetsLocal-1
enum_known-it-in-SetsLocal-1 c = search (carry_exits, allocate_exits, depart_exits, rules)

pub set_local-requires : goal.set_local-requires
set_local-requires c = search (carry_exits, allocate_exits, depart_exits, rules)

pub overflow_sub-height-in-SetsLocal : goal.overflow_sub-height-in-SetsLocal
overflow_sub-height-in-SetsLocal c = search (carry_exits, allocate_exits, depart_exits, rules)

pub at_height-later-requires-in-SetsLocal : goal.at_height-later-requires-in-SetsLocal
at_height-later-requires-in-SetsLocal c = search (carry_exits, allocate_exits, depart_exits, rules)

pub enum_known-it-in-SetsField-1 : goal.enum_known-it-in-SetsField-1
enum_known-it-in-SetsField-1 c = search (carry_exits, allocate_exits, depart_exits, rules)

pub set_field-requires : goal.set_field-requires
set_field-requires c = search (carry_exits, allocate_exits, depart_exits, rules)

pub overflow_sub-height-in-SetsField : goal.overflow_sub-height-in-SetsField
overflow_sub-height-in-SetsField c = search (carry_exits, allocate_exits, depart_exits, rules)

pub at_height-later-requires-in-SetsField : goal.at_height-later-requires-in-SetsField
at_height-later-requires-in-SetsField c = search (carry_exits, allocate_exits, depart_exits, rules)

pub enum_known-it-in-Makes-1 : goal.enum_known-it-in-Makes-1
enum_known-it-in-Makes-1 c = search (carry_exits, allocate_exits, depart_exits, rules)

pub overflow_sub-left-in-Makes : goal.overflow_sub-left-in-Makes
overflow_sub-left-in-Makes c = search (carry_exits, allocate_exits, depart_exits, rules)

pub overflow_sub-left-in-Makes-2 : goal.overflow_sub-left-in-Makes-2
overflow_sub-left-in-Makes-2 c = search (carry_exits, allocate_exits, depart_exits, rules)

pub make_given-requires : goal.make_given-requires
make_given-requires c = search (carry_exits, allocate_exits, depart_exits, rules)

pub enum_known-it-in-MakesDefault-1 : goal.enum_known-it-in-MakesDefault-1
enum_known-it-in-MakesDefault-1 c = search (carry_exits, allocate_exits, depart_exits, rules)

pub overflow_sub-left-in-MakesDefault : goal.overflow_sub-left-in-MakesDefault
overflow_sub-left-in-MakesDefault c = search (carry_exits, allocate_exits, depart_exits, rules)

pub make_default-requires : goal.make_default-requires
make_default-requires c = search (carry_exits, allocate_exits, depart_exits, rules)

pub enum_known-it-in-Branches-1 : goal.enum_known-it-in-Branches-1
enum_known-it-in-Branches-1 c = search (carry_exits, allocate_exits, depart_exits, rules)

pub overflow_sub-left-in-Branches : goal.overflow_sub-left-in-Branches
overflow_sub-left-in-Branches c = search (carry_exits, allocate_exits, depart_exits, rules)

pub branch-s-requires : goal.branch-s-requires
branch-s-requires c = search (carry_exits, allocate_exits, depart_exits, rules)

pub enum_told-in-Returns : goal.enum_told-in-Returns
enum_told-in-Returns c = search (carry_exits, allocate_exits, depart_exits, rules)

pub finish-requires : goal.finish-requires
finish-requires c = search (carry_exits, allocate_exits, depart_exits, rules)

pub returns-in-Astray : goal.returns-in-Astray
returns-in-Astray c = search (carry_exits, allocate_exits, depart_exits, rules)

pub returns-in-Traps : goal.returns-in-Traps
returns-in-Traps c = search (carry_exits, allocate_exits, depart_exits, rules)

pub returns-in-Leaves : goal.returns-in-Leaves
returns-in-Leaves c = search (carry_exits, allocate_exits, depart_exits, rules)

pub returns-else-is_full : goal.returns-else-is_full
returns-else-is_full c = search (carry_exits, allocate_exits, depart_exits, rules)

pub returns-in-SetsLocal : goal.returns-in-SetsLocal
returns-in-SetsLocal c = search (carry_exits, allocate_exits, depart_exits, rules)

pub returns-in-SetsField : goal.returns-in-SetsField
returns-in-SetsField c = search (carry_exits, allocate_exits, depart_exits, rules)

pub returns-in-Makes : goal.returns-in-Makes
returns-in-Makes c = search (carry_exits, allocate_exits, depart_exits, rules)

pub returns-in-MakesDefault : goal.returns-in-MakesDefault
returns-in-MakesDefault c = search (carry_exits, allocate_exits, depart_exits, rules)

pub returns-in-Branches : goal.returns-in-Branches
returns-in-Branches c = search (carry_exits, allocate_exits, depart_exits, rules)

pub returns-in-Returns : goal.returns-in-Returns
returns-in-Returns c = search (carry_exits, allocate_exits, depart_exits, rules)
