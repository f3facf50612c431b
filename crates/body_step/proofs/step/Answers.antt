-- `body_step::step` meets its contract.
use borrow.Author.Rules.{rules}
use Rattle.body_step.proofs.OneStep.{step_exits}
use Rattle.body_step.proofs.step.Goals as goal

pub act_of-act-requires : goal.act_of-act-requires
act_of-act-requires c = search (step_exits, rules)

pub enum_known-act : goal.enum_known-act
enum_known-act c = search (step_exits, rules)

pub open-requires : goal.open-requires
open-requires c = search (step_exits, rules)

pub enum_told-1 : goal.enum_told-1
enum_told-1 c = search (step_exits, rules)

pub close-requires : goal.close-requires
close-requires c = search (step_exits, rules)

pub enum_known-act-in-Does-1 : goal.enum_known-act-in-Does-1
enum_known-act-in-Does-1 c = search (step_exits, rules)

pub do_planned-requires : goal.do_planned-requires
do_planned-requires c = search (step_exits, rules)

pub returns-in-Opens : goal.returns-in-Opens
returns-in-Opens c = search (step_exits, rules)

pub returns-in-Closes : goal.returns-in-Closes
returns-in-Closes c = search (step_exits, rules)

pub returns-in-Does : goal.returns-in-Does
returns-in-Does c = search (step_exits, rules)
