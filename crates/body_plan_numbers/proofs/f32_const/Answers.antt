-- `body_plan_numbers::f32_const` meets its contract: an f32 is given.
use borrow.Author.Rules.{rules}
use Rattle.body_plan_numbers.proofs.NumberPlans.{constant_exits}
use Rattle.body_plan_numbers.proofs.f32_const.Goals as goal

pub overflow_add-takes : goal.overflow_add-takes
overflow_add-takes c = search (constant_exits, rules)

pub takes-requires : goal.takes-requires
takes-requires c = search (constant_exits, rules)

pub returns : goal.returns
returns c = search (constant_exits, rules)
