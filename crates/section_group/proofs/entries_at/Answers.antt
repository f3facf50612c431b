-- `section_group::entries_at` meets its contract: the loop puts a row and the codes of each definition that is read.
use borrow.Author.Rules.{rules}
use Rattle.section_group.proofs.Grouping.{grouped_over, grouped_refused, grouped_turn, grouped_done, group_exits}
use Rattle.section_group.proofs.entries_at.Goals as goal

pub loop-count-init : goal.loop-count-init
loop-count-init c = search (group_exits, rules)

pub overflow_add-first : goal.overflow_add-first
overflow_add-first c = search (group_exits, rules)

pub returns-then-first-count-ge-MOST_TYPES : goal.returns-then-first-count-ge-MOST_TYPES
returns-then-first-count-ge-MOST_TYPES c = search grouped_over

pub overflow_mul-row : goal.overflow_mul-row
overflow_mul-row c = search (group_exits, rules)

pub definition_at-requires : goal.definition_at-requires
definition_at-requires c = search (group_exits, rules)

pub returns-in_err-more : goal.returns-in_err-more
returns-in_err-more c =
    grouped_refused c.loop-count.invariant c.loop-count-test.true c.if-first-count-ge-MOST_TYPES.false c.in_err-more.ensures c.from_residual.ensures.1

pub loop-count-preserved : goal.loop-count-preserved
loop-count-preserved c = search (grouped_turn, group_exits, rules)

pub overflow_add-taken : goal.overflow_add-taken
overflow_add-taken c = search (group_exits, rules)

pub returns : goal.returns
returns c = search (grouped_done, rules)
