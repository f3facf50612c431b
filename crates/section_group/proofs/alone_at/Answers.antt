-- `section_group::alone_at` meets its contract: one definition, where there is a row for it.
use Rattle.section_group.proofs.Ways.{alone_over, alone_place, alone_refused, alone_got, alone_taken-fits}
use Rattle.section_group.proofs.alone_at.Goals as goal

pub returns-then-first-ge-MOST_TYPES : goal.returns-then-first-ge-MOST_TYPES
returns-then-first-ge-MOST_TYPES c = search alone_over

pub definition_at-requires : goal.definition_at-requires
definition_at-requires c = search alone_place

pub returns-in_err-filled : goal.returns-in_err-filled
returns-in_err-filled c = alone_refused c.if-first-ge-MOST_TYPES.false c.in_err-filled.ensures c.from_residual.ensures.1

pub overflow_add-taken : goal.overflow_add-taken
overflow_add-taken c = alone_taken-fits c.in_ok-filled.ensures c.requires

pub returns : goal.returns
returns c = alone_got c.if-first-ge-MOST_TYPES.false c.in_ok-filled.ensures
