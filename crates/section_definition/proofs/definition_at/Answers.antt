-- `section_definition::definition_at` meets its contract: what stands before the form, then the form and its row.
use borrow.Author.Rules.{rules}
use Rattle.section_definition.proofs.Defining.{definition_refused, form_place, definition_got, used_fits}
use Rattle.section_definition.proofs.definition_at.Goals as goal

pub overflow_add-used : goal.overflow_add-used
overflow_add-used c = search (used_fits, rules)

pub formed_at-requires : goal.formed_at-requires
formed_at-requires c = form_place c.args.s.now c.args.at c.in_ok-front.ensures c.requires

pub returns-in_err-front : goal.returns-in_err-front
returns-in_err-front c =
    definition_refused c.args.s.now c.args.at c.args.reach c.args.rows.now c.args.row c.args.codes.now c.args.base c.args.filled c.in_err-front.ensures c.from_residual.ensures.1

pub returns : goal.returns
returns c = definition_got c.args.s.now c.args.at c.in_ok-front.ensures c.formed_at.ensures
