-- `body_plan_parts::descriptor_of` meets its contract: the table's words have 16 bits.
use Prim.Native.Nat.{◌+◌, ◌*◌}
use native.Mathlib.Omega.{arith}
use borrow.Author.Rules.{rules}
use Rattle.scope.specs.Layout.{row_span}
use Rattle.type_table.specs.RowWords.{descriptor_word}
use Rattle.type_table.specs.View.{both_codes}
use Rattle.body_plan_parts.proofs.Words.{planning_exits, descriptor_small}
use Rattle.body_plan_parts.proofs.descriptor_of.Goals as goal

pub descriptor_of-requires : goal.descriptor_of-requires
descriptor_of-requires c = search (planning_exits, rules)

pub returns : goal.returns
returns c = let given = c.args in
    descriptor_small given.rows.now (both_codes given.shared.now given.codes.now) given.x (omega (arith, c.type_inv.rows (row_span * given.x + descriptor_word))) c.descriptor_of.ensures
