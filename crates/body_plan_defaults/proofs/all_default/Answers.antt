-- `body_plan_defaults::all_default` meets its contract: the chain asks each type of the list.
use Prim.Native.Nat.{◌+◌}
use mathlib.Core.Path.{◌∙◌}
use native.Mathlib.Omega.{arith}
use borrow.Author.Rules.{rules}
use Rattle.std.proofs.lemmas.Iterator.{YieldsList-from_range}
use Rattle.std.proofs.lemmas.Iterator.Search.{all_from_yields_List}
use Rattle.type_table.specs.View.{both_codes}
use Rattle.body_plan_defaults.proofs.Defaults.{defaults_at, each_default, word_default}
use Rattle.body_plan_defaults.proofs.all_default.Goals as goal

pub returns : goal.returns
returns c =
    let fields = c.args.fields in
    let codes = both_codes c.args.shared.now c.args.codes.now in
    let first = c.args.first in
    let n = c.args.n in
    all_from_yields_List (defaults_at fields codes) _ _ c.all.result c.all.ensures.ran (YieldsList-from_range first (first + n) n (cc) (omega arith)) (λ x b q k. search (rules, word_default))
    ∙ each_default fields codes first n
