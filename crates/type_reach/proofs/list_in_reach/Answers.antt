-- `type_reach::list_in_reach` meets its contract: each word that is read answers for the code in its place.
use borrow.Author.Rules.{rules}
use native.Mathlib.Omega.{arith}
use Prim.Native.Nat.{◌+◌}
use mathlib.Core.Path.{refl, ◌∙◌}
use Rattle.std.proofs.lemmas.Iterator.{YieldsList-from_range}
use Rattle.std.proofs.lemmas.Iterator.Search.{all_from_yields_List}
use Rattle.type_reach.proofs.Walking.{code_below, all_codes_below, code_answers}
use Rattle.type_reach.proofs.list_in_reach.Goals as goal

pub returns : goal.returns
returns g c =
    let a = c.args in
    all_from_yields_List (code_below a.fields g.list a.reach) _ _ _ c.all.ensures.ran (YieldsList-from_range a.i (a.i + a.n) a.n refl (omega arith)) (λ x b q k. search (code_answers, c.requires.1.1, rules))
    ∙ all_codes_below a.fields g.list a.reach a.i a.n
