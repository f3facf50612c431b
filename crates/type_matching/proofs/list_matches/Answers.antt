-- `type_matching::list_matches` meets its contract: too few codes do not match, and of enough each pair that is read is asked.
use borrow.Author.Rules.{rules}
use native.Mathlib.Nat.{sub-zero}
use mathlib.Core.Path.{sym, ◌∙◌}
use Rattle.std.proofs.lemmas.Iterator.{YieldsList-from_range, YieldsList-from_map}
use Rattle.std.proofs.lemmas.Iterator.Search.{all_from_yields_List}
use Rattle.type_table.specs.View.{view, both_codes}
use Rattle.type_matching.proofs.Walking.{too_few_match, pair_at, pair_read, pair_matches, pairs_match}
use Rattle.type_matching.proofs.list_matches.Goals as goal
use Rattle.type_matching.proofs.list_matches.Goals.{then-enough, else-enough}

pub returns : goal.returns
returns g c =
    let a = c.args in
    let types = view a.rows.now (both_codes a.shared.now a.codes.now) in
    elim c.if-enough.branch [
      | then-enough w ↦
          w.result-is
          ∙ all_from_yields_List (pair_matches a.fields types) _ _ w.all.result w.all.ensures.ran
          (YieldsList-from_map _ (pair_at g.list a.i a.j) (YieldsList-from_range 0 a.m a.m w.map.ensures.source (sub-zero a.m)) w.map.ensures.closure (λ x r q k. search (pair_read, c.requires.1.1.1, rules)))
          (λ x b q k. search rules)
          ∙ pairs_match a.fields types g.list a.i a.j a.n a.m (sym c.enough.ensures ∙ w.if-enough.true)
      | else-enough w ↦ w.result-is ∙ w.if-enough.false ∙ too_few_match a.fields types g.list a.i a.n a.j a.m (sym c.enough.ensures ∙ w.if-enough.false)
    ]
