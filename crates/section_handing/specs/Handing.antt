-- What is left of a table that is cleared, what a number asked of a table answers, and which bytes an answer names.
use Rattle.std.specs.Prelude.{ℕ, ◌-◌, ◌≡◌, cond, List, [], take, drop, ltb}
use Rattle.scope.specs.Refusals.{out_of_reach}
use Rattle.scope.specs.Syntax.{Types}
use Rattle.scope.specs.Judging.{plain}
use Rattle.scope.specs.Memory.{wiped}
use Rattle.scope.specs.declared.Asked.{Asked}
use Rattle.scope.specs.declared.Asked

pub record Cleared (rows shared codes rows' shared' codes' : List ℕ) : Type 0 where
  pub rows_after : rows' ≡ wiped rows
  pub shared_after : shared' ≡ wiped shared
  pub codes_after : codes' ≡ wiped codes

-- type x of n types, so many of them the library's
unfoldable pub asked_at : Types → ℕ → ℕ → ℕ → Asked
asked_at ts x before n =
    cond (ltb x n)
    (cond (ltb x before) (Asked.TheVariants.Library (ts x).from (ts x).to) (Asked.TheVariants.Addon (ts x).from (ts x).to))
    (Asked.TheVariants.Refused out_of_reach (plain x))

unfoldable pub bytes_named : List ℕ → List ℕ → Asked → List ℕ
bytes_named library section (Asked.TheVariants.Library from to) = take (to - from) (drop from library)
bytes_named library section (Asked.TheVariants.Addon from to) = take (to - from) (drop from section)
bytes_named library section (Asked.TheVariants.Refused number place) = []
