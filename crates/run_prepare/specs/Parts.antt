-- What an acceptance says of the bytes that were judged: the parts of the body as a run reads them a second time, and what
-- each of those readings then gives.
use Rattle.std.specs.Prelude.{ℕ, ◌≤◌, ◌≡◌, List, ◌++◌, length}
use Rattle.scope.specs.Sizes.{most_bytes, most_locals, most_each, most_types}
use Rattle.scope.specs.Reading.{got}
use Rattle.scope.specs.Syntax.{func, types_of}
use Rattle.scope.specs.Judging.{accepted, judge_sections}
use Rattle.scope.specs.Bodies.{Body}
use Rattle.type_table.specs.View.{val_at_code, codes_at, view}
use Rattle.type_hierarchy.specs.Ranged.{Ranged}
use Rattle.body_state.specs.State.{val_at_word}
use Rattle.body_start.specs.Beginning.{locals_first}
use Rattle.run_ends.specs.Matching.{code_at, Balanced}

-- the sections, the function's type, the locals from the first byte on, and the code from where they end
pub record Parts (library section s : List ℕ) (x : ℕ) (b : Body) : Type 0 where
  pub judged : judge_sections library section ≡ accepted b.types
  pub short : length s ≤ most_bytes
  pub form : (types_of b.types x).form ≡ func b.function.parameters b.function.results
  pub first : ℕ
  pub read : locals_first (length b.types) (length b.function.parameters) s ≡ got b.locals first
  pub code : b.code ≡ code_at s first
  pub balanced : Balanced 0 (code_at s first)

-- the table says the body's types, there are as many as the section's verdict counts, and they have their ranges
pub record TypesAgain (b : Body) (rows codes : List ℕ) (count : ℕ) : Type 0 where
  pub types : view rows codes ≡ types_of b.types
  pub many : count ≡ length b.types
  pub few : count ≤ most_types
  pub ranged : Ranged rows codes

-- the codes of the table, n from `first` on and m from `second` on, say the parameters and the results
pub record FunctionAgain (b : Body) (codes : List ℕ) (first n second m : ℕ) : Type 0 where
  pub parameters : codes_at val_at_code codes first n ≡ b.function.parameters
  pub results : codes_at val_at_code codes second m ≡ b.function.results
  pub many_parameters : n ≡ length b.function.parameters
  pub many_results : m ≡ length b.function.results
  pub few : n ≤ most_each

-- the words of the scratch say the parameters and the locals, and the code begins at `next`
pub record LocalsAgain (b : Body) (s work : List ℕ) (count next : ℕ) : Type 0 where
  pub types : codes_at val_at_word work 0 count ≡ b.function.parameters ++ b.locals
  pub few : count ≤ most_locals
  pub inside : next ≤ length s
  pub code : b.code ≡ code_at s next
  pub balanced : Balanced 0 (code_at s next)
