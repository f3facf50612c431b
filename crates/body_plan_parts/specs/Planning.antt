-- What plans are made of, and what it is that a plan follows the rule of an instruction.
use Rattle.std.specs.Prelude.{ℕ, ◌<◌, ◌^◌, ◌≡◌, false, List, ◌++◌}
use Rattle.std.proofs.Math.Option.{Option, none}
use Rattle.scope.specs.Told.{Maybe}
use Rattle.std.specs.Prelude.{Some}
use Rattle.scope.specs.Syntax.{Val, Types}
use Rattle.scope.specs.Instructions.{Op}
use Rattle.scope.specs.BodyRules.{Context, Scope, values, allowed, takes_and_stops, from_top, plan_of}
use Rattle.type_table.specs.View.{val_at_code}
use Rattle.type_table.specs.Answers.{link_option}
use Rattle.body_state.specs.declared.Values.{Values}
use Rattle.body_state.specs.declared.Planned.{Planned}
use Rattle.body_state.specs.Layout.{code_bound}
use Rattle.body_state.specs.State.{wants_at, results_at, values_of, planned_of}

-- a body's context over these types
abbrev pub context_on : Types → ℕ → List Val → List Val → Context
context_on ts count locals results = record { types = ts; count = count; locals = locals; results = results }

-- The plan r is what the rule of an instruction says, where the instruction looks at no label and no local: for any of them.
pub record Follows (codes : List ℕ) (ts : Types) (count : ℕ) (o : Op) (r : Planned) : Type 0 where
  pub is : (locals results : List Val) (here : Scope) → planned_of codes r ≡ plan_of (context_on ts count locals results) here o

-- The same, where it looks at no type either: for any table.
pub record Anywhere (count : ℕ) (o : Op) (r : Planned) : Type 0 where
  pub is : (codes : List ℕ) (ts : Types) → Follows codes ts count o r

-- a plan that takes and gives, and does nothing else
pub record Takes (top second : ℕ) (rest : Values) (gives : ℕ) (r : Planned) : Type 0 where
  pub is : (codes : List ℕ) → planned_of codes r
      ≡ allowed (record { wants = wants_at top ++ (wants_at second ++ from_top (values_of codes rest)); gives = values (results_at gives); marks = none; stops = false })

-- a plan that takes, and after which the stack may yield unknowns
pub record Stops (rest : Values) (r : Planned) : Type 0 where
  pub is : (codes : List ℕ) → planned_of codes r ≡ takes_and_stops (from_top (values_of codes rest))

-- no code of a heap type in reach is as great as this, so that a reference's code is below `code_bound`
abbrev pub heap_bound : ℕ
heap_bound = 500_000

-- r is a value type's code
pub record CodeIs (v : Val) (r : ℕ) : Type 0 where
  pub is : val_at_code r ≡ v
  pub small : r < code_bound

pub record DescriptorOf (o : Option ℕ) (r : Maybe ℕ) : Type 0 where
  pub is : link_option r ≡ o
  pub small : (y : ℕ) → r ≡ Some y → y < 2 ^ 16
