-- What the questions about casts answer.
use Rattle.std.specs.Prelude.{ℕ, ◌<◌, ◌≡◌, Bool, List}
use Rattle.std.proofs.Math.Option.{Option, none, some}
use Rattle.scope.specs.Told.{Maybe}
use Rattle.std.specs.Prelude.{None, Some}
use Rattle.scope.specs.Syntax.{Heap, Types}
use Rattle.scope.specs.Instructions.{ref_test}
use Rattle.type_table.specs.View.{heap_at_code}
use Rattle.body_state.specs.declared.Planned.{Planned}
use Rattle.body_plan_parts.specs.Planning.{Follows, heap_bound}

-- the plan of ref.test, null or not
pub record Tests (codes : List ℕ) (ts : Types) (count : ℕ) (h : Heap) (r : Planned) : Type 0 where
  pub is : (n : Bool) → Follows codes ts count (ref_test n h) r

-- the heap type whose code a link names
abbrev pub heap_option : Maybe ℕ → Option Heap
heap_option None = none
heap_option (Some k) = some (heap_at_code k)

pub record DescriptorFor (o : Option Heap) (r : Maybe ℕ) : Type 0 where
  pub is : heap_option r ≡ o
  pub small : (k : ℕ) → r ≡ Some k → k < heap_bound
