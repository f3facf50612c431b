-- What it is that a plan follows the rule of either form of a branching cast, where the label's types are known.
use Rattle.std.specs.Prelude.{ℕ, ◌<◌, ◌≡◌, Bool, true, false, not, List}
use Rattle.scope.specs.Syntax.{Val, Types}
use Rattle.scope.specs.Instructions.{Cast}
use Rattle.scope.specs.BodyRules.{carried_to, branches, target_of, rest_of}
use Rattle.type_table.specs.View.{heap_at_code}
use Rattle.body_state.specs.declared.Values.{Values}
use Rattle.body_state.specs.declared.Planned.{Planned}
use Rattle.body_state.specs.State.{wants_at, values_of, planned_of}
use Rattle.body_plan_parts.specs.Planning.{context_on, heap_bound}
use Rattle.body_plan_cast_forms.specs.declared.Reference.{Reference}

-- the cast to a label between two reference types
abbrev pub cast_between : ℕ → Reference → Reference → Cast
cast_between l source target =
    record { label = l; source_null = source.null; source = heap_at_code source.heap; target_null = target.null; target = heap_at_code target.heap }

-- two small codes of heap types
pub record Low (a b : ℕ) : Type 0 where
  pub first : a < heap_bound
  pub second : b < heap_bound

-- 25 of the label, by the cast
abbrev pub carried_of : Bool → Cast → Val
carried_of true k = rest_of k
carried_of false k = target_of k

pub record FormCarries (codes : List ℕ) (ts : Types) (first : ℕ) (source target : Reference) (fail : Bool) (label : Values) (r : Planned) : Type 0 where
  pub is : (l count : ℕ) (locals results : List Val) → planned_of codes r
      ≡ carried_to (context_on ts count locals results) (wants_at first) (cast_between l source target) (carried_of fail (cast_between l source target)) (carried_of (not fail) (cast_between l source target)) (values_of codes label)

-- 25, of the types too
pub record Casts (codes : List ℕ) (ts : Types) (first : ℕ) (source target : Reference) (fail : Bool) (label : Values) (r : Planned) : Type 0 where
  pub is : (l count : ℕ) (locals results : List Val) → planned_of codes r
      ≡ branches (context_on ts count locals results) (wants_at first) (cast_between l source target) (carried_of fail (cast_between l source target)) (carried_of (not fail) (cast_between l source target)) (values_of codes label)
