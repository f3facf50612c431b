-- What it is that a plan follows the rule of a branching cast, part by part.
use Rattle.std.specs.Prelude.{ℕ, ◌≡◌, Bool, true, false, List, ◌++◌, ltb}
use Rattle.std.proofs.Math.ListN.{get_elem?}
use Rattle.scope.specs.Refusals.{out_of_reach, absent}
use Rattle.scope.specs.Lists.{every}
use Rattle.scope.specs.Syntax.{Heap, Val, Types}
use Rattle.scope.specs.TypeRules.{heap_names}
use Rattle.scope.specs.Instructions.{Cast, Op, br_on_cast, br_on_cast_fail, br_on_cast_desc_eq, br_on_cast_desc_eq_fail}
use Rattle.scope.specs.BodyRules.{Ruled, allowed, fault, test, need, plan_of}
use Rattle.type_table.specs.View.{heap_at_code}
use Rattle.body_state.specs.declared.Scene.{Scene}
use Rattle.body_state.specs.declared.Values.{Values}
use Rattle.body_state.specs.declared.Planned.{Planned}
use Rattle.body_state.specs.State.{values_of, planned_of}
use Rattle.body_plan_parts.specs.Planning.{context_on}
use Rattle.body_plan_labels.specs.Labels.{labels_at}
use Rattle.body_plan_cast_forms.specs.Forms.{Low}
use Rattle.body_plan_branches.specs.declared.Target.{Target}
use Rattle.body_plan_branches.specs.declared.Target

-- The plan r is what the rule of an instruction says, where the instruction looks at the labels and the types.
pub record Branching (codes : List ℕ) (ts : Types) (count : ℕ) (labels : List (List Val)) (o : Op) (r : Planned) : Type 0 where
  pub is : (locals results : List Val) (is_set : List Bool) → planned_of codes r
      ≡ plan_of (context_on ts count locals results) (record { labels = labels; is_set = is_set }) o

-- the plain form, or the fail form
unfoldable pub cast_op : Bool → Cast → Op
cast_op true k = br_on_cast_fail k
cast_op false k = br_on_cast k

unfoldable pub desc_op : Bool → Cast → Op
desc_op true k = br_on_cast_desc_eq_fail k
desc_op false k = br_on_cast_desc_eq k

abbrev pub target_ruled : List ℕ → Target → Ruled (List Val)
target_ruled codes (Target.TheVariants.Fault n) = fault n
target_ruled codes (Target.TheVariants.Is vs) = allowed (values_of codes vs)

-- 6 and 21 of a branching cast
unfoldable pub cast_label_at : List (List Val) → ℕ → ℕ → Heap → Heap → Ruled (List Val)
cast_label_at labels count l source target =
    test (every (λ x. ltb x count) (heap_names source ++ heap_names target)) out_of_reach (need (get_elem? labels l) absent allowed)

pub record CastLabel (work : List ℕ) (k : Scene) (depth l source target : ℕ) (r : Target) : Type 0 where
  pub is : (codes : List ℕ) → target_ruled codes r
      ≡ cast_label_at (labels_at codes work k depth) k.types l (heap_at_code source) (heap_at_code target)
  pub low : (vs : Values) → r ≡ Target.TheVariants.Is vs → Low source target
