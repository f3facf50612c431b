-- What the questions about labels answer, and what it is that a plan follows the rule of an instruction that looks at the
-- labels alone.
use Rattle.std.specs.Prelude.{ℕ, ◌≡◌, Bool, List, [], ◌∷◌, ◌++◌, map}
use Rattle.std.proofs.Math.Option.{Option, none, some}
use Rattle.std.proofs.Math.ListN.{get_elem?}
use Rattle.scope.specs.Told.{Maybe}
use Rattle.std.specs.Prelude.{None, Some}
use Rattle.scope.specs.Syntax.{Val}
use Rattle.scope.specs.Instructions.{Op}
use Rattle.scope.specs.BodyRules.{Context, plan_of}
use Rattle.scope.specs.Bodies.{label_of}
use Rattle.type_table.specs.View.{val_at_code, codes_at}
use Rattle.body_state.specs.declared.Scene.{Scene}
use Rattle.body_state.specs.declared.Values.{Values}
use Rattle.body_state.specs.declared.Planned.{Planned}
use Rattle.body_state.specs.State.{values_of, planned_of, frame_at, frames_at}

-- the labels within so many open blocks, innermost first
unfoldable pub labels_at : List ℕ → List ℕ → Scene → ℕ → List (List Val)
labels_at codes work k depth =
    map label_of (frames_at work k.locals depth) ++ codes_at val_at_code codes k.first k.results ∷ []

abbrev pub label_option : List ℕ → Maybe Values → Option (List Val)
label_option codes None = none
label_option codes (Some vs) = some (values_of codes vs)

pub record BlockLabel (work : List ℕ) (m : ℕ) (r : Values) : Type 0 where
  pub is : (codes : List ℕ) (count : ℕ) → values_of codes r ≡ label_of (frame_at work count m)

pub record LabelOf (work : List ℕ) (k : Scene) (depth l : ℕ) (r : Maybe Values) : Type 0 where
  pub is : (codes : List ℕ) → label_option codes r ≡ get_elem? (labels_at codes work k depth) l

-- The plan r is what the rule of an instruction says, where the instruction looks at the labels alone.
pub record Goes (work : List ℕ) (k : Scene) (depth : ℕ) (o : Op) (r : Planned) : Type 0 where
  pub is : (codes : List ℕ) (c : Context) (is_set : List Bool) → planned_of codes r
      ≡ plan_of c (record { labels = labels_at codes work k depth; is_set = is_set }) o
