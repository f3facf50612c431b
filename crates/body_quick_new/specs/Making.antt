-- What is asked and told where fields are taken and a struct is put.
use Rattle.std.specs.Prelude.{ℕ, ◌+◌, ◌-◌, ◌<◌, ◌≤◌, ◌^◌, ◌≡◌, true, false, List, eqb}
use Rattle.scope.specs.Syntax.{Types, ref, exact}
use Rattle.scope.specs.BodyRules.{allowed, from_top}
use Rattle.scope.specs.Bodies.{take_all}
use Rattle.body_state.specs.declared.Values
use Rattle.body_state.specs.State.{values_of, stack}
use Rattle.body_operands.specs.Taking.{left_in}
use Rattle.body_plan_parts.specs.Planning.{CodeIs}
use Rattle.body_plan_defaults.specs.Defaults.{all_default}
use Rattle.body_progress.specs.Standing.{Ordered}
use Rattle.body_quick_take.specs.declared.Done.{Done}
use Rattle.body_quick_take.specs.Taking.{Put}

pub record Making (x size base top : ℕ) : Type 0 where
  pub small : x < 2 ^ 16
  pub some' : 0 < size
  pub ordered : Ordered base top

-- the fields were taken, and the struct is put on what is left; or nothing is written
pub record MadeOf (ts : Types) (codes work work' : List ℕ) (first n x size base top dead : ℕ) (r : Done) : Type 0 where
  pub left : ℕ
  pub above : base ≤ left
  pub take : left_in (take_all ts (eqb dead 1) (from_top (values_of codes (Values.TheVariants.Fields first n))) (stack work base (top - base))) ≡ allowed (stack work base (left - base))
  pub word : ℕ
  pub code : CodeIs (ref false (exact x)) word
  pub put : Put work work' left (word + 2) size r

pub record Made (ts : Types) (codes work work' : List ℕ) (first n x size base top dead : ℕ) (r : Done) : Type 0 where
  pub is : (r.size ≡ 0 → ⊥) → MadeOf ts codes work work' first n x size base top dead r
  pub kept : r.size ≡ 0 → work' ≡ work

-- each field has a default, and the struct is put; or nothing is written
pub record Filling (codes work work' : List ℕ) (first n x size top : ℕ) (r : Done) : Type 0 where
  pub all : all_default true codes first n ≡ true
  pub word : ℕ
  pub code : CodeIs (ref false (exact x)) word
  pub put : Put work work' top (word + 2) size r

pub record Filled (codes work work' : List ℕ) (first n x size top : ℕ) (r : Done) : Type 0 where
  pub is : (r.size ≡ 0 → ⊥) → Filling codes work work' first n x size top r
  pub kept : r.size ≡ 0 → work' ≡ work
