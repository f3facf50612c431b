-- What taking and putting one operand tell, by document 01's rules over what the words say.
use Rattle.std.specs.Prelude.{ℕ, ◌+◌, ◌-◌, ◌%◌, ◌≤◌, ◌<◌, ◌≡◌, List, [], ◌∷◌, set, eqb}
use Rattle.scope.specs.Sizes.{most_operands}
use Rattle.scope.specs.Syntax.{Types}
use Rattle.scope.specs.BodyRules.{allowed}
use Rattle.scope.specs.Bodies.{take_all}
use Rattle.body_state.specs.Layout.{operands_from, word_bound}
use Rattle.body_state.specs.State.{wanted_at_code, stack}
use Rattle.body_operands.specs.Taking.{left_in}
use Rattle.body_quick_take.specs.declared.Done.{Done}

-- one more than what is left, or 0 where it is not told
pub record Took (ts : Types) (work : List ℕ) (base top dead w r : ℕ) : Type 0 where
  pub left : (r ≡ 0 → ⊥) → left_in (take_all ts (eqb dead 1) (wanted_at_code w ∷ []) (stack work base (top - base))) ≡ allowed (stack work base (r - 1 - base))
  pub above : (r ≡ 0 → ⊥) → base ≤ r - 1
  pub most : r ≤ top + 1

-- whatever the types are
pub record TookAny (work : List ℕ) (base top dead w r : ℕ) : Type 0 where
  pub is : (ts : Types) → Took ts work base top dead w r

-- one operand's word on top, or nothing
pub record Put (work work' : List ℕ) (top w size : ℕ) (r : Done) : Type 0 where
  pub words : (r.size ≡ 0 → ⊥) → work' ≡ set work (operands_from + top) (w % word_bound)
  pub done : (r.size ≡ 0 → ⊥) → r ≡ record { top = top + 1; size = size }
  pub low : (r.size ≡ 0 → ⊥) → top < most_operands
  pub kept : r.size ≡ 0 → work' ≡ work
