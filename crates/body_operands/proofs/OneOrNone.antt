-- Each way out of taking one operand or none.
use Prim.Native.Nat.{ℕ, ◌-◌}
use mathlib.Core.Path.{◌≡◌}
use mathlib.Core.Bool.{Bool}
use mathlib.Core.List.{List, [], ◌∷◌}
use borrow.Author.Tests.{ne_eqb}
use Rattle.scope.specs.Syntax.{Types}
use Rattle.scope.specs.Bodies.{take_all}
use Rattle.body_state.specs.State.{wanted_at_code, wants_at, stack}
use Rattle.body_take.specs.declared.Take.{Take}
use Rattle.body_take.specs.declared.Take
use Rattle.body_take.specs.Took.{took_of}
use Rattle.body_operands.specs.declared.Left.{Left}
use Rattle.body_operands.specs.declared.Left
use Rattle.body_operands.specs.Taking.{left_of, left_in}

module _ (ts : Types) (dead : Bool) (work : List ℕ) {w : ℕ} (base height : ℕ) where
  pub wants_none : w ≡ 0 → left_of work base (Left.TheVariants.Is height) ≡ left_in (take_all ts dead (wants_at w) (stack work base height))
  unfolding wants_at take_all
  wants_none e = rw e

  module _ (n : w ≡ 0 → ⊥) where
    one_wanted : wants_at w ≡ wanted_at_code (w - 1) ∷ []
    unfolding wants_at
    one_wanted = rw (ne_eqb w 0 n)

    pub wants_got : {r : Take} {o left : ℕ} → r ≡ Take.TheVariants.Took o left → took_of work base r ≡ take_all ts dead (wanted_at_code (w - 1) ∷ []) (stack work base height) → left_of work base (Left.TheVariants.Is left) ≡ left_in (take_all ts dead (wants_at w) (stack work base height))
    wants_got e a = rw (one_wanted, ← a, e)

    pub wants_missed : {r : Take} {number : ℕ} → r ≡ Take.TheVariants.Fault number → took_of work base r ≡ take_all ts dead (wanted_at_code (w - 1) ∷ []) (stack work base height) → left_of work base (Left.TheVariants.Fault number) ≡ left_in (take_all ts dead (wants_at w) (stack work base height))
    wants_missed e a = rw (one_wanted, ← a, e)

pub ruleset some_exits = (wants_none, wants_got, wants_missed)
