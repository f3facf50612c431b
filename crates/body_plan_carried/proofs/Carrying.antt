-- Each way out of the label's rule, by codes: it relies on the first outcome alone.
use Prim.Native.Nat.{ℕ, ◌+◌}
use mathlib.Core.Path.{◌≡◌, sym}
use mathlib.Core.Bool.{true, false}
use mathlib.Core.List.{List}
use Rattle.std.specs.Prelude.{None, Some}
use Rattle.scope.specs.Told.{Maybe}
use Rattle.scope.specs.Refusals.{bad_branch}
use Rattle.scope.specs.Syntax.{Types}
use Rattle.scope.specs.Order.{val_below, val_fit}
use Rattle.type_table.specs.View.{val_at_code}
use Rattle.type_fit.specs.declared.Fit.{Fit}
use Rattle.type_fit.specs.declared.Fit
use Rattle.type_fit.specs.Outcomes.{fit_is}
use Rattle.type_fit.proofs.Outcomes.{outcome_fits, outcome_null, outcome_unfit}
use Rattle.body_state.specs.declared.Values.{Values}
use Rattle.body_state.specs.declared.Planned.{Planned}
use Rattle.body_state.specs.declared.Planned
use Rattle.body_state.specs.State.{plain_of, planned_of}
use Rattle.body_plan_parts.proofs.Words.{wants_value, gives_value}
use Rattle.body_plan_carried.specs.Carried.{SplitOf, Small, Carries}

module _ (codes : List ℕ) (ts : Types) (first source carried falls : ℕ) (label : Values) {s : Maybe (Values × ℕ)} (b : SplitOf codes label s) where
  pub without_types : s ≡ None → Carries codes ts first source carried falls label (Planned.TheVariants.Fault bad_branch)
  unfolding planned_of
  without_types q = record { is = rw (← b.is, q) }

  module _ {v : Values} {w : ℕ} (q : s ≡ Some (v, w)) {u : Fit} (d : u ≡ fit_is (val_fit ts (val_at_code carried) (val_at_code w))) where
    not-below : val_below ts (val_at_code carried) (val_at_code w) ≡ false → Carries codes ts first source carried falls label (Planned.TheVariants.Fault bad_branch)
    unfolding planned_of
    not-below e = record { is = rw (← b.is, q, e) }

    pub carried_nullable : u ≡ Fit.TheVariants.ButForNull → Carries codes ts first source carried falls label (Planned.TheVariants.Fault bad_branch)
    carried_nullable f = not-below (sym (outcome_null ts (val_at_code carried) (val_at_code w) d f))

    pub carried_unfit : u ≡ Fit.TheVariants.Unfit → Carries codes ts first source carried falls label (Planned.TheVariants.Fault bad_branch)
    carried_unfit f = not-below (sym (outcome_unfit ts (val_at_code carried) (val_at_code w) d f))

    pub carried_below : u ≡ Fit.TheVariants.Fits → Small source falls → Carries codes ts first source carried falls label (Planned.TheVariants.Plain (record { top = first; second = source + 3; rest = v; back = true; gives = falls + 1; marks = 0; stops = false }))
    unfolding planned_of plain_of
    carried_below f small = record { is = rw (← b.is, q, ← outcome_fits ts (val_at_code carried) (val_at_code w) d f, wants_value source, gives_value small.second) }

pub ruleset carry_exits = (without_types, carried_nullable, carried_unfit, carried_below)
