-- Each way out of drop: any value is wanted, so any operand fits.
use Prim.Native.Nat.{ℕ, zero, suc, ◌+◌, ◌-◌, ◌≤◌, ◌<◌}
use mathlib.Core.Path.{◌≡◌, refl, ap, ◌∙◌}
use mathlib.Core.Bool.{Bool, true}
use mathlib.Core.Option.{some}
use mathlib.Core.List.{List, [], ◌∷◌}
use native.Mathlib.Omega.{arith}
use lib.ListN.{get_or, get_elem?}
use lib.Dec.{eqb}
use Rattle.scope.specs.Sizes.{most_operands}
use Rattle.scope.specs.Reading.{got}
use Rattle.scope.specs.Syntax.{Types}
use Rattle.scope.specs.Order.{Fit, it_fits}
use Rattle.scope.specs.Instructions.{op, drop_value, instr_at}
use Rattle.scope.specs.BodyRules.{Context, Scope, any_value, values, allowed, takes, plan_of}
use Rattle.scope.specs.Bodies.{Operand, known, unknown, unknown_reference, fits, fit, take_all, scope_of}
use Rattle.body_state.specs.Layout.{operands_from}
use Rattle.body_state.specs.State.{operand_at_code, stack, state_at}
use Rattle.body_words.proofs.Laws.{stack-none, stack_some}
use Rattle.body_take.proofs.OneTaken.{take-empty, take_top}
use Rattle.body_operands.specs.Taking.{left_in}
use Rattle.body_quick_take.specs.declared.Done.{Done}
use Rattle.body_progress.specs.Standing.{Ordered}
use Rattle.body_progress.specs.Standing.{check_of}
use Rattle.body_quick_take.specs.Telling.{Asked, Told, Plainly}
use Rattle.body_quick_take.proofs.Tellings.{told_none}
use Rattle.body_quick_values.specs.Values.{Drops}

read_drop : (s : List ℕ) (at : ℕ) → get_elem? s at ≡ some 0x1A → instr_at s at ≡ got (op drop_value) (at + 1)
unfolding instr_at
read_drop s at e = rw e

plan_drop : (c : Context) (here : Scope) → plan_of c here drop_value ≡ takes (any_value ∷ []) (values [])
unfolding plan_of
plan_drop c here = refl

any_fit : (ts : Types) (o : Operand) → fit ts o any_value ≡ it_fits
unfolding fit fits
any_fit ts (known v) = refl
any_fit ts unknown = refl
any_fit ts unknown_reference = refl

left-dropped : (ts : Types) (dead : Bool) (work : List ℕ) (base height : ℕ) → (height ≡ 0 → ⊥) → left_in (take_all ts dead (any_value ∷ []) (stack work base height)) ≡ allowed (stack work base (height - 1))
left-dropped ts dead work base height n = rw (stack_some work base n, take_top ts dead any_value (operand_at_code (get_or work (operands_from + (base + (height - 1))) 0)) (stack work base (height - 1)), any_fit ts (operand_at_code (get_or work (operands_from + (base + (height - 1))) 0)))

left_unknown : (ts : Types) (dead : Bool) (work : List ℕ) (base height : ℕ) → height ≡ 0 → dead ≡ true → left_in (take_all ts dead (any_value ∷ []) (stack work base height)) ≡ allowed (stack work base height)
left_unknown ts dead work base height z d = rw (stack-none work base z, take-empty ts dead any_value, d)

drop_less : (base top : ℕ) → base < top → top - base - 1 ≡ top - 1 - base
drop_less base top h = omega arith

drop-some : (base top : ℕ) → base < top → top - base ≡ 0 → ⊥
drop-some base top h z = omega arith

drop_ordered : (base top : ℕ) → base < top → top ≤ most_operands → Ordered base (top - 1)
drop_ordered base top h l = record { above = omega arith; low = omega arith }

pub drop-told : {base top : ℕ} (dead : ℕ) → base < top → Drops base top dead (record { top = top - 1; size = 1 })
drop-told {base} {top} dead h =
    record {
      is = λ s at work count depth a.
          record { is = λ c l. told_none c drop_value a.stands (plan_drop c (scope_of c (state_at work count (check_of depth base top dead)))) (drop_ordered base top h a.stands.ordered.low) (left-dropped c.types (eqb dead 1) work base (top - base) (drop-some base top h) ∙ ap (λ (k : ℕ). allowed (stack work base k)) (drop_less base top h)) (read_drop s at a.byte) (omega arith) refl };
    }

drop_dead : (dead : ℕ) {base top : ℕ} → top ≤ base → dead ≤ 1 → (s : List ℕ) (at : ℕ) (work : List ℕ) (count depth : ℕ) → Asked 0x1A s at work count depth base top dead → (c : Context) → Told c s at work work count depth base top dead (record { top = top; size = dead })
drop_dead zero h l s at work count depth a c = record { goes = λ n. absurd (n refl); ordered = λ n. absurd (n refl); kept = λ z. refl }
drop_dead (suc zero) {base} {top} h l s at work count depth a c =
    let none' : top - base ≡ 0 = omega arith in
    told_none c drop_value a.stands (plan_drop c (scope_of c (state_at work count (check_of depth base top 1)))) a.stands.ordered (left_unknown c.types (eqb 1 1) work base (top - base) none' refl) (read_drop s at a.byte) (omega arith) refl
drop_dead (suc (suc d)) h l s at work count depth a c = absurd (omega arith)

pub drop_unknown : {base top dead : ℕ} → top ≤ base → Drops base top dead (record { top = top; size = dead })
drop_unknown {dead = dead} h = record { is = λ s at work count depth a. record { is = λ c l. drop_dead dead h a.stands.flag s at work count depth a c } }

pub ruleset drop_exits = (drop-told, drop_unknown)
