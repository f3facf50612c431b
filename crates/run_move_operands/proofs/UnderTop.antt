-- Each way out of asking for the operand under the topmost.
use Prim.Native.Nat.{ℕ, ◌-◌}
use mathlib.Core.Path.{◌≡◌, sym, ap, ◌∙◌}
use mathlib.Core.List.{List}
use lib.ListN.{drop}
use Rattle.scope.specs.Told.{Maybe}
use Rattle.std.specs.Prelude.{None}
use Rattle.scope.specs.Machine.{Value}
use Rattle.run_value.specs.declared.Value.{Value as Carrier}
use Rattle.run_stack.specs.Pile.{head_of, TopIs}
use Rattle.run_stack.proofs.Laws.{pile-none, pile-some}
use Rattle.run_move_operands.specs.Seconds.{SecondIs}

pub second_nothing : (operands : List ℕ) (base : ℕ) {height : ℕ} → height ≡ 0 → SecondIs operands base height None
second_nothing operands base e =
    record { seen = record { is = ap (λ (vs : List Value). head_of (drop 1 vs)) (sym (pile-none operands base e)) } }

pub second_there : {operands : List ℕ} {base height : ℕ} → (height ≡ 0 → ⊥) → {r : Maybe Carrier} → TopIs operands base (height - 1) r → SecondIs operands base height r
second_there {operands} {base} {height} d a =
    record { seen = record { is = a.is ∙ ap (λ (vs : List Value). head_of (drop 1 vs)) (sym (pile-some operands base d)) } }

pub ruleset second_exits = (second_nothing, second_there)
