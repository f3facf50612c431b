-- What each family has from what it is asked.
use Prim.Native.Nat.{ℕ, ◌+◌, ◌-◌, ◌%◌, ◌^◌, ◌≤◌, ◌<◌}
use mathlib.Core.Path.{◌≡◌}
use mathlib.Core.List.{List, [], ◌∷◌}
use native.Mathlib.Omega.{arith}
use lib.ListN.{length}
use lib.Dec.{eqb}
use mir.Syntax.{w8, w32, w64}
use mir.Val.{Fits}
use Rattle.scope.specs.Syntax.{Types}
use Rattle.scope.specs.BodyRules.{value, allowed}
use Rattle.scope.specs.Bodies.{take_all}
use Rattle.type_table.specs.View.{val_at_code}
use Rattle.body_state.specs.Layout.{code_bound}
use Rattle.body_state.specs.State.{stack}
use Rattle.body_words.proofs.Laws.{value_code}
use Rattle.body_operands.specs.Taking.{left_in}
use Rattle.body_quick_take.specs.Taking.{Took}
use Rattle.body_progress.specs.Standing.{Ordered, Stands}
use Rattle.body_quick_take.specs.Telling.{Asked, AskedAfter}

module _ {b : ℕ} {s : List ℕ} {at : ℕ} {work : List ℕ} {count depth base top dead : ℕ} (a : Asked b s at work count depth base top dead) where
  pub next_fits : length s < 2 ^ 64 → Fits w64 (at + 1)
  next_fits l = let i = a.inside in record { fits = omega arith }

  pub asked_ordered : Ordered base top
  asked_ordered = a.stands.ordered

  pub byte_fits : Fits w8 b
  byte_fits = let i = a.small in record { fits = omega arith }

  pub frame_fits : Fits w64 (depth + 1)
  frame_fits = let i = a.stands.upright.deep in record { fits = omega arith }

  pub frame_fits32 : Fits w32 (depth + 1)
  frame_fits32 = let i = a.stands.upright.deep in record { fits = omega arith }

  pub local_fits32 : {x : ℕ} → x < count → Fits w32 x
  local_fits32 h = let i = a.stands.upright.few in record { fits = omega arith }

module _ {k : ℕ} {s : List ℕ} {at : ℕ} {work : List ℕ} {count depth base top dead : ℕ} (a : AskedAfter k s at work count depth base top dead) where
  pub after-fits : length s < 2 ^ 64 → Fits w64 (at + 2)
  after-fits l = let i = a.inside in record { fits = omega arith }

  pub after_ordered : Ordered base top
  after_ordered = a.stands.ordered

pub ruleset after_exits = (after-fits, after_ordered)

pub code-low : (o : ℕ) → o % code_bound < code_bound
code-low o = omega arith

pub code_fits : (o : ℕ) → Fits w64 (o % code_bound + 2)
code_fits o = record { fits = omega arith }

-- what is left of operands that are within the sizes is too
pub took_ordered : {ts : Types} {work : List ℕ} {base top dead w t : ℕ} → Ordered base top → Took ts work base top dead w t → (t ≡ 0 → ⊥) → Ordered base (t - 1)
took_ordered o k m =
    let above = k.above m in
    let most = k.most in
    let low = o.low in
    record { above = above; low = omega arith }

-- an operand of the type with the code c was taken
pub took_value : {ts : Types} {work : List ℕ} {base top dead t : ℕ} (c : ℕ) → Took ts work base top dead (c + 2) t → (t ≡ 0 → ⊥) → left_in (take_all ts (eqb dead 1) (value (val_at_code c) ∷ []) (stack work base (top - base))) ≡ allowed (stack work base (t - 1 - base))
took_value c k m = rw (value_code c) at (k.left m)

pub ruleset asked_exits = (next_fits, asked_ordered, byte_fits, frame_fits, frame_fits32, local_fits32, code_fits)
