-- The operands of all frames are counted, once values stand on top.
use Prim.Native.Nat.{ℕ, ◌+◌, ◌≤◌, ◌<◌}
use mathlib.Core.Path.{◌≡◌, ◌∙◌}
use mathlib.Core.Bool.{Bool, true}
use mathlib.Core.List.{List, ◌++◌, map, reverse, append-nil}
use native.Mathlib.Omega.{arith}
use lib.ListN.{length, length-append, length-map, length-reverse}
use borrow.Author.Tests.{le-leb, lt-leb}
use Rattle.scope.specs.Sizes.{most_operands}
use Rattle.scope.specs.Refusals.{oversize}
use Rattle.scope.specs.Lists.{sum}
use Rattle.scope.specs.Syntax.{Val}
use Rattle.scope.specs.BodyRules.{allowed, fault}
use Rattle.scope.specs.Bodies.{Operand, known, on_top, outer_of, State, operands_in, goes_on, within_operands}
use Rattle.body_state.specs.declared.Values.{Values}
use Rattle.body_state.specs.State.{values_of, results_at, stack, frames_at, Rests}
use Rattle.body_state.proofs.Alike.{stack-length, below_all}
use Rattle.body_push.specs.Gives.{back_of, given_of, Gave, TooMany}

-- a list that is put back, and no type besides
pub given_back : (codes : List ℕ) (list : Values) → given_of codes list true 0 ≡ values_of codes list
unfolding given_of back_of results_at
given_back codes list = append-nil (values_of codes list)

-- in the frame at depth d those operands stand on so many others
abbrev pub on_those : List ℕ → ℕ → ℕ → ℕ → ℕ → List Operand → Bool → List Bool → State
on_those work count d base height os dead is_set =
    record { frames = frames_at work count d; operands = os ++ stack work base height; dead = dead; is_set = is_set }

-- sizes

module _ {work : List ℕ} {d base : ℕ} (rests : Rests work d base) (count height : ℕ) (dead : Bool) (is_set : List Bool) where
  pub operands_all : (os : List Operand) → operands_in (on_those work count d base height os dead is_set) ≡ base + (height + length os)
  operands_all os =
      let all : operands_in (on_those work count d base height os dead is_set) ≡ length os + length (stack work base height) + sum (map (λ f. length (outer_of f)) (frames_at work count d)) = rw (length-append os (stack work base height)) in
      omega (arith, all, stack-length work base height, below_all count d rests)

  module _ (vs : List Val) where
    on_top_all : operands_in (on_those work count d base height (on_top vs) dead is_set) ≡ base + (height + length vs)
    on_top_all = let long : length (on_top vs) ≡ length vs = length-map (reverse vs) known ∙ length-reverse vs in operands_all (on_top vs) ∙ rw long

    pub within-sizes : {work' : List ℕ} {h : ℕ} → Gave work work' base height vs h → within_operands (on_those work count d base height (on_top vs) dead is_set) ≡ allowed (goes_on (on_those work count d base height (on_top vs) dead is_set))
    within-sizes g =
        let l : operands_in (on_those work count d base height (on_top vs) dead is_set) ≤ most_operands = omega (arith, on_top_all, g.high, g.few) in
        rw (le-leb (operands_in (on_those work count d base height (on_top vs) dead is_set)) most_operands l)

    pub beyond-sizes : {work' : List ℕ} → TooMany work work' base height vs → within_operands (on_those work count d base height (on_top vs) dead is_set) ≡ fault oversize
    beyond-sizes t =
        let l : most_operands < operands_in (on_those work count d base height (on_top vs) dead is_set) = omega (arith, on_top_all, t.many) in
        rw (lt-leb (operands_in (on_those work count d base height (on_top vs) dead is_set)) most_operands l)
