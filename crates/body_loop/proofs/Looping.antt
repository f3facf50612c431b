-- Lap after lap, what is still to be judged, with what was judged before it counted, is what was to be judged. After as many laps as
-- there are bytes nothing is left to read.
use Prim.Native.Nat.{ℕ, ◌-◌, ◌≤◌}
use mathlib.Core.Path.{◌≡◌, refl, sym, ap, ◌∙◌}
use mathlib.Core.List.{List}
use native.Mathlib.Omega.{arith}
use lib.ListN.{length}
use Rattle.scope.specs.Told.{no_at}
use Rattle.std.specs.Prelude.{Result, Ok, Err}
use Rattle.scope.specs.declared.Refused.{Refused}
use Rattle.scope.specs.Refusals.{bytes_end}
use Rattle.scope.specs.Reading.{Read, got, refused}
use Rattle.scope.specs.Bodies.{State, Code, judge_from}
use Rattle.scope.specs.BodyRules.{Context}
use Rattle.body_state.specs.declared.Scene.{Scene}
use Rattle.body_state.specs.State.{context_at, state_at}
use Rattle.body_progress.specs.Standing.{check_of}
use Rattle.body_progress.specs.declared.Progress.{Progress}
use Rattle.body_progress.specs.Counted.{counted, judged_on, Running}
use Rattle.body_loop.specs.Loop.{begin, ended_is, JudgedFrom}

abbrev pub ended_of : Read ℕ → Result (ℕ × ℕ) Refused
ended_of (got n stop) = Ok (n, stop)
ended_of (refused n p) = Err (no_at n p)

-- the loop

pub record Going (rows codes work₀ : List ℕ) (k : Scene) (s : List ℕ) (at : ℕ) (work : List ℕ) (turn : ℕ) (state : Progress) : Type 0 where
  pub same : ended_is 0 (judge_from (length s) (context_at rows codes work₀ k) (state_at work₀ k.locals begin) s at) ≡ ended_of (judged_on rows codes k s work state)
  pub running : Running work k s state
  pub turns : turn ≤ state.count
  pub size : length work ≡ length work₀

from_none : (c : Context) (st : State) (s : List ℕ) (next : ℕ) → judge_from 0 c st s next ≡ refused bytes_end next
unfolding judge_from
from_none c st s next = refl

module _ {rows codes work₀ : List ℕ} {k : Scene} {s : List ℕ} {at : ℕ} {work : List ℕ} {turn : ℕ} {state : Progress} (g : Going rows codes work₀ k s at work turn state) where
  pub going_out : length s ≤ turn → JudgedFrom rows codes work₀ work k s at (Err (no_at bytes_end state.next))
  going_out z =
      let none : length s - state.count ≡ 0 = omega (arith, g.turns) in
      let c = context_at rows codes work k in
      let st = state_at work k.locals (check_of state.depth state.base state.top state.dead) in
      record {
        answer = sym (g.same ∙ ap (λ (n : ℕ). ended_of (counted state.count (judge_from n c st s state.next))) none ∙ ap (λ (o : Read Code). ended_of (counted state.count o)) (from_none c st s state.next));
        size = g.size;
      }
