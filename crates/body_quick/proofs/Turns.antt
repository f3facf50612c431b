-- One told instruction after the other.
use Prim.Native.Nat.{ℕ, suc, ◌+◌, ◌-◌, ◌<◌, ◌≤◌}
use mathlib.Core.Path.{◌≡◌, sym, ap, ◌∙◌}
use mathlib.Core.List.{List, ◌∷◌}
use native.Mathlib.Omega.{arith}
use lib.ListN.{length}
use Rattle.scope.specs.Sizes.{most_locals}
use Rattle.scope.specs.Reading.{got, then}
use Rattle.scope.specs.Instructions.{Instr, instr_at}
use Rattle.scope.specs.BodyRules.{Context, allowed}
use Rattle.scope.specs.Bodies.{State, goes_on, judge_instr, judge_from}
use Rattle.scope.proofs.Forward.{never_back}
use Rattle.scope.proofs.ForwardBodies.{instr_takes}
use Rattle.body_state.specs.declared.Check.{Check}
use Rattle.body_state.specs.declared.Scene.{Scene}
use Rattle.body_state.specs.State.{context_at, state_at, Stamped}
use Rattle.body_quick_take.specs.Telling.{Goes}
use Rattle.body_quick_frames.specs.declared.Frame.{Frame}
use Rattle.body_quick_frames.specs.Frames.{ToldFrame}
use Rattle.body_progress.specs.declared.Progress.{Progress}
use Rattle.body_progress.specs.Counted.{counted}
use Rattle.body_progress.proofs.Counting.{counted-one, context_same}
use Rattle.body_quick.specs.Runs.{Ran}

-- one instruction of the definition

from_told : (left : ℕ) (c : Context) (st st' : State) (s : List ℕ) (at next : ℕ) (j : Instr) → instr_at s at ≡ got j next → judge_instr c st j ≡ allowed (goes_on st') → judge_from (suc left) c st s at ≡ then (judge_from left c st' s next) (λ code stop. got ((at, j) ∷ code) stop)
unfolding judge_from
from_told left c st st' s at next j e f = rw (e, f)

module _ (rows codes : List ℕ) (k : Scene) {work work' : List ℕ} {s : List ℕ} {n at next : ℕ} {st st' : Check} (few : k.locals ≤ most_locals) (fewer : n ≤ at) (g : Goes (context_at rows codes work k) s at work work' k.locals st st' next) where
  ahead : at < next
  ahead = (never_back instr_takes s at g.reads).0

  pub inside : next ≤ length s
  inside = (never_back instr_takes s at g.reads).1

  pub later : Stamped work k.locals st.depth at → Stamped work' k.locals st'.depth next
  later old = let new = g.stamped old in let h = ahead in record { locals = λ i l. let q = new.locals i l in omega arith; frames = λ m l. let q = new.frames m l in omega arith }

  pub more : n + 1 ≤ next
  more = let h = ahead in omega arith

  pub one_told : counted n (judge_from (length s - n) (context_at rows codes work k) (state_at work k.locals st) s at) ≡ counted (n + 1) (judge_from (length s - (n + 1)) (context_at rows codes work' k) (state_at work' k.locals st') s next)
  one_told =
      let h = ahead in
      let i = inside in
      let left : length s - n ≡ suc (length s - (n + 1)) = omega arith in
      let context = context_same rows codes work work' k few g.types in
      ap (λ (l : ℕ). counted n (judge_from l (context_at rows codes work k) (state_at work k.locals st) s at)) left
      ∙ ap (counted n) (from_told (length s - (n + 1)) (context_at rows codes work k) (state_at work k.locals st) (state_at work' k.locals st') s at next g.instr g.reads g.judged)
      ∙ counted-one n at g.instr (judge_from (length s - (n + 1)) (context_at rows codes work k) (state_at work' k.locals st') s next)
      ∙ ap (λ (c : Context). counted (n + 1) (judge_from (length s - (n + 1)) c (state_at work' k.locals st') s next)) (sym context)

-- the loop

module _ {rows codes work₀ work : List ℕ} {k : Scene} {s : List ℕ} {from state : Progress} (ran : Ran rows codes work₀ work k s from state) {work' : List ℕ} {r : Frame} (told : ToldFrame (context_at rows codes work k) s state.next work work' k.locals state.depth state.base state.top state.dead r) (n : r.size ≡ 0 → ⊥) where
  few : k.locals ≤ most_locals
  few = ran.running.stands.upright.few

  pub run_place : state.next + r.size ≤ length s
  run_place = inside rows codes k few ran.running.fewer (told.goes n)

  -- one instruction more, whatever frame it leads to
  pub run_turn : Ran rows codes work₀ work' k s from (record { count = state.count + 1; next = state.next + r.size; depth = r.depth; base = r.base; top = r.top; dead = r.dead })
  run_turn =
      let b = ran.running in
      let goes = told.goes n in
      record {
        same = ran.same ∙ one_told rows codes k few b.fewer goes;
        running = record { stands = record { upright = goes.upright; ordered = told.ordered n; flag = told.flag n }; stamped = later rows codes k few b.fewer goes b.stamped; inside = run_place; fewer = more rows codes k few b.fewer goes };
        further = let f = ran.further in omega arith;
        size = goes.size ∙ ran.size;
      }
