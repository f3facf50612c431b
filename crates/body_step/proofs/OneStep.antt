-- Each way out of one instruction: it opens a frame, it closes one, or its plan is done.
use Prim.Native.Nat.{ℕ}
use mathlib.Core.Path.{◌≡◌, refl, ◌∙◌}
use mathlib.Core.Bool.{Bool, true, false, cond}
use mathlib.Core.List.{List}
use native.Mathlib.Omega.{arith}
use Rattle.scope.specs.Instructions.{block, loop, end}
use Rattle.scope.specs.BodyRules.{Context, Ruled, and_ruled}
use Rattle.scope.specs.Bodies.{State, Next, do_plan, judge_instr}
use Rattle.body_immediates.specs.declared.Instruction.{Instruction}
use Rattle.body_decoded.specs.Decoded.{block_results, instr_of}
use Rattle.body_state.specs.declared.Check.{Check}
use Rattle.body_state.specs.declared.Scene.{Scene}
use Rattle.body_state.specs.declared.Planned.{Planned}
use Rattle.body_state.specs.declared.Step.{Step}
use Rattle.body_state.specs.declared.Step
use Rattle.body_state.specs.State.{planned_of, context_at, state_at, Upright, Stepped}
use Rattle.body_plans.specs.declared.Act.{Act}
use Rattle.body_plans.specs.declared.Act
use Rattle.body_plans.specs.Acts.{act_of}
use Rattle.body_frames.specs.Frames.{Opening, opens, Opened}
use Rattle.body_step.specs.Stepping.{SteppedAt}

pub still_upright : {work : List ℕ} {count at : ℕ} {st : Check} → Opening work count st at → Upright work count st
still_upright o = o.upright

-- what is judged of block and loop
opens_is : (c : Context) (st : State) (is_loop : Bool) (w : ℕ) → opens c.count st is_loop (block_results w) ≡ judge_instr c st (cond is_loop (loop (block_results w)) (block (block_results w)))
unfolding judge_instr
opens_is c st true w = refl
opens_is c st false w = refl

-- a step that made no stamp
stepped-at : {work work' : List ℕ} {count at : ℕ} {st : Check} → Opening work count st at → {want want' : Ruled Next} {r : Step} → want ≡ want' → Stepped work work' count st.depth want r → SteppedAt work work' count at want' r
stepped-at o e s =
    record {
      answer = s.answer ∙ e;
      upright = s.upright;
      stamped = λ st' f.
          let same = s.stamped st' f _ o.stamped in
          record { locals = λ i h. let l = same.locals i h in omega arith; frames = λ m h. let l = same.frames m h in omega arith };
      types = s.types;
      size = s.size;
    }

module _ (rows codes : List ℕ) {work : List ℕ} (k : Scene) {st : Check} {at : ℕ} (o : Opening work k.locals st at) (i : Instruction) {act : Act} where
  module _ {is_loop : Bool} {w : ℕ} (e : act ≡ Act.TheVariants.Opens is_loop w) (a : act_of codes (context_at rows codes work k) (state_at work k.locals st) act ≡ judge_instr (context_at rows codes work k) (state_at work k.locals st) (instr_of i)) where
    pub step-opens : {work' : List ℕ} {r : Step} → Opened work work' k st is_loop w at r → SteppedAt work work' k.locals at (judge_instr (context_at rows codes work k) (state_at work k.locals st) (instr_of i)) r
    unfolding act_of context_at
    step-opens p =
        let c = context_at rows codes work k in
        let s = state_at work k.locals st in
        let same = opens_is c s is_loop w ∙ (rw e at a) in
        record { answer = p.answer ∙ same; upright = p.upright; stamped = p.stamped; types = p.types; size = p.size }

  module _ (e : act ≡ Act.TheVariants.Closes) (a : act_of codes (context_at rows codes work k) (state_at work k.locals st) act ≡ judge_instr (context_at rows codes work k) (state_at work k.locals st) (instr_of i)) where
    pub step_closes : {work' : List ℕ} {r : Step} → Stepped work work' k.locals st.depth (judge_instr (context_at rows codes work k) (state_at work k.locals st) end) r → SteppedAt work work' k.locals at (judge_instr (context_at rows codes work k) (state_at work k.locals st) (instr_of i)) r
    unfolding act_of
    step_closes p = stepped-at o (rw e at a) p

  module _ {planned : Planned} (e : act ≡ Act.TheVariants.Does planned) (a : act_of codes (context_at rows codes work k) (state_at work k.locals st) act ≡ judge_instr (context_at rows codes work k) (state_at work k.locals st) (instr_of i)) where
    pub step_does : {work' : List ℕ} {r : Step} → Stepped work work' k.locals st.depth (and_ruled (planned_of codes planned) (do_plan (context_at rows codes work k) (state_at work k.locals st))) r → SteppedAt work work' k.locals at (judge_instr (context_at rows codes work k) (state_at work k.locals st) (instr_of i)) r
    unfolding act_of
    step_does p = stepped-at o (rw e at a) p

pub ruleset step_exits = (still_upright, step-opens, step_closes, step_does)
