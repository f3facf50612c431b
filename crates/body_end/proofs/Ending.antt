-- Each way out at the end of a frame: whether it may end; back in the frame around; and the instruction itself, which
-- ends the body in the function's own frame.
use Prim.Native.Nat.{ℕ, suc, ◌+◌, ◌-◌, ◌*◌}
use mathlib.Core.Path.{◌≡◌, refl, sym, ap, ◌∙◌}
use mathlib.Core.Bool.{Bool, true, false}
use mathlib.Core.List.{List, ◌∷◌}
use native.Mathlib.Omega.{arith}
use lib.Dec.{eqb}
use Rattle.scope.specs.Told.{Maybe}
use Rattle.std.specs.Prelude.{None, Some}
use Rattle.scope.specs.Refusals.{oversize, values_left}
use Rattle.scope.specs.Syntax.{Val}
use Rattle.scope.specs.BodyRules.{Context, Ruled, allowed, and_ruled, from_top}
use Rattle.scope.specs.Bodies.{Operand, Frame, State, Taken, Next, goes_on, finished, on_top, take_all, none_left, within_operands, judge_block_end, judge_end, judge_instr}
use Rattle.scope.specs.Instructions.{end}
use Rattle.scope.proofs.Impossible.{contradiction}
use Rattle.type_table.specs.View.{view}
use Rattle.lent_u32.specs.Scratch.{Word32At}
use Rattle.body_state.specs.declared.Check.{Check}
use Rattle.body_state.specs.declared.Scene.{Scene}
use Rattle.body_state.specs.declared.Step.{Step}
use Rattle.body_state.specs.declared.Step
use Rattle.body_state.specs.declared.Values.{Values}
use Rattle.body_state.specs.declared.Values
use Rattle.body_state.specs.Layout.{frames_from, frame_span, loop_word, result_word, base_word, height_word, dead_word}
use Rattle.body_state.specs.State.{values_of, results_at, frame_word, stack, sets_at, frame_of, frame_at, frames_at, state_at, context_at, Rests, above, Upright, Stepped, ResultsOf}
use Rattle.body_state.proofs.Alike.{frames_more}
use Rattle.body_state.proofs.Stepping.{stepped-on, stepped_stop, stepped_fault}
use Rattle.body_words.proofs.Laws.{stack-none, stack_some}
use Rattle.body_operands.specs.declared.Left.{Left}
use Rattle.body_operands.specs.declared.Left
use Rattle.body_operands.specs.Taking.{left_of, left_in}
use Rattle.body_operands.proofs.Laws.{left_got, left_missed}
use Rattle.body_put.proofs.PushedState.{pushed_types, pushed_stamped, pushed_state, pushed_upright}
use Rattle.body_push.specs.Gives.{Long, given_of, GivenTo, Gave, TooMany}
use Rattle.body_push.proofs.Laws.{given_back, on_those, within-sizes, beyond-sizes}
use Rattle.body_end.specs.declared.End.{End}
use Rattle.body_end.specs.declared.End
use Rattle.body_end.specs.Ends.{end_fault, EndsWith, Inner, stepped_out}

-- whether a frame may end

none_left_lem : (t : Ruled Taken) (os : List Operand) (more : Ruled Next) → (u : Taken) × (t ≡ allowed u) × (u.left ≡ os) → and_ruled t (λ v. none_left v.left more) ≡ none_left os more
none_left_lem t os more (u, e, f) = rw (e, f)

module _ (rows codes work : List ℕ) (list : Values) (base height : ℕ) (dead : Bool) {r : Left} where
  pub end_missed : {number : ℕ} → r ≡ Left.TheVariants.Fault number → left_of work base r ≡ left_in (take_all (view rows codes) dead (from_top (values_of codes list)) (stack work base height)) → EndsWith rows codes work list base height dead (End.TheVariants.Fault number)
  end_missed e a =
      record { is = λ more. rw (left_missed work base (take_all (view rows codes) dead (from_top (values_of codes list)) (stack work base height)) e a) }

  module _ {left : ℕ} (e : r ≡ Left.TheVariants.Is left) (a : left_of work base r ≡ left_in (take_all (view rows codes) dead (from_top (values_of codes list)) (stack work base height))) where
    ends : (more : Ruled Next) → and_ruled (take_all (view rows codes) dead (from_top (values_of codes list)) (stack work base height)) (λ t. none_left t.left more) ≡ none_left (stack work base left) more
    ends more =
        let t = take_all (view rows codes) dead (from_top (values_of codes list)) (stack work base height) in
        none_left_lem t (stack work base left) more (left_got work base t e a)

    pub end_fine : left ≡ 0 → EndsWith rows codes work list base height dead End.TheVariants.Fine
    end_fine n = record { is = λ more. rw (ends more, stack-none work base n) }

    pub end-left : (left ≡ 0 → ⊥) → EndsWith rows codes work list base height dead (End.TheVariants.Fault values_left)
    end-left n = record { is = λ more. rw (ends more, stack_some work base n) }

-- back in the frame around

-- the operands below a frame are those of the frames around it
around : {work : List ℕ} (d : ℕ) {base : ℕ} → Rests work (suc d) base → Rests work d (frame_word work (d + 2) base_word)
around d (above r e) = r

pub inner_long : {work : List ℕ} {count m : ℕ} {st : Check} → Inner work count st m → Long work
inner_long i = record { room = i.upright.room }

module _ {work : List ℕ} {count m : ℕ} {st : Check} (i : Inner work count st m) {base : ℕ} (b : Word32At work (frames_from + (frame_span * m + base_word)) base) {height : ℕ} (h : Word32At work (frames_from + (frame_span * m + height_word)) height) {w : ℕ} (d : Word32At work (frames_from + (frame_span * m + dead_word)) w) where
  outer_rests : Rests work (st.depth - 1) base
  outer_rests =
      let one : st.depth ≡ suc (st.depth - 1) = omega (arith, i.open') in
      let two : st.depth - 1 + 2 ≡ m = omega (arith, i.open', i.number) in
      let all : Rests work (suc (st.depth - 1)) st.base = rw one at i.upright.rests in
      rw (b.is, ← two) (around (st.depth - 1) all)

  left_as : (vs : List Val) → stepped_out work count st.depth vs ≡ within_operands (on_those work count (st.depth - 1) base height (on_top vs) (eqb w 1) (sets_at work (st.depth - 1 + 1) 0 count))
  unfolding stepped_out
  left_as vs =
      let one : st.depth - 1 + 1 ≡ st.depth = omega (arith, i.open') in
      rw (b.is, h.is, d.is, i.number, one)

  module _ (codes : List ℕ) (list : Values) {work' : List ℕ} {r : Maybe ℕ} where
    pub left_full : r ≡ None → GivenTo work work' base height (given_of codes list true 0) r → Stepped work work' count st.depth (stepped_out work count st.depth (values_of codes list)) (Step.TheVariants.Fault oversize)
    left_full e g =
        let many : TooMany work work' base height (values_of codes list) = rw (given_back codes list) at (g.full e) in
        stepped_fault count st.depth many.same (sym (left_as (values_of codes list) ∙ beyond-sizes outer_rests count height (eqb w 1) (sets_at work (st.depth - 1 + 1) 0 count) (values_of codes list) many))

    pub left-on : {high : ℕ} → r ≡ Some high → GivenTo work work' base height (given_of codes list true 0) r → Stepped work work' count st.depth (stepped_out work count st.depth (values_of codes list)) (Step.TheVariants.On (record { depth = st.depth - 1; base = base; height = high; dead = eqb w 1 }))
    left-on {high} e g =
        let gave : Gave work work' base height (values_of codes list) high = rw (given_back codes list) at (g.gave high e) in
        let few = i.upright.few in
        let state = pushed_state gave.pushed few outer_rests (eqb w 1) in
        let sizes = within-sizes outer_rests count height (eqb w 1) (sets_at work (st.depth - 1 + 1) 0 count) (values_of codes list) gave in
        let stands = ap (λ (s : State). allowed (goes_on s)) state ∙ sym (left_as (values_of codes list) ∙ sizes) in
        let upright = pushed_upright gave.pushed few outer_rests i.upright.room (omega (arith, i.upright.deep)) gave.few (eqb w 1) in
        stepped-on _ stands upright (λ at. pushed_stamped gave.pushed few (omega arith)) (pushed_types gave.pushed) gave.pushed.size

-- the instruction

close_frame : (c : Context) (s : State) (fs : List Frame) (is_loop : Bool) (rs : List Val) (os : List Operand) (dead : Bool) (is_set : List Bool) → judge_end c s (frame_of is_loop rs os dead is_set ∷ fs) ≡ judge_block_end c s fs rs os dead is_set
unfolding judge_end
close_frame c s fs true rs os dead is_set = refl
close_frame c s fs false rs os dead is_set = refl

pub inner_now : {work : List ℕ} {count : ℕ} {st : Check} → Upright work count st → (st.depth ≡ 0 → ⊥) → Inner work count st (st.depth + 1)
inner_now u n = record { upright = u; open' = omega (arith, n); number = refl }

module _ {rows codes work : List ℕ} (scene : Scene) {st : Check} where
  module _ (e : st.depth ≡ 0) {r : End} (a : EndsWith rows codes work (Values.TheVariants.Types scene.first scene.results) st.base st.height st.dead r) where
    own : judge_instr (context_at rows codes work scene) (state_at work scene.locals st) end ≡ end_fault r (allowed finished)
    unfolding judge_instr judge_end context_at state_at frames_at values_of
    own = rw e (sym (a.is (allowed finished)))

    pub own_fault : {n : ℕ} → r ≡ End.TheVariants.Fault n → Stepped work work scene.locals st.depth (judge_instr (context_at rows codes work scene) (state_at work scene.locals st) end) (Step.TheVariants.Fault n)
    own_fault f = stepped_fault scene.locals st.depth refl (rw (own, f))

    pub own_finished : r ≡ End.TheVariants.Fine → Stepped work work scene.locals st.depth (judge_instr (context_at rows codes work scene) (state_at work scene.locals st) end) Step.TheVariants.Finished
    own_finished f = stepped_stop scene.locals st.depth Step.TheVariants.Finished (λ s g. contradiction cc) refl (rw (own, f))

  module _ (n : st.depth ≡ 0 → ⊥) {list : Values} (l : ResultsOf work (st.depth + 1) list) {r : End} (a : EndsWith rows codes work list st.base st.height st.dead r) where
    innermost : frames_at work scene.locals st.depth ≡ frame_at work scene.locals (st.depth + 1) ∷ frames_at work scene.locals (st.depth - 1)
    innermost =
        let d = st.depth - 1 in
        let one : st.depth ≡ d + 1 = omega (arith, n) in
        let two : d + 2 ≡ st.depth + 1 = omega (arith, n) in
        ap (frames_at work scene.locals) one
        ∙ frames_more work scene.locals d
        ∙ ap (λ (k : ℕ). frame_at work scene.locals k ∷ frames_at work scene.locals d) two

    block : judge_instr (context_at rows codes work scene) (state_at work scene.locals st) end ≡ end_fault r (stepped_out work scene.locals st.depth (values_of codes list))
    unfolding judge_instr context_at state_at frame_at stepped_out
    block =
        let m = st.depth + 1 in
        let c = context_at rows codes work scene in
        let s = state_at work scene.locals st in
        let same : m - 1 ≡ st.depth = omega arith in
        ap (judge_end c s) innermost
        ∙ close_frame c s (frames_at work scene.locals (st.depth - 1)) (eqb (frame_word work m loop_word) 1) (results_at (frame_word work m result_word)) (stack work (frame_word work m base_word) (frame_word work m height_word)) (eqb (frame_word work m dead_word) 1) (sets_at work (m - 1) 0 scene.locals)
        ∙ rw (← l.is codes, same) (sym (a.is (stepped_out work scene.locals st.depth (values_of codes list))))

    pub block_fault : {n : ℕ} → r ≡ End.TheVariants.Fault n → Stepped work work scene.locals st.depth (judge_instr (context_at rows codes work scene) (state_at work scene.locals st) end) (Step.TheVariants.Fault n)
    block_fault f = stepped_fault scene.locals st.depth refl (rw (block, f))

    pub block_left : r ≡ End.TheVariants.Fine → {work' : List ℕ} {step : Step} → Stepped work work' scene.locals st.depth (stepped_out work scene.locals st.depth (values_of codes list)) step → Stepped work work' scene.locals st.depth (judge_instr (context_at rows codes work scene) (state_at work scene.locals st) end) step
    block_left f p = rw (block, f) p

pub ruleset end_exits = (end_missed, end_fine, end-left, inner_long, left_full, left-on, inner_now, own_fault, own_finished, block_fault, block_left)
