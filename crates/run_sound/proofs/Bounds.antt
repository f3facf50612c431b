-- The sizes of what is open. Wherever the checker stands, it has tested both: an instruction and an `end` are followed by
-- the test of all operands, and a block is entered after the test of the frames. Entering moves operands below the new
-- frame and loses none. A machine that is typed against such a state has as many operands and blocks.
use Prim.Native.Nat.{ℕ, ◌+◌, ◌≤◌}
use native.Mathlib.Omega.{arith}
use mathlib.Core.Path.{◌≡◌, refl}
use mathlib.Core.List.{List, [], ◌∷◌, map}
use lib.ListN.{length, length-append}
use lib.Dec.{ltb, leb}
use borrow.Author.Tests.{ltb-true, leb-true}
use Rattle.scope.specs.Sizes.{most_operands, most_frames, most_blocks}
use Rattle.scope.specs.Refusals.{oversize, out_of_reach}
use Rattle.scope.specs.Lists.{every, joined, sum}
use Rattle.scope.specs.Syntax.{Val}
use Rattle.scope.specs.TypeRules.{val_names}
use Rattle.scope.specs.Instructions.{Instr, block, loop, end, op}
use Rattle.scope.specs.BodyRules.{Context, Ruled, from_top, reached, plan_of}
use Rattle.scope.specs.Bodies.{Frame, of_block, of_loop, outer_of, State, scope_of, operands_in, Next, goes_on, finished, within_operands, after_plan, do_plan, take_all, entered, ending, judge_end, judge_instr, Code, Body}
use Rattle.scope.specs.Machine.{Store, Block, Machine}
use Rattle.scope.specs.Memory.{below_of}
use Rattle.scope.proofs.Telling.{Allows, this, after_test, after-and, whatever}
use Rattle.scope.proofs.Standing.{left_of, after-none-left}
use Rattle.scope.proofs.Pairs.{as_many}
use Rattle.scope.proofs.Soundness.{context_for, Stands, first, further, BlocksTyped, no_block, in_block, in_loop, TypedHere}
use Rattle.run_sound.specs.Sound.{Fitting}

-- the checker's states

pub record Sized (st : State) : Type 0 where
  pub operands : operands_in st ≤ most_operands
  pub frames : length st.frames ≤ most_blocks

data Remains : Next → Type 0 where
  remains : {st : State} → Sized st → Remains (goes_on st)
  over : Remains finished

sized_then : {st : State} → Remains (goes_on st) → Sized st
sized_then (remains h) = h

tested : (later : State) → length later.frames ≤ most_blocks → Allows Remains (within_operands later)
tested later h =
    after_test (leb (operands_in later) most_operands) oversize (λ fits.
    this (remains (record { operands = leb-true (operands_in later) most_operands fits; frames = h })))

module _ (c : Context) (st : State) where
  ended_with : (rs : List Val) {more : Ruled Next} → Allows Remains more → Allows Remains (ending c st rs more)
  ended_with rs more =
      after-and (take_all c.types st.dead (from_top rs) st.operands) whatever (λ t u. after-none-left t.left (λ none_left_lem. more))

  closed : (fs : List Frame) → length fs ≤ most_blocks → Allows Remains (judge_end c st fs)
  unfolding judge_end
  closed [] h = ended_with c.results (this over)
  closed (of_block rs os dead set ∷ fs) h = ended_with rs (tested (left_of (of_block rs os dead set) fs) (omega arith))
  closed (of_loop rs os dead set ∷ fs) h = ended_with rs (tested (left_of (of_loop rs os dead set) fs) (omega arith))

  module _ (h : Sized st) where
    entering : (names : List ℕ) (f : Frame) → outer_of f ≡ st.operands → Allows Remains (reached c names (entered st f))
    entering names f e =
        after_test (every (λ x. ltb x c.count) names) out_of_reach (λ named.
        after_test (ltb (length st.frames + 1) most_frames) oversize (λ fits.
        let few = ltb-true (length st.frames + 1) most_frames fits in
        this (remains (record { operands = rw e (omega (arith, h.operands)); frames = omega arith }))))

    judged : (i : Instr) → Allows Remains (judge_instr c st i)
    unfolding judge_instr do_plan
    judged (block rs) = entering (joined (map val_names rs)) (of_block rs st.operands st.dead st.is_set) refl
    judged (loop rs) = entering (joined (map val_names rs)) (of_loop rs st.operands st.dead st.is_set) refl
    judged end = closed st.frames h.frames
    judged (op o) =
        after-and (plan_of c (scope_of c st) o) whatever (λ p u.
        after-and (take_all c.types st.dead p.wants st.operands) whatever (λ t v. tested (after_plan c st p t) h.frames))

pub bounded : {b : Body} {st : State} {code : Code} → Stands b st code → Sized st
bounded first = record { operands = omega arith; frames = omega arith }
bounded {b} (further {st = st} {later = later} {i = i} stands e) = sized_then ((judged (context_for b) st (bounded stands) i.1).tells (goes_on later) e)

-- machines

module _ {b : Body} {heap : Store} {locals : List _} where
  as_deep : {fs : List Frame} {bs : List Block} → BlocksTyped b heap locals fs bs → length bs ≡ length fs
  as_deep no_block = refl
  as_deep (in_block below set more) = let rest = as_deep more in omega arith
  as_deep (in_loop below set again more) = let rest = as_deep more in omega arith

  as_high : {fs : List Frame} {bs : List Block} → BlocksTyped b heap locals fs bs → length (joined (map below_of bs)) ≡ sum (map (λ f. length (outer_of f)) fs)
  as_high no_block = refl
  as_high (in_block below set more) = simp length-append (let rest = as_high more in let here = as_many below in omega arith)
  as_high (in_loop below set again more) = simp length-append (let rest = as_high more in let here = as_many below in omega arith)

pub machine_bounded : {b : Body} {m : Machine} → TypedHere b m → Fitting m
machine_bounded {b} {m} here =
    let h = bounded here.stands in
    let top = as_many here.typed.operands in
    let below = as_high here.typed.blocks in
    let deep = as_deep here.typed.blocks in
    record { operands = simp length-append (omega (arith, h.operands)); blocks = omega (arith, h.frames) }
