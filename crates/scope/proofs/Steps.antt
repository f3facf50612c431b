-- One step. Where the machine is typed against the checker's own state at its place, the next instruction passed the
-- checker's tests in that state; so the machine can do it, and is typed again where it comes to stand. Then so many steps.
use Prim.Native.Nat.{ℕ, ◌+◌}
use mathlib.Core.Path.{◌≡◌, refl, sym}
use mathlib.Core.Bool.{false}
use mathlib.Core.List.{List, [], ◌∷◌, ◌++◌, map, reverse, append-nil, Forall₂}
use lib.ListN.{length}
use lib.Dec.{ltb, leb}
use Rattle.scope.specs.Sizes.{most_operands, most_frames}
use Rattle.scope.specs.Refusals.{oversize, out_of_reach}
use Rattle.scope.specs.Lists.{every, joined}
use Rattle.scope.specs.Syntax.{Val, Types, types_of}
use Rattle.scope.specs.TypeRules.{val_names}
use Rattle.scope.specs.Instructions.{Op, Instr, block, loop, end, op}
use Rattle.scope.specs.BodyRules.{Ruled, plan_of, from_top}
use Rattle.scope.specs.Bodies.{Operand, take_all, Frame, of_block, of_loop, State, scope_of, Next, goes_on, finished, operands_in, after_plan, do_plan, ending, judge_end, judge_instr, Code, Body, start_state}
use Rattle.scope.specs.Machine.{Value, Store, Block, Machine, Outcome, goes, with_control, do_op, do_instr, step_on, step}
use Rattle.scope.specs.Machine
use Rattle.scope.specs.Running.{program_of}
use Rattle.scope.proofs.Accepted.{Kept, kept_passes}
use Rattle.scope.proofs.Pairs.{append-both}
use Rattle.scope.proofs.HeapLaws.{grows_itself, grows_further}
use Rattle.scope.proofs.Telling.{Allows, this, after_test, after-and}
use Rattle.scope.proofs.Taking.{Takes, taken-typed, Tops, tops_of, as_operands}
use Rattle.scope.proofs.Standing.{Accepts, last, next, after-none-left, accepted_there, left_of, goes_on_is_one, finished_goes_not-on}
use Rattle.scope.proofs.Branching.{finishes}
use Rattle.scope.proofs.Operations.{acting}
use Rattle.scope.proofs.Soundness.{Has, HasOperand, Grows, Stands, further, context_for, loop_state, BlocksTyped, no_block, in_block, in_loop, Typed, TypedHere, Proceeds, proceeds, Reaches, at_first, one_more}

-- nothing lies below the values of a list
all_tops : {ts : Types} {heap : Store} {types : List Val} {vs below : List Value} → Tops ts heap types [] vs below → Forall₂ (Has ts heap) vs types
all_tops {ts} {heap} {types} {vs} t = go t.rest t.parts
  where
    go : {below : List Value} → Forall₂ (HasOperand ts heap) below [] → vs ≡ t.tops ++ below → Forall₂ (Has ts heap) vs types
    go Forall₂.nil e = rw (e, append-nil) t.typed

-- what the next instruction comes to, if the checker stands in the next state after it
pub record Leads (b : Body) (code : Code) (heap : Store) (o : Outcome) (n : Next) : Type 0 where
  pub leads : ((later : State) → n ≡ goes_on later → Stands b later code) → Proceeds b heap o

module _ {b : Body} (kept : Kept (types_of b.types)) (accepts : Accepts (context_for b) (start_state b.function b.locals) b.code)
    {st : State} (m : Machine) (typed : Typed b st m) (alive : st.dead ≡ false) where
  taking :
      (ws : _)
      → Allows (λ t. (below : List Value) × Takes (types_of b.types) m.heap ws t.taken t.left m.operands below) (take_all (types_of b.types) st.dead ws st.operands)
  taking ws = rw alive (taken-typed (kept_passes b.types kept) ws typed.operands)

  op_leads : (o : Op) → Allows (Leads b m.code m.heap (do_op (program_of b) m m.operands o)) (judge_instr (context_for b) st (op o))
  unfolding judge_instr do_plan
  op_leads o =
      after-and (plan_of (context_for b) (scope_of (context_for b) st) o) (acting kept accepts m typed alive o) (λ plan can.
      after-and (take_all (types_of b.types) st.dead plan.wants st.operands) (taking plan.wants) (λ t taken.
      after_test (leb (operands_in (after_plan (context_for b) st plan t)) most_operands) oversize (λ fits.
      this (record { leads = λ give. can.acts taken.1 (give _ refl) }))))

  -- at `end`, the operands are the results
  all_taken :
      (rs : List Val) {taken left : List Operand} {below : List Value}
      → Takes (types_of b.types) m.heap (from_top rs) taken left m.operands below → left ≡ []
      → Forall₂ (Has (types_of b.types) m.heap) m.operands (reverse rs)
  all_taken rs {taken} {left} {below} takes e =
      let tops : Tops (types_of b.types) m.heap (reverse rs) [] m.operands below = rw e at (tops_of (reverse rs) takes) in
      all_tops tops

  ended :
      {A : Type 0} {P : A → Type 0} {more : Ruled A} (rs : List Val)
      → (Forall₂ (Has (types_of b.types) m.heap) m.operands (reverse rs) → Allows P more) → Allows P (ending (context_for b) st rs more)
  ended rs k =
      after-and (take_all (types_of b.types) st.dead (from_top rs) st.operands) (taking (from_top rs)) (λ t taken.
      after-none-left t.left (λ none_left_lem. k (all_taken rs taken.1 none_left_lem)))

  results_tops :
      (rs : List Val) → Forall₂ (Has (types_of b.types) m.heap) m.operands (reverse rs)
      → Tops (types_of b.types) m.heap (reverse rs) [] m.operands []
  results_tops rs has = record { tops = m.operands; parts = sym (append-nil m.operands); typed = has; rest = Forall₂.nil }

  end_leads :
      {frames : List Frame} {bs : List Block} → BlocksTyped b m.heap m.locals frames bs
      → Allows (Leads b m.code m.heap (Machine.do_end (program_of b) m bs)) (judge_end (context_for b) st frames)
  unfolding judge_end
  end_leads no_block = ended b.function.results (λ has. this (record { leads = λ give. finishes m typed.store (results_tops b.function.results has) }))
  end_leads (in_block {rs = rs} {os = os} {set = set} {fs = fs} under covers rest) =
      ended rs (λ has.
      after_test (leb (operands_in (left_of (of_block rs os false set) fs)) most_operands) oversize (λ fits.
      this (record {
        leads = λ give.
            proceeds
            (record {
              state = left_of (of_block rs os false set) fs;
              stands = give _ refl;
              alive = refl;
              typed = record { store = typed.store; operands = append-both (as_operands has) under; set = covers; blocks = rest };
            })
            (grows_itself m.heap);
      })))
  end_leads (in_loop {rs = rs} {os = os} {set = set} {fs = fs} under covers stands rest) =
      ended rs (λ has.
      after_test (leb (operands_in (left_of (of_loop rs os false set) fs)) most_operands) oversize (λ fits.
      this (record {
        leads = λ give.
            proceeds
            (record {
              state = left_of (of_loop rs os false set) fs;
              stands = give _ refl;
              alive = refl;
              typed = record { store = typed.store; operands = append-both (as_operands has) under; set = covers; blocks = rest };
            })
            (grows_itself m.heap);
      })))

  instr_leads : (at : ℕ) (i : Instr) → Allows (Leads b m.code m.heap (do_instr (program_of b) m at i)) (judge_instr (context_for b) st i)
  unfolding judge_instr do_instr
  instr_leads at (op o) = op_leads o
  instr_leads at end = end_leads typed.blocks
  instr_leads at (block rs) =
      after_test (every (λ x. ltb x (length b.types)) (joined (map val_names rs))) out_of_reach (λ named.
      after_test (ltb (length st.frames + 1) most_frames) oversize (λ fits.
      this (record {
        leads = λ give.
            proceeds
            (record {
              state = record { frames = of_block rs st.operands false st.is_set ∷ st.frames; operands = []; dead = false; is_set = st.is_set };
              stands = rw alive at (give _ refl);
              alive = refl;
              typed = record { store = typed.store; operands = Forall₂.nil; set = typed.set; blocks = in_block typed.operands typed.set typed.blocks };
            })
            (grows_itself m.heap);
      })))
  instr_leads at (loop rs) =
      after_test (every (λ x. ltb x (length b.types)) (joined (map val_names rs))) out_of_reach (λ named.
      after_test (ltb (length st.frames + 1) most_frames) oversize (λ fits.
      this (record {
        leads = λ give.
            let stands : Stands b (loop_state rs st.operands st.is_set st.frames) m.code = rw alive at (give _ refl) in
            proceeds
            (record {
              state = loop_state rs st.operands st.is_set st.frames;
              stands = stands;
              alive = refl;
              typed = record { store = typed.store; operands = Forall₂.nil; set = typed.set; blocks = in_loop typed.operands typed.set stands typed.blocks };
            })
            (grows_itself m.heap);
      })))

-- the types do not look at the code
typed_past : {b : Body} {st : State} (m : Machine) (code : Code) → Typed b st m → Typed b st (with_control m m.operands m.blocks code)
typed_past m code typed = record { store = typed.store; operands = typed.operands; set = typed.set; blocks = typed.blocks }

module _ {b : Body} (kept : Kept (types_of b.types)) (accepts : Accepts (context_for b) (start_state b.function b.locals) b.code) where
  steps_on :
      {st : State} (m : Machine) {code : Code} → Typed b st m → st.dead ≡ false → Stands b st code → Accepts (context_for b) st code
      → Proceeds b m.heap (step_on (program_of b) m code)
  steps_on {st} m typed alive stands (last {at = at} {i = i} e) =
      ((instr_leads kept accepts (with_control m m.operands m.blocks []) (typed_past m [] typed) alive at i).tells finished e).leads (λ later q. absurd (finished_goes_not-on (sym q)))
  steps_on {st} m typed alive stands (next {later = later} {at = at} {i = i} {code = code} e more) =
      ((instr_leads kept accepts (with_control m m.operands m.blocks code) (typed_past m code typed) alive at i).tells (goes_on later) e).leads (λ now q. rw (goes_on_is_one q) at (further stands e))

  -- a step from a typed machine
  pub step_proceeds : {m : Machine} → TypedHere b m → Proceeds b m.heap (step (program_of b) m)
  unfolding step
  step_proceeds {m} here = steps_on m here.typed here.alive here.stands (accepted_there accepts here.stands)

  pub gone_on_lem : {heap : Store} {m : Machine} → Proceeds b heap (goes m) → TypedHere b m × Grows heap m.heap
  gone_on_lem (proceeds here grows) = (here, grows)

  -- so many steps
  pub reached-typed : {start : Machine} {n : ℕ} {m : Machine} → TypedHere b start → Reaches (program_of b) start n m → TypedHere b m × Grows start.heap m.heap
  reached-typed {start} here at_first = (here, grows_itself start.heap)
  reached-typed here (one_more {k = k} reaches e) =
      let (before, grew) = reached-typed here reaches in
      let (now, grows) = gone_on_lem (rw e at (step_proceeds before)) in
      (now, grows_further grew grows)
