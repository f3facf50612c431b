-- The code of an accepted body without `loop` is straight. The checker's frames are the blocks that are open: each
-- instruction leaves as many, one more or one less, and the `end` at which there are none is the last.
use Prim.Native.Nat.{ℕ, zero, suc, ◌+◌}
use mathlib.Core.Path.{◌≡◌, refl, sym}
use mathlib.Core.Bool.{Bool, false, false≢true}
use mathlib.Core.List.{List, [], ◌∷◌, ◌++◌, map}
use lib.ListN.{length}
use lib.Dec.{ltb, leb, eqb}
use Rattle.scope.specs.Sizes.{most_bytes, most_operands, most_frames}
use Rattle.scope.specs.Reading.{got, then}
use Rattle.scope.specs.Numbers.{u32}
use Rattle.scope.specs.Lists.{every, joined}
use Rattle.scope.specs.Syntax.{Val, types_of}
use Rattle.scope.specs.TypeRules.{val_names}
use Rattle.scope.specs.Judging.{accepted, judge_sections}
use Rattle.scope.specs.Instructions.{Op, Instr, block, loop, end, op, instr_at}
use Rattle.scope.specs.BodyRules.{Context, Plan, Ruled, from_top, reached, plan_of}
use Rattle.scope.specs.Bodies.{Operand, on_top, scope_of, Frame, of_block, of_loop, State, operands_in, Next, goes_on, finished, within_operands, after_plan, take_all, do_plan, entered, ending, none_left, judge_block_end, judge_end, judge_instr, Code, on_next, judge_from, locals_at, function_of, Body, start_state, context_of, body_at, judge_body}
use Rattle.facts_runs.specs.Counting.{has_loop}
use Rattle.facts_runs.proofs.Straight.{Ahead, last, closing, opening, plain}
use Rattle.facts_runs.proofs.Verdicts.{Allows, allowing, faulting, Reads, reading, refusing, Accepts, rejecting, allows_test, allows_and, reads_then, reads_after, reads_ruled, reads_cond, accepts_read, accepts_then, accepts_given, accepts_cond, accepted_is}

-- from so many frames, by this instruction
data Frames : ℕ → Instr → Next → Type 0 where
  as_many : {o : Op} {st : State} → Frames (length st.frames) (op o) (goes_on st)
  one_in : {d : ℕ} {rs : List Val} {st : State} → length st.frames ≡ suc d → Frames d (block rs) (goes_on st)
  a_loop : {d : ℕ} {rs : List Val} {next : Next} → Frames d (loop rs) next
  one_out : {st : State} → Frames (suc (length st.frames)) end (goes_on st)
  all_out : Frames zero end finished

module _ (c : Context) where
  within_frames : {d : ℕ} {i : Instr} (st : State) → Frames d i (goes_on st) → Allows (Frames d i) (within_operands st)
  within_frames st f = allows_test (leb (operands_in st) most_operands) _ (allowing f)

  plan_frames : (st : State) {o : Op} (p : Plan) → Allows (Frames (length st.frames) (op o)) (do_plan c st p)
  unfolding do_plan
  plan_frames st p = allows_and (take_all c.types st.dead p.wants st.operands) (λ t. within_frames (after_plan c st p t) as_many)

  enter_frames : {i : Instr} {d : ℕ} (names : List ℕ) (st : State) (f : Frame)
      → Frames d i (goes_on (record { frames = f ∷ st.frames; operands = []; dead = false; is_set = st.is_set }))
      → Allows (Frames d i) (reached c names (entered st f))
  enter_frames names st f inside =
      allows_test (every (λ x. ltb x c.count) names) _
      (allows_test (ltb (length st.frames + 1) most_frames) _ (allowing inside))

  end_frames : (st : State) {P : Next → Type 0} (rs : List Val) {more : Ruled Next} → Allows P more → Allows P (ending c st rs more)
  end_frames st {P} rs {more} a = allows_and (take_all c.types st.dead (from_top rs) st.operands) (λ t. go t.left)
    where
      go : (os : List Operand) → Allows P (none_left os more)
      go [] = a
      go (o ∷ os) = faulting

  leave_frames : (st : State) (fs : List Frame) (rs : List Val) (os : List Operand) (dead : Bool) (is_set : List Bool) → Allows (Frames (suc (length fs)) end) (judge_block_end c st fs rs os dead is_set)
  leave_frames st fs rs os dead is_set = let later : State = record { frames = fs; operands = on_top rs ++ os; dead = dead; is_set = is_set } in end_frames st rs (within_frames later one_out)

  close_frames : (st : State) (fs : List Frame) → Allows (Frames (length fs) end) (judge_end c st fs)
  unfolding judge_end
  close_frames st [] = end_frames st c.results (allowing all_out)
  close_frames st (of_block rs os dead is_set ∷ fs) = leave_frames st fs rs os dead is_set
  close_frames st (of_loop rs os dead is_set ∷ fs) = leave_frames st fs rs os dead is_set

  instr_frames : (st : State) (i : Instr) → Allows (Frames (length st.frames) i) (judge_instr c st i)
  unfolding judge_instr
  instr_frames st (block rs) = enter_frames (joined (map val_names rs)) st (of_block rs st.operands st.dead st.is_set) (one_in refl)
  instr_frames st (loop rs) = enter_frames (joined (map val_names rs)) st (of_loop rs st.operands st.dead st.is_set) a_loop
  instr_frames st end = close_frames st st.frames
  instr_frames st (op o) = allows_and (plan_of c (scope_of c st) o) (λ p. plan_frames st p)

  -- one instruction before straight code
  before : {d at : ℕ} {i : Instr} {later : State} {code : Code} → Frames d i (goes_on later)
      → (has_loop code ≡ false → Ahead (length later.frames) code)
      → has_loop ((at, i) ∷ code) ≡ false → Ahead d ((at, i) ∷ code)
  before as_many ahead free = plain (ahead free)
  before (one_in e) ahead free = opening (rw e at (ahead free))
  before a_loop ahead free = absurd (false≢true (sym free))
  before one_out ahead free = closing (ahead free)

  alone : {d at : ℕ} {i : Instr} → Frames d i finished → has_loop ((at, i) ∷ []) ≡ false → Ahead d ((at, i) ∷ [])
  alone all_out free = last
  alone a_loop free = absurd (false≢true (sym free))

  judged_ahead : (left : ℕ) (st : State) (s : List ℕ) (at : ℕ) → Reads (λ code. has_loop code ≡ false → Ahead (length st.frames) code) (judge_from left c st s at)
  unfolding judge_from
  judged_ahead zero st s at = refusing
  judged_ahead (suc left) st s at =
      reads_after (instr_at s at) (λ i next. reads_ruled at (instr_frames st i) (λ n f. go i next n f (λ later. judged_ahead left later s next)))
    where
      go : (i : Instr) (next : ℕ) (n : Next) → Frames (length st.frames) i n
          → ((later : State) → Reads (λ code. has_loop code ≡ false → Ahead (length later.frames) code) (judge_from left c later s next))
          → Reads (λ code. has_loop code ≡ false → Ahead (length st.frames) code)
          (on_next n (λ later. then (judge_from left c later s next) (λ code stop. got ((at, i) ∷ code) stop)) (got ((at, i) ∷ []) next))
      go i next (goes_on later) f from = reads_then (from later) (λ code stop ahead. reading (before f ahead))
      go i next finished f from = reading (alone f)

-- The body

accepted_ahead : (library section s : List ℕ) (x : ℕ) → Accepts (λ b. has_loop b.code ≡ false → Ahead zero b.code) (judge_body library section s x)
unfolding judge_body body_at
accepted_ahead library section s x =
    accepts_then (judge_sections library section) (λ ds.
    accepts_cond (ltb most_bytes (length s)) rejecting
    (accepts_given (function_of (types_of ds x).form) rejecting (λ f.
    accepts_read
    (reads_after (u32 s 0) (λ n entries.
    reads_after (locals_at (length ds) n (length f.parameters) s entries) (λ ls first.
    reads_then (judged_ahead (context_of ds f ls) (length s) (start_state f ls) s first) (λ code stop ahead.
    reads_cond (eqb stop (length s)) (reading ahead) refusing)))))))

pub loopless_ahead : (library section s : List ℕ) (x : ℕ) {b : Body} → judge_body library section s x ≡ accepted b → has_loop b.code ≡ false → Ahead zero b.code
loopless_ahead library section s x e = accepted_is (rw e at (accepted_ahead library section s x))
