-- Where the checker stands. An accepted body's code is accepted from the checker's first state, so from each of its states
-- what is left is accepted. A branch out of n + 1 blocks passes as many ends: between them blocks open and close in pairs,
-- so the checker's frames say in which state it stood after the last of them.
use Prim.Native.Nat.{ℕ, zero, suc, ◌+◌}
use mathlib.Core.Path.{◌≡◌, refl, sym, ap, ◌∙◌, subst}
use mathlib.Core.List.{List, [], ◌∷◌, ◌++◌, map}
use lib.ListN.{length}
use lib.Dec.{ltb, leb}
use Rattle.scope.specs.Sizes.{most_operands, most_frames}
use Rattle.scope.specs.Refusals.{oversize, out_of_reach}
use Rattle.scope.specs.Lists.{every, joined}
use Rattle.scope.specs.Syntax.{Val}
use Rattle.scope.specs.TypeRules.{val_names}
use Rattle.scope.specs.Instructions.{Op, Instr, block, loop, end, op, instr_at}
use Rattle.scope.specs.BodyRules.{Context, Ruled, allowed, plan_of, from_top}
use Rattle.scope.specs.Bodies.{Operand, Frame, of_block, of_loop, State, scope_of, Next, goes_on, finished, operands_in, after_plan, do_plan, take_all, on_top, none_left, judge_end, judge_instr, Code, judge_from, Body, start_state}
use Rattle.scope.specs.Machine.{past_ends}
use Rattle.scope.proofs.Telling.{Allows, this, nothing, after_test, after-and, allowed_is_one, whatever, Gives, gives_this, gives_nothing, gives_then, gives_ruled, gives_next}
use Rattle.scope.proofs.Soundness.{Stands, first, further, context_for}
use Rattle.scope.proofs.Impossible.{contradiction}

pub goes_on_is_one : {st later : State} → goes_on st ≡ goes_on later → st ≡ later
goes_on_is_one e = cc

pub finished_goes_not-on : {st : State} → goes_on st ≡ finished → ⊥
finished_goes_not-on e = contradiction cc

-- accepted code

pub data Accepts (c : Context) : State → Code → Type 0 where
  last : {st : State} {at : ℕ} {i : Instr} → judge_instr c st i ≡ allowed finished → Accepts c st ((at, i) ∷ [])
  next : {st later : State} {at : ℕ} {i : Instr} {code : Code} → judge_instr c st i ≡ allowed (goes_on later) → Accepts c later code → Accepts c st ((at, i) ∷ code)

pub judged_accepts : (left : ℕ) (c : Context) (st : State) (s : List ℕ) (at : ℕ) → Gives (Accepts c st) (judge_from left c st s at)
unfolding judge_from
judged_accepts zero c st s at = gives_nothing
judged_accepts (suc left) c st s at =
    gives_then (instr_at s at) (λ i after-i read.
    gives_ruled (judge_instr c st i) at (λ n is.
    gives_next n
    (λ later q.
    let more = judged_accepts left c later s after-i in
    gives_then (judge_from left c later s after-i) (λ code stop judged. gives_this (next (is ∙ ap allowed q) (more.tells code stop judged))))
    (λ q. gives_this (last (is ∙ ap allowed q)))))

pub rest_accepted :
    {c : Context} {st later : State} {i : ℕ × Instr} {code : Code} → Accepts c st (i ∷ code) → judge_instr c st i.1 ≡ allowed (goes_on later)
    → Accepts c later code
rest_accepted (last f) e = absurd (finished_goes_not-on (allowed_is_one (sym e ∙ f)))
rest_accepted {c} (next {code = code} f more) e = subst (λ (st : State). Accepts c st code) (goes_on_is_one (allowed_is_one (sym f ∙ e))) more

pub accepted_there :
    {b : Body} → Accepts (context_for b) (start_state b.function b.locals) b.code → {st : State} {code : Code} → Stands b st code
    → Accepts (context_for b) st code
accepted_there accepts first = accepts
accepted_there accepts (further stands e) = rest_accepted (accepted_there accepts stands) e

-- frames

-- the checker's state after the `end` of a block
abbrev pub left_of : Frame → List Frame → State
left_of (of_block rs os dead set) fs = record { frames = fs; operands = on_top rs ++ os; dead = dead; is_set = set }
left_of (of_loop rs os dead set) fs = record { frames = fs; operands = on_top rs ++ os; dead = dead; is_set = set }

-- an instruction inside a block leaves the frames as they are
pub data KeepsFrames (fs : List Frame) : Next → Type 0 where
  keeps_frames : {later : State} → later.frames ≡ fs → KeepsFrames fs (goes_on later)

-- an opening one puts one more in front
pub data Enters (fs : List Frame) : Next → Type 0 where
  enters : {later : State} {f : Frame} → later.frames ≡ f ∷ fs → Enters fs (goes_on later)

-- `end` takes the innermost away
pub data Leaves (f : Frame) (fs : List Frame) : Next → Type 0 where
  leaves : Leaves f fs (goes_on (left_of f fs))

pub after-none-left : {A : Type 0} {P : A → Type 0} {more : Ruled A} (os : List Operand) → (os ≡ [] → Allows P more) → Allows P (none_left os more)
after-none-left [] k = k refl
after-none-left (o ∷ os) k = nothing

module _ (c : Context) (st : State) where
  pub op_keeps : (o : Op) → Allows (KeepsFrames st.frames) (judge_instr c st (op o))
  unfolding judge_instr do_plan
  op_keeps o =
      after-and (plan_of c (scope_of c st) o) whatever (λ p u.
      after-and (take_all c.types st.dead p.wants st.operands) whatever (λ t v.
      after_test (leb (operands_in (after_plan c st p t)) most_operands) oversize (λ fits. this (keeps_frames refl))))

  pub block_enters : (rs : List Val) → Allows (Enters st.frames) (judge_instr c st (block rs))
  unfolding judge_instr
  block_enters rs =
      after_test (every (λ x. ltb x c.count) (joined (map val_names rs))) out_of_reach (λ named.
      after_test (ltb (length st.frames + 1) most_frames) oversize (λ fits. this (enters refl)))

  pub loop_enters : (rs : List Val) → Allows (Enters st.frames) (judge_instr c st (loop rs))
  unfolding judge_instr
  loop_enters rs =
      after_test (every (λ x. ltb x c.count) (joined (map val_names rs))) out_of_reach (λ named.
      after_test (ltb (length st.frames + 1) most_frames) oversize (λ fits. this (enters refl)))

  pub end_leaves : (f : Frame) (fs : List Frame) → Allows (Leaves f fs) (judge_end c st (f ∷ fs))
  unfolding judge_end
  end_leaves (of_block rs os dead set) fs =
      after-and (take_all c.types st.dead (from_top rs) st.operands) whatever (λ t v.
      after-none-left t.left (λ none_left_lem. after_test (leb (operands_in (left_of (of_block rs os dead set) fs)) most_operands) oversize (λ fits. this leaves)))
  end_leaves (of_loop rs os dead set) fs =
      after-and (take_all c.types st.dead (from_top rs) st.operands) whatever (λ t v.
      after-none-left t.left (λ none_left_lem. after_test (leb (operands_in (left_of (of_loop rs os dead set) fs)) most_operands) oversize (λ fits. this leaves)))

-- a frame, with how many stand inside it and which stand around it
pub data Opens : ℕ → List Frame → Frame → List Frame → Type 0 where
  innermost : {f : Frame} {fs : List Frame} → Opens 0 (f ∷ fs) f fs
  deeper : {n : ℕ} {e f : Frame} {es fs : List Frame} → Opens n es f fs → Opens (suc n) (e ∷ es) f fs

past_none : (code : Code) → past_ends 0 code ≡ code
unfolding past_ends
past_none [] = refl
past_none (i ∷ code) = refl

kept_frames : {fs : List Frame} {later : State} → KeepsFrames fs (goes_on later) → later.frames ≡ fs
kept_frames (keeps_frames e) = e

entered_frames : {fs : List Frame} {later : State} → Enters fs (goes_on later) → (f : Frame) × (later.frames ≡ f ∷ fs)
entered_frames (enters {f = f} e) = (f, e)

left-state : {f : Frame} {fs : List Frame} {later : State} → Leaves f fs (goes_on later) → later ≡ left_of f fs
left-state leaves = refl

left_frames : (f : Frame) (fs : List Frame) → (left_of f fs).frames ≡ fs
left_frames (of_block rs os dead set) fs = refl
left_frames (of_loop rs os dead set) fs = refl

module _ (c : Context) (st : State) where
  pub after-end : {later : State} {f : Frame} {fs : List Frame} → st.frames ≡ f ∷ fs → judge_instr c st end ≡ allowed (goes_on later) → later ≡ left_of f fs
  unfolding judge_instr
  after-end {later} {f} {fs} q e = left-state ((end_leaves c st f fs).tells (goes_on later) (subst (λ (gs : List Frame). judge_end c st gs ≡ allowed (goes_on later)) q e))

  -- the last `end` is not inside a block
  not_finished : (i : Instr) {f : Frame} {fs : List Frame} → st.frames ≡ f ∷ fs → judge_instr c st i ≡ allowed finished → ⊥
  unfolding judge_instr
  not_finished (op o) q e = let k : KeepsFrames st.frames finished = (op_keeps c st o).tells finished e in elim k [ ]
  not_finished (block rs) q e = let k : Enters st.frames finished = (block_enters c st rs).tells finished e in elim k [ ]
  not_finished (loop rs) q e = let k : Enters st.frames finished = (loop_enters c st rs).tells finished e in elim k [ ]
  not_finished end {f} {fs} q e = let k : Leaves f fs finished = (end_leaves c st f fs).tells finished (subst (λ (gs : List Frame). judge_end c st gs ≡ allowed finished) q e) in elim k [ ]

some_frame : {n : ℕ} {frames fs : List Frame} {f : Frame} → Opens n frames f fs → (g : Frame) × (gs : List Frame) × (frames ≡ g ∷ gs)
some_frame (innermost {f = f} {fs = fs}) = (f, fs, refl)
some_frame (deeper {e = e} {es = es} opens) = (e, es, refl)

-- a branch lands where the checker stood
pub lands :
    {b : Body} {n : ℕ} {frames fs : List Frame} {f : Frame} {st : State} {code : Code} → Opens n frames f fs → st.frames ≡ frames → Stands b st code
    → Accepts (context_for b) st code → Stands b (left_of f fs) (past_ends (suc n) code)
unfolding past_ends
lands {b} {n} {st = st} opens q stands (last {i = i} e) = let (g, gs, is) = some_frame opens in absurd (not_finished (context_for b) st i (q ∙ is) e)
lands {b} {n} {st = st} opens q stands (next {i = op o} e more) =
    lands {n = n} opens (kept_frames ((op_keeps (context_for b) st o).tells _ e) ∙ q) (further stands e) more
lands {b} {n} {st = st} opens q stands (next {i = block rs} e more) =
    let (g, is) = entered_frames ((block_enters (context_for b) st rs).tells _ e) in
    lands {n = suc n} (deeper (rw (← q) at opens)) is (further stands e) more
lands {b} {n} {st = st} opens q stands (next {i = loop rs} e more) =
    let (g, is) = entered_frames ((loop_enters (context_for b) st rs).tells _ e) in
    lands {n = suc n} (deeper (rw (← q) at opens)) is (further stands e) more
lands {b} {st = st} (innermost {f = f} {fs = fs}) q stands (next {i = end} {code = code} e more) =
    subst (Stands b (left_of f fs)) (sym (past_none code)) (rw (after-end (context_for b) st q e) at (further stands e))
lands {b} {st = st} (deeper {n = n} {e = g} {es = fs} opens) q stands (next {i = end} e more) =
    lands {n = n} opens (ap (λ (s : State). s.frames) (after-end (context_for b) st q e) ∙ left_frames g fs) (further stands e) more
