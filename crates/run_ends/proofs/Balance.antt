-- The code of an accepted body is what is read from its first place on, and its ends close what is open: the checker's
-- frames are the open blocks.
use Prim.Native.Nat.{ℕ, zero, suc}
use mathlib.Core.Path.{◌≡◌, refl, sym, ap, ◌∙◌, subst}
use mathlib.Core.List.{List, [], ◌∷◌}
use native.Mathlib.Nat.{le_refl}
use lib.ListN.{length}
use Rattle.scope.specs.Reading.{Read, got, refused, then}
use Rattle.scope.specs.Instructions.{Instr, block, loop, end, op, instr_at}
use Rattle.scope.specs.BodyRules.{Context, Ruled, allowed, fault, from_top}
use Rattle.scope.specs.Bodies.{Frame, of_block, of_loop, State, Next, goes_on, finished, Code, on_ruled, on_next, take_all, judge_end, judge_instr, judge_from}
use Rattle.scope.proofs.Telling.{Allows, this, after-and, whatever}
use Rattle.scope.proofs.Standing.{Accepts, last as judged-last, next as judged-next, judged_accepts, after-none-left, left_of, KeepsFrames, keeps_frames, Enters, enters, Leaves, op_keeps, block_enters, loop_enters, end_leaves, after-end, finished_goes_not-on}
use Rattle.scope.proofs.Impossible.{impossible}
use Rattle.run_ends.specs.Matching.{code_at, Balanced, last, closing, opening_block, opening_loop, inside}
use Rattle.run_ends.proofs.Codes.{code_here, code-none}

-- what is read

-- of one instruction and of what comes after it
module _ (left : ℕ) (c : Context) (s : List ℕ) (at : ℕ) {i : Instr} {next : ℕ} (read : instr_at s at ≡ got i next) {code : Code} where
  here : {rest : Code} → code ≡ (at, i) ∷ rest → rest ≡ code_at s next → code ≡ code_at s at
  here e f = e ∙ ap (λ (more : Code). (at, i) ∷ more) f ∙ sym (code_here s at read)

  by_rest : (o : Read Code) → ((rest : Code) → o ≡ got rest (length s) → rest ≡ code_at s next) → then o (λ rest stop. got ((at, i) ∷ rest) stop) ≡ got code (length s) → code ≡ code_at s at
  by_rest (got rest stop) later e =
      let whole : stop ≡ length s = cc in
      here (let is : code ≡ (at, i) ∷ rest = cc in is) (later rest (ap (got rest) whole))
  by_rest (refused n p) later e = impossible cc

  by_next : (n : Next) → ((st : State) (rest : Code) → judge_from left c st s next ≡ got rest (length s) → rest ≡ code_at s next) → on_next n (λ later. then (judge_from left c later s next) (λ rest stop. got ((at, i) ∷ rest) stop)) (got ((at, i) ∷ []) next) ≡ got code (length s) → code ≡ code_at s at
  by_next (goes_on st) later e = by_rest (judge_from left c st s next) (later st) e
  by_next finished later e =
      let whole : next ≡ length s = cc in
      here (let is : code ≡ (at, i) ∷ [] = cc in is) (rw whole (sym (code-none s (length s) (le_refl (length s)))))

  by_verdict : (v : Ruled Next) → ((st : State) (rest : Code) → judge_from left c st s next ≡ got rest (length s) → rest ≡ code_at s next) → on_ruled v (λ number. refused number at) (λ n. on_next n (λ later. then (judge_from left c later s next) (λ rest stop. got ((at, i) ∷ rest) stop)) (got ((at, i) ∷ []) next)) ≡ got code (length s) → code ≡ code_at s at
  by_verdict (allowed n) later e = by_next n later e
  by_verdict (fault n) later e = impossible cc

pub judged-code : (left : ℕ) (c : Context) (st : State) (s : List ℕ) (at : ℕ) (code : Code) → judge_from left c st s at ≡ got code (length s) → code ≡ code_at s at
unfolding judge_from
judged-code zero c st s at code e = impossible cc
judged-code (suc left) c st s at code e = go (instr_at s at) refl e (λ later next rest f. judged-code left c later s next rest f)
  where
    go : (o : Read Instr) → instr_at s at ≡ o → then o (λ i next. on_ruled (judge_instr c st i) (λ number. refused number at) (λ n. on_next n (λ later. then (judge_from left c later s next) (λ rest stop. got ((at, i) ∷ rest) stop)) (got ((at, i) ∷ []) next))) ≡ got code (length s) → ((later : State) (next : ℕ) (rest : Code) → judge_from left c later s next ≡ got rest (length s) → rest ≡ code_at s next) → code ≡ code_at s at
    go (got i next) read f later = by_verdict left c s at read (judge_instr c st i) (λ st' rest g. later st' next rest g) f
    go (refused n p) read f later = impossible cc

-- what is open

more_open : {fs gs : List Frame} {code : Code} → fs ≡ gs → Balanced (length fs) code → Balanced (length gs) code
more_open {code = code} e b = subst (λ (hs : List Frame). Balanced (length hs) code) e b

as_many : {fs : List Frame} {later : State} {code : Code} → KeepsFrames fs (goes_on later) → Balanced (length later.frames) code → Balanced (length fs) code
as_many (keeps_frames e) b = more_open e b

one_more_lem : {fs : List Frame} {later : State} {code : Code} → Enters fs (goes_on later) → Balanced (length later.frames) code → Balanced (suc (length fs)) code
one_more_lem (enters e) b = more_open e b

one_fewer : (f : Frame) (fs : List Frame) {code : Code} → Balanced (length (left_of f fs).frames) code → Balanced (length fs) code
one_fewer (of_block rs os dead is_set) fs b = b
one_fewer (of_loop rs os dead is_set) fs b = b

module _ (c : Context) (st : State) where
  -- the function's own end is the last
  own_end : Allows (λ n. n ≡ finished) (judge_end c st [])
  unfolding judge_end
  own_end =
      after-and (take_all c.types st.dead (from_top c.results) st.operands) whatever (λ t v.
      after-none-left t.left (λ none_left_lem. this refl))

  last_balanced : (at : ℕ) (i : Instr) → judge_instr c st i ≡ allowed finished → Balanced (length st.frames) ((at, i) ∷ [])
  unfolding judge_instr
  last_balanced at (op o) e = let k : KeepsFrames st.frames finished = (op_keeps c st o).tells finished e in elim k [ ]
  last_balanced at (block rs) e = let k : Enters st.frames finished = (block_enters c st rs).tells finished e in elim k [ ]
  last_balanced at (loop rs) e = let k : Enters st.frames finished = (loop_enters c st rs).tells finished e in elim k [ ]
  last_balanced at end e = go st.frames e
    where
      go : (fs : List Frame) → judge_end c st fs ≡ allowed finished → Balanced (length fs) ((at, end) ∷ [])
      go [] f = last
      go (g ∷ fs) f = let k : Leaves g fs finished = (end_leaves c st g fs).tells finished f in elim k [ ]

  next_balanced : (at : ℕ) (i : Instr) {later : State} {code : Code} → judge_instr c st i ≡ allowed (goes_on later) → Balanced (length later.frames) code → Balanced (length st.frames) ((at, i) ∷ code)
  unfolding judge_instr
  next_balanced at (op o) e more = inside (as_many ((op_keeps c st o).tells _ e) more)
  next_balanced at (block rs) e more = opening_block (one_more_lem ((block_enters c st rs).tells _ e) more)
  next_balanced at (loop rs) e more = opening_loop (one_more_lem ((loop_enters c st rs).tells _ e) more)
  next_balanced at end {later} {code} e more = go st.frames refl e
    where
      go : (fs : List Frame) → st.frames ≡ fs → judge_end c st fs ≡ allowed (goes_on later) → Balanced (length fs) ((at, end) ∷ code)
      go [] q f = absurd (finished_goes_not-on (own_end.tells _ f))
      go (g ∷ fs) q f = closing (one_fewer g fs (more_open (ap (λ (x : State). x.frames) (after-end c st q e)) more))

accepted_balanced : {c : Context} {st : State} {code : Code} → Accepts c st code → Balanced (length st.frames) code
accepted_balanced {c} (judged-last {st = st} {at = at} {i = i} e) = last_balanced c st at i e
accepted_balanced {c} (judged-next {st = st} {at = at} {i = i} e more) = next_balanced c st at i e (accepted_balanced more)

pub judged_balanced : (left : ℕ) (c : Context) (st : State) (s : List ℕ) (at : ℕ) {code : Code} {stop : ℕ} → judge_from left c st s at ≡ got code stop → Balanced (length st.frames) code
judged_balanced left c st s at {code} {stop} e = accepted_balanced ((judged_accepts left c st s at).tells code stop e)
