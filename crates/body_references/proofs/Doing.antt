-- Each way out of the two instructions: an operand is taken, and one is put on top of what is left.
use Prim.Native.Nat.{ℕ, ◌+◌, ◌*◌, ◌%◌, ◌^◌, ◌≤◌, ◌<◌}
use mathlib.Core.Path.{◌≡◌, sym, ap, ◌∙◌}
use mathlib.Core.Bool.{cond}
use mathlib.Core.List.{List, [], ◌∷◌}
use native.Mathlib.Omega.{arith}
use native.Mathlib.Nat.{mod-eq_of_lt}
use lib.ListN.{length}
use mir.Syntax.{w32}
use mir.Val.{Fits}
use Rattle.scope.specs.Sizes.{most_operands}
use Rattle.scope.specs.Refusals.{oversize}
use Rattle.scope.specs.Syntax.{nullable, non_null, defined, exact}
use Rattle.scope.specs.BodyRules.{value, allowed}
use Rattle.scope.specs.Bodies.{known, fits, non_null_of, take_all, put, do_plan, State, goes_on, within_operands}
use Rattle.scope.specs.Memory.{val_code}
use Rattle.type_table.specs.View.{view}
use Rattle.body_state.specs.declared.Check.{Check}
use Rattle.body_state.specs.declared.Scene.{Scene}
use Rattle.body_state.specs.declared.Step.{Step}
use Rattle.body_state.specs.declared.Step
use Rattle.body_state.specs.Layout.{word_bound}
use Rattle.body_state.specs.State.{operand_at_code, wanted_at_code, stack, sets_at, context_at, state_at, Upright, Stepped}
use Rattle.body_state.proofs.Alike.{stack-length}
use Rattle.body_state.proofs.Stepping.{stepped-on, stepped_fault, stepped_as, within_on, within_full}
use Rattle.body_take.specs.declared.Take.{Take}
use Rattle.body_take.specs.declared.Take
use Rattle.body_take.specs.Took.{took_of}
use Rattle.body_put.specs.Putting.{Room, Pushed}
use Rattle.body_put.proofs.PushedState.{pushed_state, pushed_upright, pushed_stamped, pushed_types}
use Rattle.body_references.specs.OneMore.{with_top, non_null_done, descriptor_done}
use Rattle.body_references.proofs.Words.{wanted_of}

-- one operand on top

module _ {work : List ℕ} {count : ℕ} {st : Check} (u : Upright work count st) (left o : ℕ) where
  high : length (operand_at_code o ∷ stack work st.base left) + st.base ≡ st.base + (left + 1)
  high = omega (arith, stack-length work st.base left)

  pub put_full : most_operands < st.base + (left + 1) → {work' : List ℕ} → work' ≡ work → Stepped work work' count st.depth (within_operands (with_top (state_at work count st) (operand_at_code o) (stack work st.base left))) (Step.TheVariants.Fault oversize)
  unfolding with_top state_at
  put_full h e =
      let more = within_full count st.depth u.rests (operand_at_code o ∷ stack work st.base left) st.dead (sets_at work (st.depth + 1) 0 count) (omega (arith, high)) in
      stepped_fault count st.depth e (sym more)

  module _ (h : st.base + (left + 1) ≤ most_operands) where
    pub put_room : Room work st.base left 1
    put_room = record { room = u.room; few = omega arith }

    pub put-fits : Fits w32 (left + 1)
    put-fits = record { fits = omega arith }

    pub put_on : {work' : List ℕ} → Pushed work work' st.base left (left + 1) (operand_at_code (o % word_bound) ∷ []) → o < 2 ^ 32 → Stepped work work' count st.depth (within_operands (with_top (state_at work count st) (operand_at_code o) (stack work st.base left))) (Step.TheVariants.On (record { depth = st.depth; base = st.base; height = left + 1; dead = st.dead }))
    unfolding with_top state_at
    put_on {work'} p small =
        let low : o % word_bound ≡ o = mod-eq_of_lt (omega arith) in
        let q : Pushed work work' st.base left (left + 1) (operand_at_code o ∷ []) = rw low at p in
        let fine = within_on count st.depth u.rests (operand_at_code o ∷ stack work st.base left) st.dead (sets_at work (st.depth + 1) 0 count) (omega (arith, high)) in
        stepped-on _ (ap (λ (s : State). allowed (goes_on s)) (pushed_state q u.few u.rests st.dead) ∙ sym fine) (pushed_upright q u.few u.rests u.room u.deep h st.dead) (λ at. pushed_stamped q u.few (omega arith)) (pushed_types q) q.size

-- what was taken, and what comes of it

-- (ref null x), as a word of what is wanted
wanted_x : (x : ℕ) → wanted_at_code (2 + (5 + 2 * (10 + 2 * x))) ≡ value (nullable (defined x))
wanted_x x = let same : 2 + (5 + 2 * (10 + 2 * x)) ≡ 2 + val_code (nullable (defined x)) = omega arith in ap wanted_at_code same ∙ wanted_of (nullable (defined x))

module _ (rows codes : List ℕ) {work : List ℕ} (k : Scene) (st : Check) {r : Take} where
  module _ {number : ℕ} (m : r ≡ Take.TheVariants.Fault number) where
    pub non_null_missing : took_of work st.base r ≡ take_all (view rows codes) st.dead (wanted_at_code 1 ∷ []) (stack work st.base st.height) → {work' : List ℕ} → work' ≡ work → Stepped work work' k.locals st.depth (non_null_done (context_at rows codes work k) (state_at work k.locals st)) (Step.TheVariants.Fault number)
    unfolding non_null_done do_plan context_at state_at wanted_at_code
    non_null_missing a e = stepped_fault k.locals st.depth e (let b = rw m at a in rw (sym b))

    pub descriptor_missing : (x y : ℕ) → took_of work st.base r ≡ take_all (view rows codes) st.dead (wanted_at_code (2 + (5 + 2 * (10 + 2 * x))) ∷ []) (stack work st.base st.height) → {work' : List ℕ} → work' ≡ work → Stepped work work' k.locals st.depth (descriptor_done x y (context_at rows codes work k) (state_at work k.locals st)) (Step.TheVariants.Fault number)
    unfolding descriptor_done do_plan context_at state_at
    descriptor_missing x y a e = stepped_fault k.locals st.depth e (let b = rw (m, wanted_x x) at a in rw (sym b))

  module _ {o left : ℕ} (t : r ≡ Take.TheVariants.Took o left) where
    pub non_null_on : took_of work st.base r ≡ take_all (view rows codes) st.dead (wanted_at_code 1 ∷ []) (stack work st.base st.height) → (word : ℕ) → operand_at_code word ≡ non_null_of (operand_at_code o) → {work' : List ℕ} {step : Step} → Stepped work work' k.locals st.depth (within_operands (with_top (state_at work k.locals st) (operand_at_code word) (stack work st.base left))) step → Stepped work work' k.locals st.depth (non_null_done (context_at rows codes work k) (state_at work k.locals st)) step
    unfolding non_null_done do_plan context_at state_at wanted_at_code with_top put
    non_null_on a word w s = stepped_as (let b = rw t at a in rw (sym b, w)) s

    pub descriptor_on : (x y : ℕ) → took_of work st.base r ≡ take_all (view rows codes) st.dead (wanted_at_code (2 + (5 + 2 * (10 + 2 * x))) ∷ []) (stack work st.base st.height) → (word : ℕ) → operand_at_code word ≡ known (non_null (cond (fits (view rows codes) (operand_at_code o) (value (nullable (exact x)))) (exact y) (defined y))) → {work' : List ℕ} {step : Step} → Stepped work work' k.locals st.depth (within_operands (with_top (state_at work k.locals st) (operand_at_code word) (stack work st.base left))) step → Stepped work work' k.locals st.depth (descriptor_done x y (context_at rows codes work k) (state_at work k.locals st)) step
    unfolding descriptor_done do_plan context_at state_at with_top put
    descriptor_on x y a word w s = stepped_as (let b = rw (t, wanted_x x) at a in rw (sym b, w)) s

pub ruleset do_exits = (put_full, put_room, put-fits, put_on, non_null_missing, descriptor_missing, non_null_on, descriptor_on)
