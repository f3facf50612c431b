-- Each way out of doing a plan that gives values.
use Prim.Native.Nat.{ℕ, ◌+◌}
use mathlib.Core.Path.{◌≡◌, refl, sym, ap, ◌∙◌}
use mathlib.Core.Bool.{true, false}
use mathlib.Core.List.{List, [], ◌++◌}
use native.Mathlib.Omega.{arith}
use Rattle.scope.specs.Told.{Maybe}
use Rattle.std.specs.Prelude.{None, Some}
use Rattle.scope.specs.Refusals.{oversize}
use Rattle.scope.specs.BodyRules.{Context, Ruled, allowed, fault, and_ruled, from_top}
use Rattle.scope.specs.Bodies.{Operand, Taken, take_all, put, marked, do_plan, State, Next, goes_on, within_operands}
use Rattle.type_table.specs.View.{link_at, view}
use Rattle.body_state.specs.declared.Check.{Check}
use Rattle.body_state.specs.declared.Scene.{Scene}
use Rattle.body_state.specs.declared.Plain.{Plain}
use Rattle.body_state.specs.declared.Planned.{Planned}
use Rattle.body_state.specs.declared.Planned
use Rattle.body_state.specs.declared.Step.{Step}
use Rattle.body_state.specs.declared.Step
use Rattle.body_state.specs.State.{values_of, wants_at, plain_of, planned_of, stack, sets_at, context_at, state_at, Upright, Stepped}
use Rattle.body_state.proofs.Stepping.{stepped-on, stepped_fault, stepped_as, within_on}
use Rattle.body_operands.specs.declared.Left.{Left}
use Rattle.body_operands.specs.declared.Left
use Rattle.body_operands.specs.Taking.{left_in, left_of}
use Rattle.body_put.proofs.PushedState.{pushed_state, pushed_upright, pushed_stamped, pushed_types}
use Rattle.body_marks.specs.Marks.{Ready, Marked}
use Rattle.body_marks.proofs.MarkedState.{may_mark, marked-state, marked_upright, marked_stamped}
use Rattle.body_push.specs.Gives.{Long, back_of, given_of, Gave, GivenTo}
use Rattle.body_push.proofs.Laws.{within-sizes, beyond-sizes}
use Rattle.body_references.specs.OneMore.{non_null_done, descriptor_done}
use Rattle.body_effects.specs.Effects.{after_plain}

module _ (codes : List ℕ) {work : List ℕ} {count : ℕ} {st : Check} (u : Upright work count st) (p : Plain) (left : ℕ) where
  -- the stack yields unknowns afterwards
  pub give_stops : p.stops ≡ true → {work' : List ℕ} → Marked work work' count (st.depth + 1) (link_at p.marks) → Stepped work work' count st.depth (within_operands (after_plain codes (state_at work count st) p (stack work st.base left))) (Step.TheVariants.On (record { depth = st.depth; base = st.base; height = 0; dead = true }))
  unfolding after_plain state_at stack
  give_stops s {work'} k =
      let v : Upright work count (record { depth = st.depth; base = st.base; height = 0; dead = true }) = record { room = u.room; few = u.few; deep = u.deep; low = omega (arith, u.low); rests = u.rests } in
      let fine = within_on count st.depth u.rests [] true (marked (link_at p.marks) (sets_at work (st.depth + 1) 0 count)) (omega (arith, u.low)) in
      stepped-on _ (rw s (ap (λ (t : State). allowed (goes_on t)) (marked-state v k) ∙ sym fine)) (marked_upright v k) (marked_stamped v k) k.types k.size

  module _ (s : p.stops ≡ false) {r : Maybe ℕ} {work₁ : List ℕ} where
    pub give_full : r ≡ None → GivenTo work work₁ st.base left (given_of codes p.rest p.back p.gives) r → Stepped work work₁ count st.depth (within_operands (after_plain codes (state_at work count st) p (stack work st.base left))) (Step.TheVariants.Fault oversize)
    unfolding after_plain state_at
    give_full e g =
        let many = g.full e in
        let more = beyond-sizes u.rests count left st.dead (marked (link_at p.marks) (sets_at work (st.depth + 1) 0 count)) (given_of codes p.rest p.back p.gives) many in
        stepped_fault count st.depth many.same (rw s (sym more))

    module _ {high : ℕ} (e : r ≡ Some high) (g : GivenTo work work₁ st.base left (given_of codes p.rest p.back p.gives) r) where
      gave : Gave work work₁ st.base left (given_of codes p.rest p.back p.gives) high
      gave = g.gave high e

      stands : Upright work₁ count (record { depth = st.depth; base = st.base; height = high; dead = st.dead })
      stands = pushed_upright gave.pushed u.few u.rests u.room u.deep gave.few st.dead

      pub mark_given : Ready work₁ count (st.depth + 1)
      mark_given = may_mark stands

      pub give_on : {work₂ : List ℕ} → Marked work₁ work₂ count (st.depth + 1) (link_at p.marks) → Stepped work work₂ count st.depth (within_operands (after_plain codes (state_at work count st) p (stack work st.base left))) (Step.TheVariants.On (record { depth = st.depth; base = st.base; height = high; dead = st.dead }))
      unfolding after_plain state_at
      give_on {work₂} k =
          let vs = given_of codes p.rest p.back p.gives in
          let sets = marked (link_at p.marks) (sets_at work (st.depth + 1) 0 count) in
          let here = marked-state stands k ∙ ap (λ (t : State). record { frames = t.frames; operands = t.operands; dead = t.dead; is_set = marked (link_at p.marks) t.is_set }) (pushed_state gave.pushed u.few u.rests st.dead) in
          let fine = within-sizes u.rests count left st.dead sets vs gave in
          stepped-on _
          (rw s (ap (λ (t : State). allowed (goes_on t)) here ∙ sym fine))
          (marked_upright stands k)
          (λ at old. marked_stamped stands k at (pushed_stamped gave.pushed u.few (omega arith) old))
          (λ i h. k.types i h ∙ pushed_types gave.pushed i h)
          (k.size ∙ gave.pushed.size)

-- what is taken, and what comes of it

left_only : (f : List Operand → Ruled Next) (t : Ruled Taken) → and_ruled t (λ u. f u.left) ≡ and_ruled (left_in t) f
left_only f (allowed u) = refl
left_only f (fault n) = refl

-- a plan that gives values needs to know only what is left
plan_left : (codes : List ℕ) (c : Context) (st : State) (p : Plain) → do_plan c st (plain_of codes p) ≡ and_ruled (left_in (take_all c.types st.dead (wants_at p.top ++ (wants_at p.second ++ from_top (values_of codes p.rest))) st.operands)) (λ os. within_operands (after_plain codes st p os))
unfolding do_plan plain_of after_plain put given_of back_of
plan_left codes c st p =
    left_only (λ os. within_operands (after_plain codes st p os)) (take_all c.types st.dead (wants_at p.top ++ (wants_at p.second ++ from_top (values_of codes p.rest))) st.operands)

module _ (rows codes work : List ℕ) (k : Scene) (st : Check) (p : Plain) where
  planned : do_plan (context_at rows codes work k) (state_at work k.locals st) (plain_of codes p) ≡ and_ruled (left_in (take_all (view rows codes) st.dead (wants_at p.top ++ (wants_at p.second ++ from_top (values_of codes p.rest))) (stack work st.base st.height))) (λ os. within_operands (after_plain codes (state_at work k.locals st) p os))
  unfolding context_at state_at
  planned = plan_left codes (context_at rows codes work k) (state_at work k.locals st) p

module _ (rows codes : List ℕ) {work : List ℕ} (k : Scene) (st : Check) (p : Plain) {r : Left} where
  pub plain_missing : {number : ℕ} → r ≡ Left.TheVariants.Fault number → left_of work st.base r ≡ left_in (take_all (view rows codes) st.dead (wants_at p.top ++ (wants_at p.second ++ from_top (values_of codes p.rest))) (stack work st.base st.height)) → {work' : List ℕ} → work' ≡ work → Stepped work work' k.locals st.depth (do_plan (context_at rows codes work k) (state_at work k.locals st) (plain_of codes p)) (Step.TheVariants.Fault number)
  plain_missing m a e = stepped_fault k.locals st.depth e (sym (planned rows codes work k st p ∙ rw (sym a, m) refl))

  pub plain_on : {left : ℕ} → r ≡ Left.TheVariants.Is left → left_of work st.base r ≡ left_in (take_all (view rows codes) st.dead (wants_at p.top ++ (wants_at p.second ++ from_top (values_of codes p.rest))) (stack work st.base st.height)) → {work' : List ℕ} {step : Step} → Stepped work work' k.locals st.depth (within_operands (after_plain codes (state_at work k.locals st) p (stack work st.base left))) step → Stepped work work' k.locals st.depth (do_plan (context_at rows codes work k) (state_at work k.locals st) (plain_of codes p)) step
  plain_on m a s = stepped_as (sym (planned rows codes work k st p ∙ rw (sym a, m) refl)) s

-- a plan, by its kind

module _ (rows codes : List ℕ) {work : List ℕ} (k : Scene) (st : Check) {planned : Planned} where
  pub does_fault : {n : ℕ} → planned ≡ Planned.TheVariants.Fault n → {work' : List ℕ} → work' ≡ work → Stepped work work' k.locals st.depth (and_ruled (planned_of codes planned) (do_plan (context_at rows codes work k) (state_at work k.locals st))) (Step.TheVariants.Fault n)
  unfolding planned_of
  does_fault m e = stepped_fault k.locals st.depth e (rw m refl)

  module _ {work' : List ℕ} {step : Step} where
    pub does_non_null : planned ≡ Planned.TheVariants.NonNull → Stepped work work' k.locals st.depth (non_null_done (context_at rows codes work k) (state_at work k.locals st)) step → Stepped work work' k.locals st.depth (and_ruled (planned_of codes planned) (do_plan (context_at rows codes work k) (state_at work k.locals st))) step
    unfolding planned_of non_null_done
    does_non_null m s = rw m s

    pub does_descriptor : {x y : ℕ} → planned ≡ Planned.TheVariants.Descriptor x y → Stepped work work' k.locals st.depth (descriptor_done x y (context_at rows codes work k) (state_at work k.locals st)) step → Stepped work work' k.locals st.depth (and_ruled (planned_of codes planned) (do_plan (context_at rows codes work k) (state_at work k.locals st))) step
    unfolding planned_of descriptor_done
    does_descriptor m s = rw m s

    pub does_plain : {p : Plain} → planned ≡ Planned.TheVariants.Plain p → Stepped work work' k.locals st.depth (do_plan (context_at rows codes work k) (state_at work k.locals st) (plain_of codes p)) step → Stepped work work' k.locals st.depth (and_ruled (planned_of codes planned) (do_plan (context_at rows codes work k) (state_at work k.locals st))) step
    unfolding planned_of
    does_plain m s = rw m s

pub may_give : {work : List ℕ} {count : ℕ} {st : Check} → Upright work count st → Long work
may_give u = record { room = u.room }

pub ruleset give_exits = (may_mark, may_give, give_stops, give_full, mark_given, give_on, plain_missing, plain_on, does_fault, does_non_null, does_descriptor, does_plain)
