-- One instruction: the checker allows it with a next state exactly when it is typed with that next state. A rule's plan is
-- carried out by taking and putting; a block is opened or ended as the frames say.
use Prim.Native.Nat.{◌≤◌}
use native.Mathlib.Omega.{arith}
use mathlib.Core.Path.{◌≡◌, refl, sym, ◌∙◌, ap, subst}
use mathlib.Core.Logic.{◌↔◌}
use mathlib.Core.Bool.{Bool, true, false, cond}
use mathlib.Core.List.{List, [], ◌∷◌, ◌++◌, map}
use borrow.Author.Tests.{ltb-true, lt-ltb, leb-true, le-leb}
use Rattle.scope.specs.Sizes.{most_operands}
use Rattle.scope.specs.Lists.{joined}
use Rattle.scope.specs.Syntax.{Val}
use Rattle.scope.specs.TypeRules.{val_names}
use Rattle.scope.specs.Instructions.{Op, Instr, block, loop, end, op}
use Rattle.scope.specs.BodyRules.{Context, Scope, Plan, Ruled, allowed, from_top, reached}
use Rattle.scope.specs.Bodies.{Operand, Taken, put, Frame, of_block, of_loop, State, scope_of, operands_in, marked, Next, goes_on, within_operands, after_plan, do_plan, entered, none_left, ending, judge_block_end, judge_end, judge_instr}
use Rattle.facts_bodies.specs.Premises.{Takes}
use Rattle.facts_bodies.specs.Apart.{Sees}
use Rattle.facts_bodies.specs.Rules.{Rule}
use Rattle.facts_bodies.specs.Typing.{inside, past_block, Roomy, Opens, Results, TypedInstr, passes, stops, opens_block, opens_loop, ends_block, ends_loop, ends_body}
use Rattle.facts_bodies.proofs.Ruled.{fault_is_not_allowed, same_allowed, test-passed, first_allowed}
use Rattle.facts_bodies.proofs.Premises.{Ordered, tested-values-reached, values-reached-tested}
use Rattle.facts_bodies.proofs.Apart.{scope_stands, only_scope, operands_stand, only_operands}
use Rattle.facts_bodies.proofs.Planned.{planned_rule}
use Rattle.facts_bodies.proofs.Derived.{derived_plan}
use Rattle.facts_bodies.proofs.Stack.{allowed_takes, takes_allowed, rule_puts, puts_put}

-- room

pub few_roomy : {st : State} → operands_in st ≤ most_operands → Roomy st
few_roomy {st} few = record { few_operands = λ all. let same = only_operands all in omega arith }

pub roomy_few : {st : State} → Roomy st → operands_in st ≤ most_operands
roomy_few {st} r = r.few_operands (operands_stand st)

pub within_roomy : (st : State) {n : Next} → within_operands st ≡ allowed n → Roomy st × (goes_on st ≡ n)
within_roomy st e =
    let (few, same) = test-passed _ _ _ e in
    (few_roomy (leb-true _ _ few), same_allowed same)

pub roomy_within : {st : State} → Roomy st → within_operands st ≡ allowed (goes_on st)
roomy_within r = rw (le-leb _ _ (roomy_few r))

module _ (c : Context) (st : State) where
  -- the same instruction, with the next state under its other name
  as_typed : {i : Instr} {n m : Next} → TypedInstr c st i n → n ≡ m → TypedInstr c st i m
  as_typed {i} t e = subst (TypedInstr c st i) e t

  -- what is seen is the checker's own scope
  as_seen : {here : Scope} {o : Op} {p : Plan} → Sees c st here → Rule c here o p → Rule c (scope_of c st) o p
  as_seen {o = o} {p} seen rule = subst (λ (h : Scope). Rule c h o p) (sym (only_scope seen)) rule

  -- blocks

  entered-opens : (rs : List Val) (f : Frame) {n : Next}
      → reached c (joined (map val_names rs)) (entered st f) ≡ allowed n
      → Opens c st rs × (goes_on (inside st f) ≡ n)
  entered-opens rs f e =
      let (below, more) = test-passed _ _ _ e in
      let (few, same) = test-passed _ _ _ more in
      (record { reached = tested-values-reached c.count rs below; few_frames = ltb-true _ _ few }, same_allowed same)

  opens-entered : {rs : List Val} (f : Frame) → Opens c st rs → reached c (joined (map val_names rs)) (entered st f) ≡ allowed (goes_on (inside st f))
  opens-entered f o = rw (values-reached-tested c.count o.reached, lt-ltb _ _ o.few_frames)

  -- ends

  ending_results : {A : Type 0} {y : A} (rs : List Val) (more : Ruled A) → ending c st rs more ≡ allowed y → Results c st rs × (more ≡ allowed y)
  ending_results {A} {y} rs more e = let (t, took, rest) = first_allowed _ _ e in go t (allowed_takes c.types _ _ _ took) rest
    where
      none_left_lem : (left : List Operand) {taken : List Operand}
          → Takes c.types st.dead (from_top rs) st.operands taken left
          → none_left left more ≡ allowed y
          → Results c st rs × (more ≡ allowed y)
      none_left_lem [] {taken} k f = (record { taken = taken; exactly = k }, f)
      none_left_lem (o ∷ os) k f = absurd (fault_is_not_allowed f)

      go : (t : Taken)
          → Takes c.types st.dead (from_top rs) st.operands t.taken t.left
          → none_left t.left more ≡ allowed y
          → Results c st rs × (more ≡ allowed y)
      go t = none_left_lem t.left

  leave_past : (fs : List Frame) (rs : List Val) (os : List Operand) (dead : Bool) (is_set : List Bool) {n : Next}
      → judge_block_end c st fs rs os dead is_set ≡ allowed n
      → Results c st rs × Roomy (past_block fs rs os dead is_set) × (goes_on (past_block fs rs os dead is_set) ≡ n)
  leave_past fs rs os dead is_set e =
      let (results, more) = ending_results rs _ e in
      let (roomy, same) = within_roomy (past_block fs rs os dead is_set) more in
      (results, roomy, same)

  closed_typed : (fs : List Frame) {n : Next} → st.frames ≡ fs → judge_end c st fs ≡ allowed n → TypedInstr c st end n
  unfolding judge_end
  closed_typed [] p e =
      let (results, same) = ending_results c.results _ e in
      as_typed (ends_body p results) (same_allowed same)
  closed_typed (of_block rs os dead is_set ∷ fs) p e =
      let (results, roomy, same) = leave_past fs rs os dead is_set e in
      as_typed (ends_block p results roomy) same
  closed_typed (of_loop rs os dead is_set ∷ fs) p e =
      let (results, roomy, same) = leave_past fs rs os dead is_set e in
      as_typed (ends_loop p results roomy) same

  module _ (ordered : Ordered c.types) where
    results_ending : {A : Type 0} {rs : List Val} (more : Ruled A) → Results c st rs → ending c st rs more ≡ more
    results_ending more r = rw (takes_allowed ordered r.exactly)

    -- plans

    -- what the checker makes of a plan, by whether the instruction stops
    abbrev stepped : Bool → Plan → List Operand → State
    stepped b p os = record { frames = st.frames; operands = cond b [] os; dead = cond b true st.dead; is_set = marked p.marks st.is_set }

    planned_typed : {o : Op} {p : Plan} {n : Next} → Rule c (scope_of c st) o p → do_plan c st p ≡ allowed n → TypedInstr c st (op o) n
    unfolding do_plan
    planned_typed {o} {p} rule e =
        let (t, took, more) = first_allowed _ _ e in
        let (roomy, same) = within_roomy (after_plan c st p t) more in
        as_typed (go t (allowed_takes c.types _ _ _ took) p.stops refl roomy) same
      where
        go : (t : Taken)
            → Takes c.types st.dead p.wants st.operands t.taken t.left
            → (b : Bool)
            → p.stops ≡ b
            → Roomy (stepped b p (put c.types p.gives t.taken ++ t.left))
            → TypedInstr c st (op o) (goes_on (stepped b p (put c.types p.gives t.taken ++ t.left)))
        go t k true s roomy = stops (scope_stands c st) rule s k roomy
        go t k false s roomy = passes (scope_stands c st) rule s k (rule_puts ordered rule k) roomy

    planned : (p : Plan) {taken left : List Operand} {next : State}
        → Takes c.types st.dead p.wants st.operands taken left
        → after_plan c st p (record { taken = taken; left = left }) ≡ next
        → Roomy next
        → do_plan c st p ≡ allowed (goes_on next)
    unfolding do_plan
    planned p k e roomy = rw (takes_allowed ordered k) (ap within_operands e ∙ roomy_within roomy)

    pub allowed_typed : (i : Instr) {n : Next} → judge_instr c st i ≡ allowed n → TypedInstr c st i n
    unfolding judge_instr
    allowed_typed (block rs) e = let (opens, same) = entered-opens rs _ e in as_typed (opens_block opens) same
    allowed_typed (loop rs) e = let (opens, same) = entered-opens rs _ e in as_typed (opens_loop opens) same
    allowed_typed end e = closed_typed st.frames refl e
    allowed_typed (op o) e =
        let (p, plan, more) = first_allowed _ _ e in
        planned_typed (planned_rule c (scope_of c st) o plan) more

    pub typed_allowed : {i : Instr} {n : Next} → TypedInstr c st i n → judge_instr c st i ≡ allowed n
    unfolding judge_instr judge_end
    typed_allowed (passes {p = p} seen rule s k puts roomy) = rw (derived_plan c (scope_of c st) ordered (as_seen seen rule)) (planned p k (rw (s, puts_put ordered puts)) roomy)
    typed_allowed (stops {p = p} seen rule s k roomy) = rw (derived_plan c (scope_of c st) ordered (as_seen seen rule)) (planned p k (rw s) roomy)
    typed_allowed (opens_block o) = opens-entered _ o
    typed_allowed (opens_loop o) = opens-entered _ o
    typed_allowed (ends_block p results roomy) = ap (judge_end c st) p ∙ results_ending _ results ∙ roomy_within roomy
    typed_allowed (ends_loop p results roomy) = ap (judge_end c st) p ∙ results_ending _ results ∙ roomy_within roomy
    typed_allowed (ends_body p results) = ap (judge_end c st) p ∙ results_ending _ results

    pub allowed_exactly_when_typed : {i : Instr} {n : Next} → (judge_instr c st i ≡ allowed n) ↔ TypedInstr c st i n
    allowed_exactly_when_typed {i} = (allowed_typed i, typed_allowed)
