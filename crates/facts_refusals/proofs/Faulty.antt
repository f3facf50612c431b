-- The first faulty instruction. An instruction's fault is the first of its conditions that fails: the tests before the
-- operands are its questions (proofs/Asked.antt), and operands, `end` and sizes follow by the relations of facts_bodies,
-- which the checker's functions agree with. The walk stops at the first instruction that is not allowed.
use Prim.Native.Nat.{ℕ, zero, suc, ◌+◌, ◌≤◌}
use native.Mathlib.Omega.{arith}
use mathlib.Core.Path.{◌≡◌, refl, sym, ◌∙◌, ap, subst}
use mathlib.Core.Logic.{◌↔◌}
use mathlib.Core.Bool.{Bool, true, false}
use mathlib.Core.Option.{none}
use mathlib.Core.List.{List, [], ◌∷◌, map}
use lib.ListN.{length, get_elem?}
use lib.Dec.{leb}
use borrow.Author.Tests.{ltb-true, lt-ltb, leb-true, le-leb}
use Rattle.scope.specs.Sizes.{most_operands}
use Rattle.scope.specs.Refusals.{bytes_end, bad_operand, only_null, oversize, values_left}
use Rattle.scope.specs.Reading.{Read, got, refused, then}
use Rattle.scope.specs.Lists.{joined}
use Rattle.scope.specs.Syntax.{Val}
use Rattle.scope.specs.TypeRules.{val_names}
use Rattle.scope.specs.Instructions.{Op, Instr, block, loop, end, op, instr_at}
use Rattle.scope.specs.BodyRules.{Context, Wanted, Plan, Ruled, allowed, fault, and_ruled, from_top, reached, plan_of}
use Rattle.scope.specs.Bodies.{Operand, Taken, take_all, put, Frame, of_block, of_loop, State, scope_of, operands_in, Next, goes_on, finished, after_plan, do_plan, entered, none_left, judge_end, judge_instr, Code, on_ruled, on_next, judge_from}
use Rattle.scope.proofs.Impossible.{contradiction}
use Rattle.scope.proofs.Forward.{never_back}
use Rattle.scope.proofs.ForwardBodies.{instr_takes}
use Rattle.facts_sections.specs.FirstFault as rules
use Rattle.facts_sections.specs.FirstFault.{all_kept, kept_and, FirstBroken, broken, kept_then}
use Rattle.facts_bodies.specs.Premises.{Takes, Puts}
use Rattle.facts_bodies.specs.Rules.{Rule}
use Rattle.facts_bodies.specs.Typing.{passed, stopped, past_block, Roomy, Results, TypedInstr, InstrsAt, no_instr, next_instr}
use Rattle.facts_bodies.proofs.Ruled.{fault_is_not_allowed, same_allowed}
use Rattle.facts_bodies.proofs.Premises.{Ordered, tested-values-reached, values-reached-tested}
use Rattle.facts_bodies.proofs.Planned.{planned_rule}
use Rattle.facts_bodies.proofs.Derived.{derived_plan}
use Rattle.facts_bodies.proofs.Stack.{allowed_takes, takes_allowed, rule_puts, puts_put}
use Rattle.facts_bodies.proofs.Steps.{few_roomy, roomy_few, allowed_typed, typed_allowed}
use Rattle.facts_refusals.specs.Bodies.{NullFirst, NoNullAtEnd, NoNull, CanTake, can_take, OperandsThere, operands_there, Operands, Room, results_of, RoomPast, past_body, past_block_lem, past_loop, open_rules, conditions, TypedUpTo, none_yet, then_next, FaultAt, in_bytes, in_instruction, FirstFaulty}
use Rattle.facts_refusals.proofs.Judged.{Judges, says_yes, says_no_lem, nothing_asked, judges_test, judges_and, fault_exactly}
use Rattle.facts_refusals.proofs.Asked.{plan_asked}
use Rattle.facts_refusals.proofs.OperandFaults.{TakenOr, take-or, taken_so, thirty_one, twenty}

module _ (c : Context) (st : State) (ordered : Ordered c.types) where
  -- a test of the operands and what follows it
  took : {A : Type 0} {N P : Type 0} {later : List rules.Rule} (ws : List Wanted) {f : Taken → Ruled A}
      → ((NullFirst c.types ws st.operands → ⊥) → N) → (N → NullFirst c.types ws st.operands → ⊥)
      → ((t : Taken) → take_all c.types st.dead ws st.operands ≡ allowed t → P)
      → (P → (t : Taken) × (take_all c.types st.dead ws st.operands ≡ allowed t))
      → ((t : Taken) → take_all c.types st.dead ws st.operands ≡ allowed t → Judges (f t) later)
      → Judges (and_ruled (take_all c.types st.dead ws st.operands) f) (record { says = N; number = only_null } ∷ record { says = P; number = bad_operand } ∷ later)
  took {A} {N} {P} {later} ws {f} none_said none_of says tested more = go (take_all c.types st.dead ws st.operands) refl (take-or ordered st.dead ws st.operands)
    where
      kept : {v : Ruled A} → N → P → Judges v later → Judges v (record { says = N; number = only_null } ∷ record { says = P; number = bad_operand } ∷ later)
      kept n p (says_yes all) = says_yes (kept_and n (kept_and p all))
      kept n p (says_no_lem first) = says_no_lem (kept_then n (kept_then p first))

      go : (r : Ruled Taken) → take_all c.types st.dead ws st.operands ≡ r → TakenOr ordered ws st.operands r → Judges (and_ruled r f) (record { says = N; number = only_null } ∷ record { says = P; number = bad_operand } ∷ later)
      go (allowed t) e (taken_so other) = kept (none_said other) (says t e) (more t e)
      go (fault n) e (thirty_one first) = says_no_lem (broken (λ n. none_of n first))
      go (fault n) e (twenty other) = says_no_lem (kept_then (none_said other) (broken (λ p. let (t, yes') = tested p in fault_is_not_allowed (sym e ∙ yes'))))

  takes_of : (ws : List Wanted) (t : Taken) → take_all c.types st.dead ws st.operands ≡ allowed t → Takes c.types st.dead ws st.operands t.taken t.left
  takes_of ws t e = allowed_takes c.types st.dead ws st.operands e

  -- the same operands are taken and left, whichever way they are
  same_taken : {ws : List Wanted} {t : Taken} {taken left : List Operand} → take_all c.types st.dead ws st.operands ≡ allowed t
      → Takes c.types st.dead ws st.operands taken left → t ≡ record { taken = taken; left = left }
  same_taken e k = same_allowed (sym e ∙ takes_allowed ordered k)

  -- operands and room of an instruction with this plan

  module _ (o : Op) (p : Plan) (planned : plan_of c (scope_of c st) o ≡ allowed p) where
    rule_here : Rule c (scope_of c st) o p
    rule_here = planned_rule c (scope_of c st) o planned

    same_plan : {q : Plan} → Rule c (scope_of c st) o q → p ≡ q
    same_plan r = same_allowed (sym planned ∙ derived_plan c (scope_of c st) ordered r)

    operands_said : (t : Taken) → take_all c.types st.dead p.wants st.operands ≡ allowed t → Operands c st o
    operands_said t e = record { there = λ {p = q} r. subst (OperandsThere c st) (same_plan r) (operands_there (takes_of p.wants t e)) }

    operands_tested : Operands c st o → (t : Taken) × (take_all c.types st.dead p.wants st.operands ≡ allowed t)
    operands_tested all = go (all.there rule_here)
      where
        go : OperandsThere c st p → (t : Taken) × (take_all c.types st.dead p.wants st.operands ≡ allowed t)
        go (operands_there k) = (_, takes_allowed ordered k)

    room_said : (t : Taken) → take_all c.types st.dead p.wants st.operands ≡ allowed t → leb (operands_in (after_plan c st p t)) most_operands ≡ true → Room c st o
    room_said t e few =
        record {
          going_on = λ {p = q} r goes k puts.
              let here : Roomy (after_plan c st p t) = few_roomy (leb-true _ _ few) in
              on_going q (same_plan r) goes k puts here;
          stopping = λ {p = q} r stops k.
              let here : Roomy (after_plan c st p t) = few_roomy (leb-true _ _ few) in
              on-stopping q (same_plan r) stops here;
        }
      where
        on_going : (q : Plan) {taken left out : List Operand} → p ≡ q → q.stops ≡ false
            → Takes c.types st.dead q.wants st.operands taken left → Puts c.types q.gives taken out → Roomy (after_plan c st p t) → Roomy (passed st q out left)
        on_going q {taken} {left} {out} same goes k puts here =
            let one : t ≡ record { taken = taken; left = left } = same_taken e (rw same k) in
            let so : after_plan c st p t ≡ passed st q out left = rw (one, same, goes, puts_put ordered puts) in
            subst Roomy so here

        on-stopping : (q : Plan) → p ≡ q → q.stops ≡ true → Roomy (after_plan c st p t) → Roomy (stopped st q)
        on-stopping q same stops here =
            let so : after_plan c st p t ≡ stopped st q = rw (same, stops) in
            subst Roomy so here

    room_tested : (t : Taken) → take_all c.types st.dead p.wants st.operands ≡ allowed t → Room c st o → leb (operands_in (after_plan c st p t)) most_operands ≡ true
    room_tested t e room = go p.stops refl
      where
        k : Takes c.types st.dead p.wants st.operands t.taken t.left
        k = takes_of p.wants t e

        few : Roomy (after_plan c st p t) → leb (operands_in (after_plan c st p t)) most_operands ≡ true
        few r = le-leb _ _ (roomy_few r)

        go : (b : Bool) → p.stops ≡ b → leb (operands_in (after_plan c st p t)) most_operands ≡ true
        go true stops =
            let so : after_plan c st p t ≡ stopped st p = rw stops in
            few (subst Roomy (sym so) (room.stopping rule_here stops k))
        go false goes =
            let so : after_plan c st p t ≡ passed st p (put c.types p.gives t.taken) t.left = rw goes in
            few (subst Roomy (sym so) (room.going_on rule_here goes k (rule_puts ordered rule_here k)))

    no_null_said : (NullFirst c.types p.wants st.operands → ⊥) → NoNull c st o
    no_null_said other = record { other = λ {p = q} r. subst (λ (q : Plan). NullFirst c.types q.wants st.operands → ⊥) (same_plan r) other }

    plan_done : Judges (do_plan c st p) (record { says = NoNull c st o; number = only_null } ∷ record { says = Operands c st o; number = bad_operand } ∷ record { says = Room c st o; number = oversize } ∷ [])
    unfolding do_plan
    plan_done =
        took p.wants no_null_said (λ n. n.other rule_here) operands_said operands_tested (λ t e.
        judges_test _ (room_said t e) (room_tested t e) (λ few. nothing_asked))

  -- blocks

  open_asked : (rs : List Val) (f : Frame) → Judges (reached c (joined (map val_names rs)) (entered st f)) (open_rules c st rs)
  open_asked rs f =
      judges_test _ (tested-values-reached c.count rs) (values-reached-tested c.count) (λ e.
      judges_test _ (ltb-true _ _) (lt-ltb _ _) (λ few. nothing_asked))

  -- ends

  can_said : (rs : List Val) (t : Taken) → take_all c.types st.dead (from_top rs) st.operands ≡ allowed t → CanTake c st rs
  can_said rs t e = can_take (takes_of (from_top rs) t e)

  can_tested : (rs : List Val) → CanTake c st rs → (t : Taken) × (take_all c.types st.dead (from_top rs) st.operands ≡ allowed t)
  can_tested rs (can_take k) = (_, takes_allowed ordered k)

  none_left_lem : {A : Type 0} {later : List rules.Rule} (rs : List Val) (t : Taken) {more : Ruled A}
      → take_all c.types st.dead (from_top rs) st.operands ≡ allowed t
      → Judges more later
      → Judges (none_left t.left more) (record { says = Results c st rs; number = values_left } ∷ later)
  none_left_lem {A} {later} rs t {more} e next = go t.left refl next
    where
      kept : {v : Ruled A} → Results c st rs → Judges v later → Judges v (record { says = Results c st rs; number = values_left } ∷ later)
      kept p (says_yes all) = says_yes (kept_and p all)
      kept p (says_no_lem first) = says_no_lem (kept_then p first)

      some_left : {o : Operand} {os : List Operand} → t.left ≡ o ∷ os → Results c st rs → ⊥
      some_left {o} {os} q r =
          let one = same_taken e r.exactly in
          let empty : t.left ≡ [] = ap (λ (u : Taken). u.left) one in
          contradiction cc

      go : (left : List Operand) → t.left ≡ left → Judges more later → Judges (none_left left more) (record { says = Results c st rs; number = values_left } ∷ later)
      go [] q m = kept (record { taken = t.taken; exactly = rw q at (takes_of (from_top rs) t e) }) m
      go (o ∷ os) q m = says_no_lem (broken (some_left q))

  past_block_tested : {rs : List Val} {os : List Operand} {dead : Bool} {is_set : List Bool} {fs : List Frame}
      → RoomPast (of_block rs os dead is_set ∷ fs) → leb (operands_in (past_block fs rs os dead is_set)) most_operands ≡ true
  past_block_tested (past_block_lem r) = le-leb _ _ (roomy_few r)

  past_loop-tested : {rs : List Val} {os : List Operand} {dead : Bool} {is_set : List Bool} {fs : List Frame}
      → RoomPast (of_loop rs os dead is_set ∷ fs) → leb (operands_in (past_block fs rs os dead is_set)) most_operands ≡ true
  past_loop-tested (past_loop r) = le-leb _ _ (roomy_few r)

  close_asked : (fs : List Frame) → Judges (judge_end c st fs)
      (record { says = NoNullAtEnd c st (results_of c fs); number = only_null } ∷ record { says = CanTake c st (results_of c fs); number = bad_operand } ∷ record { says = Results c st (results_of c fs); number = values_left } ∷ record { says = RoomPast fs; number = oversize } ∷ [])
  unfolding judge_end
  close_asked [] =
      took (from_top c.results) (λ other. record { other = other }) (λ n. n.other) (can_said c.results) (can_tested c.results) (λ t e.
      none_left_lem c.results t e (says_yes (kept_and past_body all_kept)))
  close_asked (of_block rs os dead is_set ∷ fs) =
      took (from_top rs) (λ other. record { other = other }) (λ n. n.other) (can_said rs) (can_tested rs) (λ t e.
      none_left_lem rs t e
      (judges_test _ (λ few. past_block_lem (few_roomy (leb-true _ _ few))) past_block_tested (λ few. nothing_asked)))
  close_asked (of_loop rs os dead is_set ∷ fs) =
      took (from_top rs) (λ other. record { other = other }) (λ n. n.other) (can_said rs) (can_tested rs) (λ t e.
      none_left_lem rs t e
      (judges_test _ (λ few. past_loop (few_roomy (leb-true _ _ few))) past_loop-tested (λ few. nothing_asked)))

  pub instruction_asked : (i : Instr) → Judges (judge_instr c st i) (conditions c st i)
  unfolding judge_instr
  instruction_asked (block rs) = open_asked rs _
  instruction_asked (loop rs) = open_asked rs _
  instruction_asked end = close_asked st.frames
  instruction_asked (op o) = judges_and _ (plan_asked c (scope_of c st) ordered o) (plan_done o)

  -- the number is the first in document 01's order whose condition fails
  pub instruction_fault : (i : Instr) {n : ℕ} → (judge_instr c st i ≡ fault n) ↔ FirstBroken (conditions c st i) n
  instruction_fault i = fault_exactly (instruction_asked i)

-- the walk

pub refused_one : {A : Type 0} {n p k q : ℕ} → ◌≡◌ {A = Read A} (refused n p) (refused k q) → (n ≡ k) × (p ≡ q)
refused_one e = (cc, cc)

-- a refusal is the same whatever was to be read
pub as_refused : {A B : Type 0} {n p k q : ℕ} → ◌≡◌ {A = Read A} (refused n p) (refused k q) → ◌≡◌ {A = Read B} (refused n p) (refused k q)
as_refused e = let (a, b) = refused_one e in rw (a, b)

pub got_is_not_refused : {A : Type 0} {x : A} {next n p : ℕ} → got x next ≡ refused n p → ⊥
got_is_not_refused e = contradiction cc

module _ (c : Context) (ordered : Ordered c.types) (s : List ℕ) where
  one_earlier : {st later : State} {at next number place : ℕ} {i : Instr} → instr_at s at ≡ got i next → TypedInstr c st i (goes_on later)
      → FirstFaulty c later s next number place → FirstFaulty c st s at number place
  one_earlier {i = i} read typed f =
      record {
        before = i ∷ f.before;
        at = f.at;
        state = f.state;
        reads = next_instr read f.reads;
        derivable = then_next typed f.derivable;
        faulty = f.faulty;
      }

  at_once : {st : State} {at number place : ℕ} → FaultAt c st s at number place → FirstFaulty c st s at number place
  at_once {st} {at} f = record { before = []; at = at; state = st; reads = no_instr; derivable = none_yet; faulty = f }

  -- past the input's end the next instruction's first byte is missing
  none_there_lem : (t : List ℕ) (at : ℕ) → length t ≤ at → get_elem? t at ≡ none
  none_there_lem [] at h = refl
  none_there_lem (b ∷ t) zero h = absurd (omega arith)
  none_there_lem (b ∷ t) (suc at) h = none_there_lem t at (omega arith)

  byte_missing : (at : ℕ) → length s ≤ at → instr_at s at ≡ refused bytes_end at
  unfolding instr_at
  byte_missing at h = rw (none_there_lem s at h)

  pub refused_faulty : (left : ℕ) (st : State) (at : ℕ) {number place : ℕ} → length s ≤ at + left → judge_from left c st s at ≡ refused number place → FirstFaulty c st s at number place
  unfolding judge_from
  refused_faulty zero st at {number} {place} room e = at_once (in_bytes (byte_missing at (omega arith) ∙ as_refused e))
  refused_faulty (suc left) st at {number} {place} room e = go (instr_at s at) refl e (λ next h later f. refused_faulty left later next h f)
    where
      on : (i : Instr) (next : ℕ) → instr_at s at ≡ got i next → (n : Next) → judge_instr c st i ≡ allowed n
          → on_next n (λ later. then (judge_from left c later s next) (λ code stop. got ((at, i) ∷ code) stop)) (got ((at, i) ∷ []) next) ≡ refused number place
          → ((later : State) → judge_from left c later s next ≡ refused number place → FirstFaulty c later s next number place)
          → FirstFaulty c st s at number place
      on i next read finished ruled f more = absurd (got_is_not_refused f)
      on i next read (goes_on later) ruled f more = first (judge_from left c later s next) refl f
        where
          first : (r : Read Code) → judge_from left c later s next ≡ r → then r (λ code stop. got ((at, i) ∷ code) stop) ≡ refused number place → FirstFaulty c st s at number place
          first (got code stop) q g = absurd (got_is_not_refused g)
          first (refused n p) q g = one_earlier read (allowed_typed c st ordered i ruled) (more later (q ∙ g))

      ruled : (i : Instr) (next : ℕ) → instr_at s at ≡ got i next → (r : Ruled Next) → judge_instr c st i ≡ r
          → on_ruled r (λ n. refused n at) (λ n. on_next n (λ later. then (judge_from left c later s next) (λ code stop. got ((at, i) ∷ code) stop)) (got ((at, i) ∷ []) next)) ≡ refused number place
          → ((later : State) → judge_from left c later s next ≡ refused number place → FirstFaulty c later s next number place)
          → FirstFaulty c st s at number place
      ruled i next read (allowed n) q f more = on i next read n q f more
      ruled i next read (fault n) q f more =
          let (number_same, place_same) = refused_one f in
          at_once (subst (λ (p : ℕ). FaultAt c st s at number p) place_same
          (subst (λ (k : ℕ). FaultAt c st s at k at) number_same (in_instruction read ((instruction_fault c st ordered i).0 q))))

      go : (r : Read Instr) → instr_at s at ≡ r
          → then r (λ i next. on_ruled (judge_instr c st i) (λ n. refused n at) (λ n. on_next n (λ later. then (judge_from left c later s next) (λ code stop. got ((at, i) ∷ code) stop)) (got ((at, i) ∷ []) next))) ≡ refused number place
          → ((next : ℕ) → length s ≤ next + left → (later : State) → judge_from left c later s next ≡ refused number place → FirstFaulty c later s next number place)
          → FirstFaulty c st s at number place
      go (refused n p) read f more = at_once (in_bytes (read ∙ as_refused f))
      go (got i next) read f more =
          let (forward, inside) = never_back instr_takes s at read in
          ruled i next read (judge_instr c st i) refl f (more next (omega arith))

  pub faulty_refused : (left : ℕ) {st stop : State} {first at number place : ℕ} {is : List Instr}
      → InstrsAt s first is at → TypedUpTo c st is stop → FaultAt c stop s at number place → length s ≤ first + left
      → judge_from left c st s first ≡ refused number place
  unfolding judge_from
  faulty_refused zero no_instr none_yet (in_bytes e) room = as_refused (sym (byte_missing _ (omega arith)) ∙ e)
  faulty_refused zero {at = at} no_instr none_yet (in_instruction read b) room = absurd (let (forward, inside) = never_back instr_takes s at read in omega arith)
  faulty_refused zero {first = first} (next_instr read more) (then_next t later) f room = absurd (let (forward, inside) = never_back instr_takes s first read in omega arith)
  faulty_refused (suc left) no_instr none_yet (in_bytes e) room = rw e
  faulty_refused (suc left) {stop = stop} no_instr none_yet (in_instruction {i = i} read b) room = rw (read, (instruction_fault c stop ordered i).1 b)
  faulty_refused (suc left) {st = st} {first = first} (next_instr read more) (then_next t later) f room =
      let (forward, inside) = never_back instr_takes s first read in
      rw (read, typed_allowed c st ordered t, faulty_refused left more later f (omega arith))
