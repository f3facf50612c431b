-- Soundness holds. The first machine is typed; a step from a typed machine goes on to a typed one, ends or traps; so every
-- machine that is reached is typed, and a run with a budget is such a walk. That a field which is read or written is there
-- follows from the same: with no such field the step would be stuck.
use Prim.Native.Nat.{ℕ, zero, suc, ◌+◌}
use native.Mathlib.Omega.{arith}
use mathlib.Core.Path.{◌≡◌, refl, sym, ap, ◌∙◌, subst}
use mathlib.Core.Bool.{Bool, true, false, cond}
use mathlib.Core.Option.{Option, none, some}
use mathlib.Core.List.{List, ◌∷◌}
use lib.ListN.{get_elem?}
use lib.Dec.{ltb}
use Rattle.scope.specs.declared.Ran.{Ran}
use Rattle.scope.specs.declared.Ran
use Rattle.scope.specs.Sizes.{most_budget}
use Rattle.scope.specs.Reading.{given}
use Rattle.scope.specs.Refusals.{no_default}
use Rattle.scope.specs.Lists.{every}
use Rattle.scope.specs.Syntax.{Heap, ref, Types}
use Rattle.scope.specs.Judging.{Judged, accepted, rejected, plain}
use Rattle.scope.specs.Instructions.{Op, op, struct_get, struct_set}
use Rattle.scope.specs.BodyRules.{has_default}
use Rattle.scope.specs.Bodies.{Code, Body, judge_body}
use Rattle.scope.specs.Machine.{Value, null, object, Object, Store, object_of, Machine, Outcome, goes, ends, traps, stuck, with_control, with_operands, with_heap, with_object, with_field, do_op, do_instr, step_on, step}
use Rattle.scope.specs.Running.{Ending, spent, on_outcome, run_by, run, start_of, program_of, Trial, trial_of, trial_run}
use Rattle.scope.specs.Answers.{RunMemory, ran_as, ran_of, state_after, run_call, run_lent, RunTried}
use Rattle.scope.proofs.Pairs.{inside}
use Rattle.scope.proofs.HeapLaws.{exact_very}
use Rattle.scope.proofs.OneState.{one_state_lem}
use Rattle.scope.proofs.Steps.{step_proceeds, reached-typed}
use Rattle.scope.proofs.Telling.{Accepting, accepts_this, accepts_nothing, accepts_then, accepts_either}
use Rattle.scope.proofs.Starting.{runs_known, start-typed}
use Rattle.scope.proofs.Soundness.{Has, of_null, Grows, TypedHere, TypedDone, Trap, Proceeds, is_over, is_trap, Reaches, at_first, one_more, Runs, EndsWell, is_done, is_trapped, is_spent, Answered, said_no, ran, FieldInside, Soundness, NoFieldOutside}
use Rattle.scope.proofs.Impossible.{impossible}

null_allowed : {ts : Types} {heap : Store} {n : Bool} {h : Heap} → Has ts heap null (ref n h) → n ≡ true
null_allowed of_null = refl

done-typed : {b : Body} {heap : Store} {m : Machine} → Proceeds b heap (ends m) → TypedDone b m
done-typed (is_over here grows) = here

trap_named : {b : Body} {heap : Store} {n : ℕ} → Proceeds b heap (traps n) → Trap n
trap_named (is_trap t) = t

not_stuck : {b : Body} {heap : Store} → Proceeds b heap stuck → ⊥
not_stuck p = elim p [ ]

module _ {library section s : List ℕ} {x : ℕ} {b : Body} (runs : Runs library section s x b) where
  typed_there : {n : ℕ} {m : Machine} → Reaches (program_of b) (start_of b) n m → TypedHere b m
  typed_there reaches = (reached-typed (runs_known runs).kept (runs_known runs).accepts (start-typed runs) reaches).0

  goes_there : {n : ℕ} {m : Machine} → Reaches (program_of b) (start_of b) n m → Proceeds b m.heap (step (program_of b) m)
  goes_there reaches = step_proceeds (runs_known runs).kept (runs_known runs).accepts (typed_there reaches)

  lasts : {n j : ℕ} {k m : Machine} → Reaches (program_of b) (start_of b) n k → Reaches (program_of b) k j m → Grows k.heap m.heap
  lasts reaches further = (reached-typed (runs_known runs).kept (runs_known runs).accepts (typed_there reaches) further).1

  -- so many steps are left of the budget
  runs_on : (budget left steps : ℕ) (m : Machine) → Reaches (program_of b) (start_of b) steps m → steps + left ≡ budget → EndsWell b budget (run (program_of b) left steps m)
  unfolding run run_by
  runs_on budget zero steps m reaches e =
      let q : steps ≡ budget = omega arith in
      subst (λ (n : ℕ). EndsWell b budget (spent n m)) (sym q) (is_spent (rw q at reaches) (typed_there reaches))
  runs_on budget (suc left) steps m reaches e = go (step (program_of b) m) refl (goes_there reaches) (λ later on. runs_on budget left (steps + 1) later on (omega arith))
    where
      go : (o : Outcome) → step (program_of b) m ≡ o → Proceeds b m.heap o
          → ((later : Machine) → Reaches (program_of b) (start_of b) (steps + 1) later → EndsWell b budget (run (program_of b) left (steps + 1) later))
          → EndsWell b budget (on_outcome o steps m (λ later. run (program_of b) left (steps + 1) later))
      go (goes later) is p more = more later (one_more reaches is)
      go (ends later) is p more = is_done {n = steps} (omega arith) reaches is (done-typed p)
      go (traps n) is p more = is_trapped {n = steps} (omega arith) reaches is (trap_named p) (typed_there reaches)
      go stuck is p more = absurd (not_stuck p)

  ends_well_lem : (budget : ℕ) → EndsWell b budget (run (program_of b) budget 0 (start_of b))
  ends_well_lem budget = runs_on budget budget 0 (start_of b) at_first (omega arith)

-- the trial run

pub record TrialSound (library section s : List ℕ) (x budget : ℕ) (t : Trial) : Type 0 where
  pub runs : Runs library section s x t.body
  pub well : EndsWell t.body budget t.ending

trial_sound : (library section s : List ℕ) (x budget : ℕ) → Accepting (TrialSound library section s x budget) (trial_run library section s x budget)
unfolding trial_run
trial_sound library section s x budget =
    accepts_then (judge_body library section s x) (λ b is.
    accepts_either (ltb most_budget budget) accepts_nothing (go b is (every has_default b.function.parameters) refl))
  where
    go :
        (b : Body) → judge_body library section s x ≡ accepted b → (t : Bool) → every has_default b.function.parameters ≡ t
        → Accepting (TrialSound library section s x budget) (cond t (accepted (trial_of b budget)) (rejected no_default (plain 0)))
    go b is true e = let runs : Runs library section s x b = record { is_accepted = is; defaults = e } in accepts_this (record { runs = runs; well = ends_well_lem runs budget })
    go b is false e = accepts_nothing

-- the public run

call_sound : (library section s : List ℕ) (x budget : ℕ) (lent : RunMemory) → Accepting (TrialSound library section s x budget) (run_call library section s x budget lent)
call_sound library section s x budget lent = accepts_either (run_lent lent) (trial_sound library section s x budget) accepts_nothing

answer_sound :
    {library section s : List ℕ} {x budget : ℕ} {lent later : RunMemory} {r : Ran} → RunTried library section s x budget lent later r
    → Answered library section s x budget lent later r
answer_sound {library} {section} {s} {x} {budget} {lent} {later} {r} tried = go (run_call library section s x budget lent) refl
  where
    go : (j : Judged Trial) → run_call library section s x budget lent ≡ j → Answered library section s x budget lent later r
    go (rejected n p) is = subst (Answered library section s x budget lent later) (sym (tried.answer ∙ ap (ran_of s) is)) said_no
    go (accepted t) is =
        let sound = (call_sound library section s x budget lent).tells t is in
        ran sound.runs
        (record {
          ending = t.ending;
          ends_well = sound.well;
          answer = tried.answer ∙ ap (ran_of s) is;
          counts = tried.counts ∙ ap (state_after s (λ w. w.counts) lent) is;
          objects = tried.objects ∙ ap (state_after s (λ w. w.objects) lent) is;
          cells = tried.cells ∙ ap (state_after s (λ w. w.cells) lent) is;
          locals = tried.locals ∙ ap (state_after s (λ w. w.locals) lent) is;
          operands = tried.operands ∙ ap (state_after s (λ w. w.operands) lent) is;
          blocks = tried.blocks ∙ ap (state_after s (λ w. w.blocks) lent) is;
        })

trap_of : (s : List ℕ) {b : Body} {budget t p n : ℕ} {e : Ending} → EndsWell b budget e → Ran.TheVariants.Trapped t p n ≡ ran_as s e → Trap t
trap_of s (is_done below reaches is typed) q = impossible cc
trap_of s (is_trapped {t = u} below reaches is trap typed) q = subst Trap (let same : u ≡ _ = cc in same) trap
trap_of s (is_spent reaches typed) q = impossible cc

traps_named :
    {library section s : List ℕ} {x budget t p n : ℕ} {lent later : RunMemory} {r : Ran} → Answered library section s x budget lent later r
    → r ≡ Ran.TheVariants.Trapped t p n → Trap t
traps_named said_no q = impossible cc
traps_named {s} (ran runs sound) q = trap_of s sound.ends_well (sym q ∙ sound.answer)

pub soundness : Soundness
soundness =
    record {
      typed = λ runs reaches. typed_there runs reaches;
      one_state = λ stands also. one_state_lem refl stands also;
      next = λ runs reaches. goes_there runs reaches;
      exactly = exact_very;
      nullable = null_allowed;
      lasting = λ runs reaches further. lasts runs reaches further;
      ended = ends_well_lem;
      tried = λ library section s x budget {t} is. let sound = (trial_sound library section s x budget).tells t is in (sound.runs, sound.well);
      answered = answer_sound;
      named = λ tried. traps_named (answer_sound tried) refl;
    }

-- the incident

-- a step that looks at field i of object o is stuck where there is no such object or no such field
looked_inside :
    {b : Body} {heap : Store} (os : Store) (o i : ℕ) (f : Object → Value → Outcome)
    → Proceeds b heap (given (object_of os o) stuck (λ it. given (get_elem? it.fields i) stuck (f it))) → FieldInside os o i
looked_inside {b} {heap} os o i f p = go (object_of os o) refl p
  where
    field : (it : Object) (v : Option Value) → object_of os o ≡ some it → get_elem? it.fields i ≡ v → Proceeds b heap (given v stuck (f it)) → FieldInside os o i
    field it none there is p = absurd (not_stuck p)
    field it (some v) there is p = record { it = it; there = there; inside = inside it.fields i is }

    go : (it : Option Object) → object_of os o ≡ it → Proceeds b heap (given it stuck (λ it. given (get_elem? it.fields i) stuck (f it))) → FieldInside os o i
    go none there p = absurd (not_stuck p)
    go (some it) there p = field it (get_elem? it.fields i) there refl p

step_is :
    (b : Body) (m : Machine) {at : ℕ} {o : Op} {code : Code} {vs : List Value} → m.code ≡ (at, op o) ∷ code → m.operands ≡ vs
    → step (program_of b) m ≡ do_op (program_of b) (with_control m vs m.blocks code) vs o
unfolding step do_instr
step_is b m {at} {o} {code} {vs} e q = ap (step_on (program_of b) m) e ∙ ap (λ (ws : List Value). do_op (program_of b) (with_control m ws m.blocks code) ws o) q

read_inside :
    {b : Body} {heap : Store} (m : Machine) (y i o : ℕ) (below : List Value)
    → Proceeds b heap (do_op (program_of b) m (object o ∷ below) (struct_get y i)) → FieldInside m.heap o i
unfolding do_op
read_inside m y i o below p = looked_inside m.heap o i (λ it held. goes (with_operands m (held ∷ below))) p

written-inside :
    {b : Body} {heap : Store} (m : Machine) (y i o : ℕ) (v : Value) (below : List Value)
    → Proceeds b heap (do_op (program_of b) m (v ∷ object o ∷ below) (struct_set y i)) → FieldInside m.heap o i
unfolding do_op
written-inside m y i o v below p = looked_inside m.heap o i (λ it old. goes (with_operands (with_heap m (with_object m.heap o (with_field it i v))) below)) p

pub no_field_outside : NoFieldOutside
no_field_outside =
    record {
      read = λ {b} {m} {y} {i} {o} {code} {below} runs reaches e q.
          read_inside (with_control m (object o ∷ below) m.blocks code) y i o below (rw (step_is b m e q) at (goes_there runs reaches));
      written = λ {b} {m} {y} {i} {o} {code} {v} {below} runs reaches e q.
          written-inside (with_control m (v ∷ object o ∷ below) m.blocks code) y i o v below (rw (step_is b m e q) at (goes_there runs reaches));
    }
