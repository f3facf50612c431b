-- Each way out of one turn.
use Prim.Native.Nat.{ℕ, zero, suc, ◌+◌, ◌-◌, ◌<◌, ◌≤◌}
use mathlib.Core.Path.{◌≡◌, refl, sym, ap, ◌∙◌}
use mathlib.Core.List.{List, [], ◌∷◌}
use native.Mathlib.Omega.{arith}
use native.Mathlib.Nat.{add-zero}
use lib.ListN.{length, get_elem?}
use Rattle.std.specs.Prelude.{Result, Ok, Err}
use Rattle.scope.specs.declared.Refused.{Refused}
use Rattle.scope.specs.Sizes.{most_types}
use Rattle.scope.specs.Refusals.{bytes_end}
use Rattle.scope.specs.Reading.{Read, got, refused, then}
use Rattle.scope.specs.Instructions.{Instr, instr_at}
use Rattle.scope.specs.BodyRules.{Context, Ruled, allowed, fault}
use Rattle.scope.specs.Bodies.{State, Next, goes_on, finished, Code, judge_instr, judge_from}
use Rattle.scope.proofs.Impossible.{impossible, contradiction}
use Rattle.number_bytes.proofs.Exits.{element_missing}
use Rattle.body_immediates.specs.declared.Instruction.{Instruction}
use Rattle.body_immediates.specs.Coding.{instruction_of, instruction_is}
use Rattle.body_immediates.proofs.Laws.{instruction_got, instruction_refused}
use Rattle.body_instruction.proofs.Laws.{instruction_ahead}
use Rattle.body_decoded.specs.Decoded.{instr_of}
use Rattle.body_decoded.proofs.Short.{read_short}
use Rattle.body_decoded.proofs.Kept.{instr_kept}
use Rattle.body_state.specs.declared.Check.{Check}
use Rattle.body_state.specs.declared.Scene.{Scene}
use Rattle.body_state.specs.declared.Step.{Step}
use Rattle.body_state.specs.declared.Step
use Rattle.body_state.specs.State.{context_at, state_at, Upright, Stamped, step_of}
use Rattle.body_step.specs.Stepping.{Standing, SteppedAt}
use Rattle.body_progress.specs.Counted.{counted}
use Rattle.body_progress.proofs.Counting.{counted-one, context_same}
use Rattle.body_turn.specs.declared.Turn.{Turn}
use Rattle.body_turn.specs.declared.Turn
use Rattle.body_turn.specs.Turning.{Turning, turned_on, Onward, Turned}

-- no stamp is later than the next instruction
later : {work : List ℕ} {count depth at next : ℕ} → at < next → Stamped work count depth (at + 1) → Stamped work count depth next
later h s = record { locals = λ i l. let old = s.locals i l in omega arith; frames = λ m l. let old = s.frames m l in omega arith }

-- past the end

read_past : (s : List ℕ) (at : ℕ) → length s ≤ at → instr_at s at ≡ refused bytes_end at
unfolding instr_at
read_past s at h = rw (element_missing s at h)

-- one instruction of the definition

from_refused : (left : ℕ) (c : Context) (st : State) (s : List ℕ) (at : ℕ) {n place : ℕ} → length s ≤ at + left → instr_at s at ≡ refused n place → judge_from left c st s at ≡ refused n place
unfolding judge_from
from_refused zero c st s at {n} {place} h e = let same : ◌≡◌ {A = Read Instr} (refused bytes_end at) (refused n place) = sym (read_past s at (omega arith)) ∙ e in cc
from_refused (suc left) c st s at h e = rw e

from_fault : (left : ℕ) (c : Context) (st : State) (s : List ℕ) (at : ℕ) {next n : ℕ} {j : Instr} → instr_at s at ≡ got j next → judge_instr c st j ≡ fault n → judge_from (suc left) c st s at ≡ refused n at
unfolding judge_from
from_fault left c st s at e f = rw (e, f)

from_finished : (left : ℕ) (c : Context) (st : State) (s : List ℕ) (at : ℕ) {next : ℕ} {j : Instr} → instr_at s at ≡ got j next → judge_instr c st j ≡ allowed finished → judge_from (suc left) c st s at ≡ got ((at, j) ∷ []) next
unfolding judge_from
from_finished left c st s at e f = rw (e, f)

from_on : (left : ℕ) (c : Context) (st st' : State) (s : List ℕ) (at : ℕ) {next : ℕ} {j : Instr} → instr_at s at ≡ got j next → judge_instr c st j ≡ allowed (goes_on st') → judge_from (suc left) c st s at ≡ then (judge_from left c st' s next) (λ code stop. got ((at, j) ∷ code) stop)
unfolding judge_from
from_on left c st st' s at e f = rw (e, f)

module _ (rows codes : List ℕ) {table work : List ℕ} {k : Scene} {st : Check} {s : List ℕ} {at : ℕ} (p : Turning table work k st s at) {r : Result (Instruction × ℕ) Refused} (a : r ≡ instruction_is (instr_at s at)) where
  pub turn_refused : {no : Refused} → r ≡ Err no → {work' : List ℕ} → work' ≡ work → Turned rows codes work work' k st s at (Turn.TheVariants.Refused no.number no.at)
  turn_refused e same =
      let read = instruction_refused (instr_at s at) a e in
      record {
        answer = λ n left h. ap (counted n) (from_refused left (context_at rows codes work k) (state_at work k.locals st) s at h read);
        onward = λ st' next q. impossible cc;
        size = ap length same;
      }

  module _ {i : Instruction} {following : ℕ} (e : r ≡ Ok (i, following)) where
    forward : at < following
    forward = (instruction_ahead {s = s} {at = at} a e).forward

    within : following ≤ length s
    within = (instruction_ahead {s = s} {at = at} a e).inside

    enough : (left : ℕ) → length s ≤ at + left → left ≡ suc (left - 1)
    enough left h = let f = forward in let w = within in omega arith

    module _ {work' : List ℕ} {step : Step} (q : SteppedAt work work' k.locals at (judge_instr (context_at rows codes work k) (state_at work k.locals st) (instr_of i)) step) where
      -- what the definition says of what was read
      judged : (j : Instr) → instr_at s at ≡ got j following → i ≡ instruction_of j → judge_instr (context_at rows codes work k) (state_at work k.locals st) j ≡ step_of work' k.locals step
      unfolding context_at
      judged j read same =
          let c = context_at rows codes work k in
          let st' = state_at work k.locals st in
          let few : c.count ≤ most_types = p.few in
          let one = instr_kept c few st' j (read_short s at read) in
          sym (ap (λ (x : Instruction). judge_instr c st' (instr_of x)) same ∙ one) ∙ sym q.answer

      -- with one instruction at least to be judged
      module _ (n left : ℕ) (h : length s ≤ at + left) where
        one_more_lem : counted n (judge_from left (context_at rows codes work k) (state_at work k.locals st) s at) ≡ counted n (judge_from (suc (left - 1)) (context_at rows codes work k) (state_at work k.locals st) s at)
        one_more_lem = ap (λ (l : ℕ). counted n (judge_from l (context_at rows codes work k) (state_at work k.locals st) s at)) (enough left h)

      pub turn_fault : {n : ℕ} → step ≡ Step.TheVariants.Fault n → Turned rows codes work work' k st s at (Turn.TheVariants.Refused n at)
      turn_fault f =
          let (j, read, same) = instruction_got (instr_at s at) a e in
          let says = judged j read same ∙ ap (step_of work' k.locals) f in
          record {
            answer = λ n left h. one_more_lem n left h ∙ ap (counted n) (from_fault (left - 1) (context_at rows codes work k) (state_at work k.locals st) s at read says);
            onward = λ st' next z. impossible cc;
            size = q.size;
          }

      pub turn_finished : step ≡ Step.TheVariants.Finished → Turned rows codes work work' k st s at (Turn.TheVariants.Finished following)
      turn_finished f =
          let (j, read, same) = instruction_got (instr_at s at) a e in
          let says = judged j read same ∙ ap (step_of work' k.locals) f in
          record {
            answer = λ n left h. one_more_lem n left h ∙ ap (counted n) (from_finished (left - 1) (context_at rows codes work k) (state_at work k.locals st) s at read says);
            onward = λ st' next z. impossible cc;
            size = q.size;
          }

      pub turn_on : {st' : Check} → step ≡ Step.TheVariants.On st' → Turned rows codes work work' k st s at (Turn.TheVariants.On st' following)
      turn_on {st'} f =
          let (j, read, same) = instruction_got (instr_at s at) a e in
          let says = judged j read same ∙ ap (step_of work' k.locals) f in
          let context = context_same rows codes work work' k p.standing.opening.upright.few q.types in
          let here : Onward work' k s at st' following = record { upright = q.upright st' f; stamped = later forward (q.stamped st' f); forward = forward; inside = within } in
          record {
            answer = λ n left h.
                one_more_lem n left h
                ∙ ap (counted n) (from_on (left - 1) (context_at rows codes work k) (state_at work k.locals st) (state_at work' k.locals st') s at read says)
                ∙ counted-one n at j (judge_from (left - 1) (context_at rows codes work k) (state_at work' k.locals st') s following)
                ∙ ap (λ (c : Context). counted (n + 1) (judge_from (left - 1) c (state_at work' k.locals st') s following)) (sym context);
            onward = λ st'' next z. let one : st' ≡ st'' = cc in let two : following ≡ next = cc in rw (← one, ← two) here;
            size = q.size;
          }

pub turn_standing : {table work : List ℕ} {k : Scene} {st : Check} {s : List ℕ} {at : ℕ} → Turning table work k st s at → Standing table work k.locals st at
turn_standing p = p.standing

pub ruleset turn_exits = (turn_standing, turn_refused, turn_fault, turn_finished, turn_on)
